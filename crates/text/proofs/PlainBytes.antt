-- The loop of `is_plain`: whether a byte that is not plain was passed.
use mathlib.Core.Path.{◌≡◌, refl, sym, ◌∙◌}
use mathlib.Core.Bool.{Bool, true, false, not, ◌&&◌, ◌||◌, and-true}
use Prim.Native.Nat.{ℕ, ◌+◌, ◌≤◌, ◌<◌}
use native.Mathlib.Omega.{arith}
use lib.Dec.{eqb, leb, ltb}
use lib.ListN.{length, get_or, drop, drop_of_length-le}
use Rattle.theory.specs.Lists.{every}
use Rattle.theory.specs.Text.{Bytes}
use Rattle.text.specs.Scans.{is_plain}
use Rattle.text.proofs.Classes.{every_at}
use Rattle.text.proofs.Fitness.{below_is_not_above}

-- the bytes before place i are passed; the flag says whether one of them is not plain
pub record Passed (s : Bytes) (odd : Bool) (i : ℕ) : Type 0 where
  pub high : i ≤ length s
  pub rest : every is_plain s ≡ (not odd && every is_plain (drop i s))

-- the flag with one byte more: whether it is 10, and low and high saying whether it is within the bounds
one_plain_more : (odd ten low high rest : Bool) → (not odd && ((ten || (low && high)) && rest)) ≡ (not (odd || ((not low || not high) && not ten)) && rest)
one_plain_more true ten low high rest = refl
one_plain_more false true true true rest = refl
one_plain_more false true true false rest = refl
one_plain_more false true false high rest = refl
one_plain_more false false true true rest = refl
one_plain_more false false true false rest = refl
one_plain_more false false false high rest = refl

module _ (s : Bytes) where
  pub passed_none : Passed s false 0
  passed_none = record { high = omega arith; rest = refl }

  module _ (odd : Bool) (i : ℕ) (c : Passed s odd i) where
    pub passed_more : i < length s → Passed s (odd || ((ltb (get_or s i 0) 32 || ltb 126 (get_or s i 0)) && not (eqb (get_or s i 0) 10))) (i + 1)
    unfolding is_plain
    passed_more h = record {
      high = omega arith;
      rest =
          c.rest
          ∙ rw (every_at is_plain s i h, below_is_not_above (get_or s i 0) 32, below_is_not_above 126 (get_or s i 0)) (one_plain_more odd (eqb (get_or s i 0) 10) (leb 32 (get_or s i 0)) (leb (get_or s i 0) 126) _);
    }

    pub passed_all : length s ≤ i → not odd ≡ every is_plain s
    unfolding every
    passed_all h = sym (c.rest ∙ rw (drop_of_length-le s h) (and-true (not odd)))
