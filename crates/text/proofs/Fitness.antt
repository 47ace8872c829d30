-- The loop of `is_unfit`: whether a byte outside 32 to 126 was passed.
use mathlib.Core.Path.{◌≡◌, refl, sym, ◌∙◌}
use mathlib.Core.Bool.{Bool, true, false, not, ◌&&◌, ◌||◌, or-false}
use Prim.Native.Nat.{ℕ, ◌+◌, ◌≤◌, ◌<◌}
use native.Mathlib.Omega.{arith}
use lib.Dec.{leb, ltb}
use lib.ListN.{length, get_or, drop, drop_of_length-le}
use Rattle.groundwork.proofs.Truth.{by_truth, leb-le, leb-gt, lt-ltb, ge-ltb}
use Rattle.theory.specs.Lists.{every}
use Rattle.theory.specs.Text.{Bytes, between}
use Rattle.theory.specs.Faults.{is_unfit}
use Rattle.text.proofs.Classes.{every_at}

-- the bytes before place i are passed; the flag says whether one of them is unfit
pub record Scanned (s : Bytes) (unfit : Bool) (i : ℕ) : Type 0 where
  pub high : i ≤ length s
  pub rest : not (every (between 32 126) s) ≡ (unfit || not (every (between 32 126) (drop i s)))

pub below_is_not_above : (m n : ℕ) → ltb m n ≡ not (leb n m)
below_is_not_above m n = by_truth (λ (c : Bool). ltb m n ≡ not c) (leb n m) (λ e. ge-ltb m n (leb-le n m e)) (λ e. lt-ltb m n (leb-gt n m e))

-- the flag with one byte more, low and high saying whether it is within the bounds
one_fit_more : (unfit low high rest : Bool) → (unfit || not (low && high && rest)) ≡ (unfit || not low || not high || not rest)
one_fit_more true low high rest = refl
one_fit_more false true true rest = refl
one_fit_more false true false rest = refl
one_fit_more false false high rest = refl

module _ (s : Bytes) where
  pub unfit_long : 1024 < length s → true ≡ is_unfit s
  unfolding is_unfit
  unfit_long h = rw (lt-ltb 1024 (length s) h)

  pub unfit_fine : length s ≤ 1024 → every (between 32 126) s ≡ true → false ≡ is_unfit s
  unfolding is_unfit
  unfit_fine short fine = rw (ge-ltb 1024 (length s) short, fine)

  module _ (unfit : Bool) (i : ℕ) (c : Scanned s unfit i) where
    pub scanned_more : i < length s → Scanned s (unfit || ltb (get_or s i 0) 32 || ltb 126 (get_or s i 0)) (i + 1)
    scanned_more h = record {
      high = omega arith;
      rest =
          c.rest
          ∙ rw (every_at (between 32 126) s i h, below_is_not_above (get_or s i 0) 32, below_is_not_above 126 (get_or s i 0)) (one_fit_more unfit (leb 32 (get_or s i 0)) (leb (get_or s i 0) 126) _);
    }

    pub scanned_all : length s ≤ i → length s ≤ 1024 → unfit ≡ is_unfit s
    unfolding every is_unfit
    scanned_all h short = rw (ge-ltb 1024 (length s) short) (sym (c.rest ∙ rw (drop_of_length-le s h) (or-false unfit)))
