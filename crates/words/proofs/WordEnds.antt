-- The loop of `word_end`: the bytes passed are those of a name.
use mathlib.Core.Path.{◌≡◌, refl, ◌∙◌, ap}
use mathlib.Core.Bool.{true, false, not}
use Prim.Native.Nat.{ℕ, ◌+◌, ◌≤◌, ◌<◌}
use native.Mathlib.Omega.{arith}
use lib.ListN.{length, get_or}
use Rattle.theory.specs.Lists.{every}
use Rattle.theory.specs.Text.{Bytes, is_name_byte}
use Rattle.text.specs.Scans.{part}
use Rattle.text.proofs.Parts.{every_none, every_more}
use Rattle.words.specs.Classes.{class_of, EndsWord}
use Rattle.words.specs.declared.table.Class.{Class}
use Rattle.words.specs.declared.table.Class.TheVariants.{Outside, Small, Capital, Inner}
use Rattle.words.proofs.ClassLaws.{is_outside, named_is}

-- a byte that is not outside names
inside : (c : Class) → (c ≡ Outside → ⊥) → is_outside c ≡ false
inside Outside other = absurd (other refl)
inside Small other = refl
inside Capital other = refl
inside Inner other = refl

-- the bytes from `from` up to i are all of a name
pub record Named (s : Bytes) (from i : ℕ) : Type 0 where
  pub low : from ≤ i
  pub high : i ≤ length s
  pub named : every is_name_byte (part s from i) ≡ true

module _ (s : Bytes) (from : ℕ) where
  pub named_none : from ≤ length s → Named s from from
  named_none h = record { low = omega arith; high = h; named = every_none s is_name_byte from }

  module _ (i : ℕ) (n : Named s from i) where
    pub named_more : i < length s → (class_of (get_or s i 0) ≡ Outside → ⊥) → Named s from (i + 1)
    named_more h other = record {
      low = omega (arith, n.low);
      high = omega arith;
      named = every_more s is_name_byte from i n.low h n.named (named_is (get_or s i 0) ∙ ap not (inside (class_of (get_or s i 0)) other));
    }

    pub named_ended : class_of (get_or s i 0) ≡ Outside → EndsWord s from i
    named_ended none = record { low = n.low; high = n.high; named = n.named; ended = λ _. named_is (get_or s i 0) ∙ ap (λ (c : Class). not (is_outside c)) none }
