-- The class of a byte: what it tells, and the table of the classes of all bytes.
use mathlib.Core.Path.{◌≡◌, refl, ◌∙◌, ap}
use mathlib.Core.Bool.{Bool, true, false, not, cond}
use mathlib.Core.List.{List, [], ◌∷◌}
use Prim.Native.Nat.{ℕ, zero, suc, ◌+◌, ◌≤◌, ◌<◌}
use native.Mathlib.Omega.{arith}
use lib.ListN.{get_or}
use Rattle.theory.specs.Text.{is_lower, is_upper, is_name_byte}
use Rattle.theory.proofs.Reading.Bytes.{between_low}
use Rattle.text.proofs.Classes.{between_above}
use Rattle.words.specs.Classes.{class_of, ClassesStand}
use Rattle.words.specs.declared.table.Class.{Class}
use Rattle.words.specs.declared.table.Class.TheVariants.{Outside, Small, Capital, Inner}
use Rattle.words.proofs.Letters.{lower_in_name, upper_in_name}

-- ---- what a class tells

abbrev pub is_small : Class → Bool
is_small Small = true
is_small Outside = false
is_small Capital = false
is_small Inner = false

abbrev pub is_capital : Class → Bool
is_capital Capital = true
is_capital Outside = false
is_capital Small = false
is_capital Inner = false

abbrev pub is_outside : Class → Bool
is_outside Outside = true
is_outside Small = false
is_outside Capital = false
is_outside Inner = false

no_capital : (b : ℕ) → is_lower b ≡ true → is_upper b ≡ false
no_capital b h = let low : 97 ≤ b = between_low 97 122 b h in between_above 65 90 b (omega arith)

module _ (b : ℕ) where
  pub lower_is : is_lower b ≡ is_small (class_of b)
  unfolding class_of
  lower_is = by (is_lower b) (is_upper b) (is_name_byte b)
    where
      by : (l u n : Bool) → l ≡ is_small (cond l Small (cond u Capital (cond n Inner Outside)))
      by true u n = refl
      by false true n = refl
      by false false true = refl
      by false false false = refl

  pub upper_is : is_upper b ≡ is_capital (class_of b)
  unfolding class_of
  upper_is = by (is_lower b) (is_upper b) (is_name_byte b) (no_capital b)
    where
      by : (l u n : Bool) → (l ≡ true → u ≡ false) → u ≡ is_capital (cond l Small (cond u Capital (cond n Inner Outside)))
      by true u n other = other refl
      by false true n other = refl
      by false false true other = refl
      by false false false other = refl

  pub named_is : is_name_byte b ≡ not (is_outside (class_of b))
  unfolding class_of
  named_is = by (is_lower b) (is_upper b) (is_name_byte b) (lower_in_name b) (upper_in_name b)
    where
      by : (l u n : Bool) → (l ≡ true → n ≡ true) → (u ≡ true → n ≡ true) → n ≡ not (is_outside (cond l Small (cond u Capital (cond n Inner Outside))))
      by true u n small capital = small refl
      by false true n small capital = capital refl
      by false false true small capital = refl
      by false false false small capital = refl

-- ---- the table

-- the classes of k bytes, from i on
unfoldable pub classes_from : ℕ → ℕ → List Class
classes_from zero i = []
classes_from (suc k) i = class_of i ∷ classes_from k (suc i)

class_in : (k i b : ℕ) → b < k → get_or (classes_from k i) b Outside ≡ class_of (i + b)
unfolding classes_from
class_in zero i b h = absurd (omega arith)
class_in (suc k) i zero h = let same : i + 0 ≡ i = omega arith in rw same
class_in (suc k) i (suc b) h = let next : i + suc b ≡ suc i + b = omega arith in rw next (class_in k (suc i) b (omega arith))

pub classes_stand : (table : List Class) → table ≡ classes_from 256 0 → ClassesStand table
classes_stand table e = record { class = λ b h. let same : 0 + b ≡ b = omega arith in ap (λ (t : List Class). get_or t b Outside) e ∙ rw same at (class_in 256 0 b h) }
