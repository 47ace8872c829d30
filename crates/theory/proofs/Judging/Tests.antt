-- Numbered tests: the first number is 0 exactly if no test finds its fault.
use mathlib.Core.Path.{◌≡◌, refl}
use mathlib.Core.Bool.{Bool, true, false}
use mathlib.Core.List.{List, [], ◌∷◌, ◌++◌}
use Prim.Native.Nat.{ℕ, ◌<◌}
use native.Mathlib.Omega.{arith}
use Rattle.theory.specs.Faults.{Test, test, first_given}

-- no test finds its fault
abbrev pub Clear : List Test → Type 0
Clear [] = Unit {0}
Clear (t ∷ ts) = (t.finds ≡ false) × Clear ts

-- one test after another
infixr 10 ◌then◌
abbrev pub ◌then◌ : {X Y : Type 0} → X → Y → X × Y
◌then◌ x y = (x, y)

-- some tests after others
pub clear_parts : (ts us : List Test) → Clear (ts ++ us) → Clear ts × Clear us
clear_parts [] us c = (tt, c)
clear_parts (t ∷ ts) us c = let (first, rest) = clear_parts ts us c.1 in ((c.0, first), rest)

pub both_clear : (ts us : List Test) → Clear ts → Clear us → Clear (ts ++ us)
both_clear [] us c d = d
both_clear (t ∷ ts) us c d = (c.0, both_clear ts us c.1 d)

-- tests that find nothing, in front
pub first_clear : (ts us : List Test) → Clear ts → first_given (ts ++ us) ≡ first_given us
unfolding first_given
first_clear [] us c = refl
first_clear (t ∷ ts) us c = rw c.0 (first_clear ts us c.1)

-- one test in front
pub first_passed : (n : ℕ) (finds : Bool) (ts : List Test) → finds ≡ false → first_given (test n finds ∷ ts) ≡ first_given ts
unfolding first_given
first_passed n finds ts e = rw e

pub first_found : (n : ℕ) (finds : Bool) (ts : List Test) → finds ≡ true → first_given (test n finds ∷ ts) ≡ n
unfolding first_given
first_found n finds ts e = rw e

-- the last test of some, with none before it that finds its fault
pub last_found : (n : ℕ) (finds : Bool) → 0 < n → first_given (test n finds ∷ []) ≡ n → finds ≡ true
unfolding first_given
last_found n true above e = refl
last_found n false above e = absurd (omega arith)

-- no test has the number that says there is no fault
abbrev pub Numbered : List Test → Type 0
Numbered [] = Unit {0}
Numbered (t ∷ ts) = (0 < t.number) × Numbered ts

pub clear_zero : (ts : List Test) → Clear ts → first_given ts ≡ 0
unfolding first_given
clear_zero [] c = refl
clear_zero (t ∷ ts) c = rw c.0 (clear_zero ts c.1)

pub zero_clear : (ts : List Test) → Numbered ts → first_given ts ≡ 0 → Clear ts
unfolding first_given
zero_clear [] n e = tt
zero_clear (t ∷ ts) n e = go t.number t.finds n.0 e (zero_clear ts n.1)
  where
    go : (number : ℕ) (finds : Bool) → 0 < number → first_given (test number finds ∷ ts) ≡ 0 → (first_given ts ≡ 0 → Clear ts) → (finds ≡ false) × Clear ts
    go number true above found below = absurd (omega arith)
    go number false above found below = (refl, below found)
