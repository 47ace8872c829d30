-- What a step of a line answers where one test decides it: the answer tells what the test found.
use mathlib.Core.Path.{◌≡◌, refl, sym, ◌∙◌, ap}
use mathlib.Core.Bool.{Bool, true, false, cond}
use Prim.Native.Nat.{ℕ, ◌≤◌, ◌<◌}
use lib.Dec.{leb}
use Rattle.std.specs.Prelude.{Option, Some, None, Result, Ok, Err}
use Rattle.std.specs.Option.{ok_or}
use Rattle.groundwork.proofs.Truth.{le-leb, gt-leb}
use Rattle.tables.specs.declared.State.{State}
use Rattle.tables.specs.declared.Fault.{Fault}
use Rattle.tables.specs.Faults.{number_of, closing_number}

-- ---- any step

module _ {A : Type 0} where
  pub ok_never_err : {a : A} {f : Fault} → Ok a ≡ Err f → ⊥
  ok_never_err e = cc

  pub same_ok : {a b : A} → ◌≡◌ {A = Result A Fault} (Ok a) (Ok b) → a ≡ b
  same_ok e = cc

  pub same_err : {f g : Fault} → ◌≡◌ {A = Result A Fault} (Err f) (Err g) → f ≡ g
  same_err e = cc

-- what `ok_or` answers of nothing
pub none_refused : {A : Type 0} (o : Option A) {f g : Fault} → ◌≡◌ {A = Result A Fault} (Err g) (ok_or o f) → (o ≡ None) × (g ≡ f)
none_refused (Some x) is = absurd (ok_never_err (sym is))
none_refused None is = (refl, same_err is)

-- ---- a field

module _ (m : ℕ) (f : Fault) {r : Result ℕ Fault} where
  pub field_passes : (good : Bool) {n : ℕ} → r ≡ cond good (Ok m) (Err f) → r ≡ Ok n → (good ≡ true) × (m ≡ n)
  field_passes true is e = (refl, cc)
  field_passes false is e = absurd (ok_never_err (sym (sym is ∙ e)))

  pub field_fails : (good : Bool) {g : Fault} → r ≡ cond good (Ok m) (Err f) → r ≡ Err g → (good ≡ false) × (f ≡ g)
  field_fails true is e = absurd (ok_never_err (sym is ∙ e))
  field_fails false is e = (refl, cc)

-- ---- the end of a line

module _ (f : Fault) (s : State) {r : Result State Fault} where
  pub line_number : (past : Bool) → r ≡ cond past (Err f) (Ok s) → closing_number r ≡ cond past (number_of f) 0
  line_number true is = ap closing_number is
  line_number false is = ap closing_number is

  pub line_passes : (past : Bool) {t : State} → r ≡ cond past (Err f) (Ok s) → r ≡ Ok t → (past ≡ false) × (s ≡ t)
  line_passes true is e = absurd (ok_never_err (sym (sym is ∙ e)))
  line_passes false is e = (refl, cc)

  pub line_fails : (past : Bool) {g : Fault} → r ≡ cond past (Err f) (Ok s) → r ≡ Err g → (past ≡ true) × (f ≡ g)
  line_fails true is e = (refl, cc)
  line_fails false is e = absurd (ok_never_err (sym is ∙ e))

-- a limit on how many there may be
module _ (f : Fault) (s : State) (limit n : ℕ) where
  pub at_limit : limit ≤ n → Err f ≡ cond (leb limit n) (Err f) (Ok s)
  at_limit h = rw (le-leb limit n h)

  pub below_limit : n < limit → Ok s ≡ cond (leb limit n) (Err f) (Ok s)
  below_limit h = rw (gt-leb limit n h)
