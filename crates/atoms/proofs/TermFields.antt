-- A field of a line that states an atom: a term, its form into the row of its argument.
use mathlib.Core.Path.{◌≡◌}
use mathlib.Core.Bool.{true}
use mathlib.Core.List.{List}
use Prim.Native.Nat.{ℕ, ◌≤◌}
use native.Mathlib.Omega.{arith}
use Rattle.std.specs.Prelude.{Result, Ok, Err}
use Rattle.theory.specs.Text.{Bytes}
use Rattle.theory.specs.Sizes.{Measure}
use Rattle.theory.specs.Faults.{is_term}
use Rattle.words.specs.declared.Words.{Words}
use Rattle.tables.specs.declared.Fault.{Fault}
use Rattle.tables.specs.declared.Fault.TheVariants.{NoTerm}
use Rattle.tables.proofs.Outcomes.{field_passes, field_fails}
use Rattle.atoms.specs.Fields.{FieldTerm}

-- a field that is read is a term
module _ {m : Measure} {atom index : ℕ} {field : Bytes} {many : ℕ} {names₀ : List Words} {rows₀ : List ℕ} {r : Result ℕ Fault} {names : List Words} {rows : List ℕ} (done : FieldTerm m atom index field many names₀ rows₀ r names rows) {n : ℕ} (e : r ≡ Ok n) where
  pub t_read : (is_term field ≡ true) × (done.known ≡ n)
  t_read = field_passes done.known NoTerm (is_term field) done.answer e

  pub t_high : n ≤ 17
  t_high = omega (arith, done.high, t_read.1)

pub t_misread : {m : Measure} {atom index : ℕ} {field : Bytes} {many : ℕ} {names₀ : List Words} {rows₀ : List ℕ} {r : Result ℕ Fault} {names : List Words} {rows : List ℕ} → FieldTerm m atom index field many names₀ rows₀ r names rows → {f : Fault} → r ≡ Err f → NoTerm ≡ f
t_misread {field = field} done e = (field_fails done.known NoTerm (is_term field) done.answer e).1
