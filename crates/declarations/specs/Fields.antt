-- The fields of a `C` line: whether each is well formed, and what it leaves; and what those read so far have left.
use Rattle.std.specs.Prelude.{◌≡◌, true, cond, List, ℕ, ◌≤◌, ◌<◌, ℤ, pos, nat_abs, length, get_or, Result, Ok, Err}
use Rattle.std.proofs.Math.Option.{some}
use Rattle.theory.specs.Text.{Bytes, integer}
use Rattle.theory.specs.Packs.{number_limit}
use Rattle.theory.specs.Faults.{is_claim_number}
use Rattle.tables.specs.declared.Fault.{Fault}
use Rattle.tables.specs.declared.Fault.TheVariants.{Number}
use Rattle.tables.specs.Lines.{at}

-- a number of a claim
pub record FieldC (index : ℕ) (field : Bytes) (many : ℕ) (row₀ : List ℤ) (r : Result ℕ Fault) (row : List ℤ) : Type 0 where
  pub answer : r ≡ cond (is_claim_number field) (Ok many) (Err Number)
  pub read : is_claim_number field ≡ true → integer number_limit field ≡ some (get_or row index (pos 0))
  pub kept : (i : ℕ) → (i ≡ index → ⊥) → get_or row i (pos 0) ≡ get_or row₀ i (pos 0)
  pub size : length row ≡ length row₀
  pub small : ((i : ℕ) → nat_abs (get_or row₀ i (pos 0)) ≤ 9999) → (i : ℕ) → nat_abs (get_or row i (pos 0)) ≤ 9999

-- ## The first fields

pub record ProgressC (fs : List Bytes) (index : ℕ) (row : List ℤ) : Type 0 where
  pub read : (i : ℕ) → i < index → integer number_limit (at fs i) ≡ some (get_or row i (pos 0))
