-- The fields and the end of an `M` line: the multipliers, the weights that those read so far have left, and the residual.
use Rattle.std.specs.Prelude.{◌≡◌, true, false, cond, List, ℕ, zero, suc, ◌+◌, ◌*◌, ◌<◌, eqb, ℤ, pos, ◌-ℤ◌, ◌*ℤ◌, length, get_or, Result, Ok, Err}
use Rattle.std.proofs.Math.Option.{some}
use Rattle.std.specs.Int.Signed.{non_neg}
use Rattle.theory.specs.Text.{Bytes, natural}
use Rattle.theory.specs.Packs.{number_limit}
use Rattle.theory.specs.Written.{multiplier_from}
use Rattle.theory.specs.Faults.{is_multiplier}
use Rattle.forms.specs.declared.Form.{Form}
use Rattle.tables.specs.declared.Slot.{Slot}
use Rattle.tables.specs.declared.State.{State}
use Rattle.tables.specs.declared.Fault.{Fault}
use Rattle.tables.specs.declared.Fault.TheVariants.{Number, Unjustified}
use Rattle.tables.specs.Tables.{slot_at, claim_place, NoWeights}
use Rattle.tables.specs.Lines.{at}
use Rattle.residuals.specs.Sums.{width, number_at, SumsTo}
use Rattle.certificates.specs.Weights.{Weighs, HeadWeighed}

pub record FieldM (index : ℕ) (field : Bytes) (many : ℕ) (claims : List ℤ) (slots : List Slot) (weights₀ : List ℤ) (r : Result ℕ Fault) (weights : List ℤ) : Type 0 where
  pub answer : r ≡ cond (is_multiplier field) (Ok many) (Err Number)
  pub weighed : is_multiplier field ≡ true → (m : ℕ) × (natural number_limit field ≡ some m) × Weighs (pos m) claims (slot_at slots index).place ((slot_at slots index).subgoal + 1) weights₀ weights
  pub size : length weights ≡ length weights₀

-- the weight of a subgoal's argument (or its constant) after the first multipliers
unfoldable pub weight_after : List ℤ → List Slot → List Bytes → ℕ → ℕ → ℕ → ℤ
weight_after claims slots fs subgoal j zero = pos 0
weight_after claims slots fs subgoal j (suc k) =
    weight_after claims slots fs subgoal j k -ℤ cond (eqb (slot_at slots k).subgoal subgoal) (pos (multiplier_from (at fs k)) *ℤ get_or claims ((slot_at slots k).place + j) (pos 0)) (pos 0)

pub record ProgressM (fs : List Bytes) (index : ℕ) (claims : List ℤ) (slots : List Slot) (weights : List ℤ) : Type 0 where
  pub good : (i : ℕ) → i < index → is_multiplier (at fs i) ≡ true
  pub size : length weights ≡ 81
  pub head : (j : ℕ) → j < 9 → get_or weights j (pos 0) ≡ pos 0
  pub weight : (subgoal j : ℕ) → subgoal < 8 → j < 9 → get_or weights (suc subgoal * 9 + j) (pos 0) ≡ weight_after claims slots fs subgoal j index

abbrev pub with_multipliers : State → State
with_multipliers s = record { predicates = s.predicates; claimed = s.claimed; rules = s.rules; multiplier_lines = s.multiplier_lines + 1; head = s.head; subgoals = s.subgoals; variables = s.variables; slots = s.slots; multipliers = s.multipliers + 1; shipped = s.shipped; owing = s.owing; headed = s.headed; ended = s.ended }

-- the end of an `M` line: the weights with the head's, their sum, and what it decides
pub record ClosesM (s : State) (claims weights₀ : List ℤ) (rows : List ℕ) (r : Result State Fault) (weights : List ℤ) : Type 0 where
  pub weighed : List ℤ
  pub head : HeadWeighed claims (claim_place s.head s.multipliers) weights₀ weighed
  pub sum : Form
  pub sums : SumsTo weighed rows (width s.variables) (s.subgoals + 1) sum
  pub done : (next : State) → r ≡ Ok next → (next ≡ with_multipliers s) × NoWeights weights × ((i : ℕ) → i < 17 → non_neg (number_at sum i) ≡ true)
  pub unjustified : (f : Fault) → r ≡ Err f → (f ≡ Unjustified) × (weights ≡ weighed) × ((i : ℕ) × (i < 17) × (non_neg (number_at sum i) ≡ false))
