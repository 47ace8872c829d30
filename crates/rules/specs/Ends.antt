-- The ends of `H` and `B` lines: their last tests, and what they leave in the tables.
use Rattle.std.specs.Prelude.{◌≡◌, Bool, false, cond, ◌||◌, List, ℕ, ◌+◌, ◌^◌, ◌<◌, leb, ltb, length, Result, Ok, Err}
use Rattle.std.specs.Int.Bits.{bit_or}
use Rattle.theory.specs.Packs.{rule_limit, subgoal_limit, variable_limit}
use Rattle.tables.specs.declared.Signature.{Signature}
use Rattle.tables.specs.declared.Slot.{Slot}
use Rattle.tables.specs.declared.State.{State}
use Rattle.tables.specs.declared.Opened.{Opened}
use Rattle.tables.specs.declared.Fault.{Fault}
use Rattle.tables.specs.declared.Fault.TheVariants.{CountLimit}
use Rattle.tables.specs.Tables.{slot_at, signature_at, claim_place}

abbrev pub with_rule : ℕ → ℕ → ℕ → State → State
with_rule head headed variables s = record { predicates = s.predicates; claimed = s.claimed; rules = s.rules + 1; multiplier_lines = s.multiplier_lines; head = head; subgoals = 0; variables = variables; slots = 0; multipliers = 0; shipped = s.shipped; owing = s.owing; headed = headed; ended = s.ended }

-- with a rule whose head is of the predicate at a place
abbrev pub with_head : ℕ → ℕ → State → State
with_head head variables s = with_rule head (bit_or s.headed (2 ^ head)) variables s

abbrev pub with_subgoal : ℕ → ℕ → State → State
with_subgoal slots variables s = record { predicates = s.predicates; claimed = s.claimed; rules = s.rules; multiplier_lines = s.multiplier_lines; head = s.head; subgoals = s.subgoals + 1; variables = variables; slots = slots; multipliers = s.multipliers; shipped = s.shipped; owing = s.owing; headed = s.headed; ended = s.ended }

-- past a limit of rules or subgoals, or that of a rule's variables
abbrev pub is_past : ℕ → ℕ → ℕ → Bool
is_past limit n many = leb limit n || ltb variable_limit many

pub record ClosesH (o : Opened) (s : State) (many : ℕ) (r : Result State Fault) : Type 0 where
  pub answer : r ≡ cond (is_past rule_limit s.rules many) (Err CountLimit) (Ok (with_head o.predicate many s))

-- a slot for each claim on a subgoal's predicate, after those that there are
pub record SlotsAdded (slots₀ : List Slot) (from predicate count subgoal : ℕ) (slots : List Slot) : Type 0 where
  pub size : length slots ≡ length slots₀
  pub added : (j : ℕ) → j < count → slot_at slots (from + j) ≡ record { place = claim_place predicate j; subgoal = subgoal }
  pub before : (k : ℕ) → k < from → slot_at slots k ≡ slot_at slots₀ k

pub record ClosesB (o : Opened) (s : State) (many : ℕ) (signatures : List Signature) (slots₀ : List Slot) (r : Result State Fault) (slots : List Slot) : Type 0 where
  pub answer : r ≡ cond (is_past subgoal_limit s.subgoals many) (Err CountLimit) (Ok (with_subgoal (s.slots + (signature_at signatures o.predicate).claims) many s))
  pub slots_are : is_past subgoal_limit s.subgoals many ≡ false → SlotsAdded slots₀ s.slots o.predicate (signature_at signatures o.predicate).claims s.subgoals slots
