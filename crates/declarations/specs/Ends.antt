-- The ends of `P` and `C` lines: their last tests, and what they leave in the tables.
use Rattle.std.specs.Prelude.{◌≡◌, true, cond, List, ℕ, ◌+◌, ◌^◌, ◌≤◌, ◌<◌, leb, ℤ, pos, length, get_or, set, Result, Ok, Err}
use Rattle.std.specs.Int.Bits.{bit_or}
use Rattle.theory.specs.Packs.{predicate_limit, claim_limit}
use Rattle.tables.specs.declared.Signature.{Signature}
use Rattle.tables.specs.declared.Kind.{Kind}
use Rattle.tables.specs.declared.Kind.TheVariants.{Ruled, Given}
use Rattle.tables.specs.declared.State.{State}
use Rattle.tables.specs.declared.Opened.{Opened}
use Rattle.tables.specs.declared.Fault.{Fault}
use Rattle.tables.specs.declared.Fault.TheVariants.{CountLimit}
use Rattle.tables.specs.Tables.{signature_at, with_claims, counted, claim_place}

abbrev pub with_predicates : ℕ → State → State
with_predicates n s = record { predicates = n; claimed = s.claimed; rules = s.rules; multiplier_lines = s.multiplier_lines; head = s.head; subgoals = s.subgoals; variables = s.variables; slots = s.slots; multipliers = s.multipliers; shipped = s.shipped; owing = s.owing; headed = s.headed; ended = s.ended }

-- the predicates that owe a rule, with one claim more on the predicate at a place, of a kind
abbrev pub owing_with : ℕ → ℕ → Kind → ℕ
owing_with owing place Given = owing
owing_with owing place Ruled = bit_or owing (2 ^ place)

abbrev pub with_owing : ℕ → State → State
with_owing owing s = record { predicates = s.predicates; claimed = true; rules = s.rules; multiplier_lines = s.multiplier_lines; head = s.head; subgoals = s.subgoals; variables = s.variables; slots = s.slots; multipliers = s.multipliers; shipped = s.shipped; owing = owing; headed = s.headed; ended = s.ended }

-- with a claim on the predicate at a place, under these signatures
abbrev pub with_claim : ℕ → List Signature → State → State
with_claim place signatures s = with_owing (owing_with s.owing place (signature_at signatures place).kind) s

pub record ClosesP (o : Opened) (s : State) (signatures₀ : List Signature) (r : Result State Fault) (signatures : List Signature) : Type 0 where
  pub answer : r ≡ cond (leb predicate_limit s.predicates) (Err CountLimit) (Ok (with_predicates (s.predicates + 1) s))
  pub signatures_are : s.predicates < predicate_limit → signatures ≡ set signatures₀ s.predicates (with_claims (signature_at signatures₀ s.predicates).claims o.signature)

-- nine numbers of a claim laid into the table, zeros after those of the arguments
pub record Laid (claims₀ : List ℤ) (place : ℕ) (row : List ℤ) (arity : ℕ) (claims : List ℤ) : Type 0 where
  pub size : length claims ≡ length claims₀
  pub number : (i : ℕ) → i < 9 → i ≤ arity → get_or claims (place + i) (pos 0) ≡ get_or row i (pos 0)
  pub beyond : (i : ℕ) → i < 9 → arity < i → get_or claims (place + i) (pos 0) ≡ pos 0
  pub below : (i : ℕ) → i < place → get_or claims i (pos 0) ≡ get_or claims₀ i (pos 0)
  pub above : (i : ℕ) → place + 9 ≤ i → get_or claims i (pos 0) ≡ get_or claims₀ i (pos 0)

pub record ClosesC (o : Opened) (s : State) (row : List ℤ) (signatures₀ : List Signature) (claims₀ : List ℤ) (r : Result State Fault) (signatures : List Signature) (claims : List ℤ) : Type 0 where
  pub answer : r ≡ cond (leb claim_limit (signature_at signatures₀ o.predicate).claims) (Err CountLimit) (Ok (with_claim o.predicate signatures₀ s))
  pub signatures_are : (signature_at signatures₀ o.predicate).claims < claim_limit → signatures ≡ counted signatures₀ o.predicate ((signature_at signatures₀ o.predicate).claims + 1)
  pub claims_are : (signature_at signatures₀ o.predicate).claims < claim_limit → Laid claims₀ (claim_place o.predicate (signature_at signatures₀ o.predicate).claims) row (signature_at signatures₀ o.predicate).arity claims
