-- The end of a `G` line, by the tables: the claims on its predicate at the sizes of its arguments, its last tests, and what it
-- leaves in the state.
use Rattle.std.specs.Prelude.{◌≡◌, Bool, true, cond, ◌&&◌, List, ℕ, zero, suc, ◌+◌, ◌^◌, ltb, ℤ, pos, ◌+ℤ◌, ◌*ℤ◌, get_or, Result, Ok, Err}
use Rattle.std.specs.Int.Bits.{bit_or}
use Rattle.std.specs.Int.Signed.{non_neg}
use Rattle.tables.specs.declared.Signature.{Signature}
use Rattle.tables.specs.declared.State.{State}
use Rattle.tables.specs.declared.Opened.{Opened}
use Rattle.tables.specs.declared.Fault.{Fault}
use Rattle.tables.specs.declared.Fault.TheVariants.{NotGround, UnmetClaim}
use Rattle.tables.specs.Tables.{signature_at, claim_place, row_place}

-- the claim at a place, with the first arguments of atom 0 put in by the constants of their rows
unfoldable pub value_to : List ℤ → ℕ → List ℕ → ℕ → ℤ
value_to claims place rows zero = get_or claims place (pos 0)
value_to claims place rows (suc k) = value_to claims place rows k +ℤ get_or claims (place + 1 + k) (pos 0) *ℤ pos (get_or rows (row_place 0 k) 0)

-- whether the first claims on a predicate are at least 0 there
unfoldable pub met_to : List ℤ → ℕ → List ℕ → ℕ → ℕ → Bool
met_to claims predicate rows arity zero = true
met_to claims predicate rows arity (suc j) = met_to claims predicate rows arity j && non_neg (value_to claims (claim_place predicate j) rows arity)

abbrev pub with_shipped : ℕ → State → State
with_shipped set s = record { predicates = s.predicates; claimed = s.claimed; rules = s.rules; multiplier_lines = s.multiplier_lines; head = s.head; subgoals = s.subgoals; variables = s.variables; slots = s.slots; multipliers = s.multipliers; shipped = set; owing = s.owing; headed = s.headed; ended = s.ended }

-- with a fact of the predicate at a place
abbrev pub with_fact : ℕ → State → State
with_fact predicate s = with_shipped (bit_or s.shipped (2 ^ predicate)) s

-- whether all claims on the line's predicate are
abbrev pub met_by : Opened → List Signature → List ℤ → List ℕ → Bool
met_by o signatures claims rows = met_to claims o.predicate rows (signature_at signatures o.predicate).arity (signature_at signatures o.predicate).claims

-- what the claims leave of a ground fact
abbrev pub ended : Bool → Opened → State → Result State Fault
ended met o s = cond met (Ok (with_fact o.predicate s)) (Err UnmetClaim)

pub record ClosesG (o : Opened) (s : State) (many : ℕ) (signatures : List Signature) (claims : List ℤ) (rows : List ℕ) (r : Result State Fault) : Type 0 where
  pub answer : r ≡ cond (ltb 0 many) (Err NotGround) (ended (met_by o signatures claims rows) o s)
