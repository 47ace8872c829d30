-- The tables and the state, and how they stand for what the lines so far write.
use Rattle.std.specs.Prelude.{◌≡◌, Bool, true, false, cond, not, List, [], ℕ, zero, suc, ◌+◌, ◌*◌, ◌≤◌, ◌<◌, eqb, ℤ, pos, nat_abs, length, get_or, set, Option, Some, None}
use Rattle.std.proofs.Math.Option as M
use Rattle.groundwork.proofs.Bits.{bit}
use Rattle.theory.specs.Lists.{any, is_empty}
use Rattle.theory.specs.Text.{Bytes, is_name}
use Rattle.theory.specs.Terms.{Term, Terms, variable, nil, cons, arity}
use Rattle.theory.specs.Sizes.{Measure}
use Rattle.theory.specs.Forms.{zero_form}
use Rattle.theory.specs.Packs.{Kind as PredicateKind, given, ruled, Predicate, Claim, Atom, Rule, Pack, measure_in, Key, same_key, key_of, atom_key, claims_on, claims_on_all, no_claim}
use Rattle.theory.specs.Written.{Written}
use Rattle.theory.specs.Residuals.{claim_form, subgoal_forms, rule_variables}
use Rattle.theory.specs.Faults.{last_rule, owes_rule, heads_rule}
use Rattle.theory.specs.Check.{multiplier_lines}
use Rattle.words.specs.declared.Words.{Words}
use Rattle.words.specs.Words.{words_of}
use Rattle.terms.specs.Rows.{Holds as HoldsVariables}
use Rattle.terms.specs.TermForms.{RowStands}
use Rattle.tables.specs.declared.Kind.{Kind}
use Rattle.tables.specs.declared.Kind.TheVariants.{Ruled, Given}
use Rattle.tables.specs.declared.Signature.{Signature}
use Rattle.tables.specs.declared.Slot.{Slot}
use Rattle.tables.specs.declared.State.{State}

-- what the arrays hold
pub record Tables : Type 0 where
  pub signatures : List Signature
  pub claims : List ℤ
  pub variables : List Words
  pub rows : List ℕ
  pub slots : List Slot

abbrev pub tables : List Signature → List ℤ → List Words → List ℕ → List Slot → Tables
tables f c v r s = record { signatures = f; claims = c; variables = v; rows = r; slots = s }

-- where the numbers of a claim on a predicate begin, and where the row of an atom's argument does
abbrev pub claim_place : ℕ → ℕ → ℕ
claim_place predicate claim = (predicate * 16 + claim) * 9

abbrev pub row_place : ℕ → ℕ → ℕ
row_place atom argument = (atom * 8 + argument) * 17

pub record Sizes (t : Tables) : Type 0 where
  pub signatures : length t.signatures ≡ 32
  pub claims : length t.claims ≡ 4608
  pub variables : length t.variables ≡ 32
  pub rows : length t.rows ≡ 1224
  pub slots : length t.slots ≡ 128

-- ## The table of predicates

-- what stands where no predicate is declared yet
abbrev pub no_signature : Signature
no_signature = record { words = record { first = 0; second = 0 }; kind = Ruled; arity = 0; claims = 0 }

-- what stands at a place, from 0
abbrev pub signature_at : List Signature → ℕ → Signature
signature_at signatures i = get_or signatures i no_signature

-- the same predicate with another number of claims on it
abbrev pub with_claims : ℕ → Signature → Signature
with_claims n s = record { words = s.words; kind = s.kind; arity = s.arity; claims = n }

-- the table with another number of claims on the predicate at a place
abbrev pub counted : List Signature → ℕ → ℕ → List Signature
counted signatures p n = set signatures p (with_claims n (signature_at signatures p))

-- what a predicate is looked up by: the words of its name, and its arity
pub record Heading : Type 0 where
  pub words : Words
  pub arity : ℕ

abbrev pub heading : Words → ℕ → Heading
heading words n = record { words = words; arity = n }

abbrev pub heading_of : Signature → Heading
heading_of s = heading s.words s.arity

abbrev pub heading_at : List Signature → ℕ → Heading
heading_at signatures i = heading_of (signature_at signatures i)

-- of what stands at places: r is a place of x among the first `known`, or none where it stands at none of those
abbrev pub FoundAt : {A : Type 0} → (ℕ → A) → ℕ → A → Option ℕ → Type 0
FoundAt at known x (Some r) = (r < known) × (at r ≡ x)
FoundAt at known x None = (i : ℕ) → i < known → at i ≡ x → ⊥

-- the same for the predicate of a name and an arity that a line gives, if it gives one
abbrev pub FoundFor : List Signature → ℕ → Words → M.Option ℕ → Option ℕ → Type 0
FoundFor signatures known words M.none r = r ≡ None
FoundFor signatures known words (M.some n) r = FoundAt (heading_at signatures) known (heading words n) r

-- ## Ranges, whatever the lines write: what the code needs to be safe

pub record SafeState (s : State) : Type 0 where
  pub predicates : s.predicates ≤ 32
  pub rules : s.rules ≤ 64
  pub head : s.head < 32
  pub subgoals : s.subgoals ≤ 8
  pub variables : s.variables ≤ 16
  pub slots : s.slots ≤ 16 * s.subgoals
  pub multipliers : s.multipliers ≤ 16
  pub lines : s.multiplier_lines ≤ 16 * s.rules + s.multipliers

pub record SafeSignatures (signatures : List Signature) : Type 0 where
  pub arity : (i : ℕ) → i < 32 → (signature_at signatures i).arity ≤ 8
  pub count : (i : ℕ) → i < 32 → (signature_at signatures i).claims ≤ 16

pub record SafeClaims (claims : List ℤ) : Type 0 where
  pub small : (i : ℕ) → nat_abs (get_or claims i (pos 0)) ≤ 9999

pub record SafeRows (rows : List ℕ) : Type 0 where
  pub small : (i : ℕ) → get_or rows i 0 < 65536

-- what stands where no claim is on a subgoal yet
abbrev pub no_slot : Slot
no_slot = record { place = 0; subgoal = 0 }

-- what stands at a place, from 0
abbrev pub slot_at : List Slot → ℕ → Slot
slot_at slots k = get_or slots k no_slot

-- how many of the first slots are of a subgoal
unfoldable pub slots_of : List Slot → ℕ → ℕ → ℕ
slots_of slots subgoal zero = 0
slots_of slots subgoal (suc k) = slots_of slots subgoal k + cond (eqb (slot_at slots k).subgoal subgoal) 1 0

pub record SafeSlots (slots : List Slot) (n subgoals : ℕ) : Type 0 where
  pub place : (k : ℕ) → k < n → (slot_at slots k).place + 9 ≤ 4608
  pub subgoal : (k : ℕ) → k < n → (slot_at slots k).subgoal < subgoals
  pub few : (subgoal : ℕ) → slots_of slots subgoal n ≤ 16

-- ## Predicates

abbrev pub no_predicate : Predicate
no_predicate = record { name = []; arguments = 0; kind = ruled }

-- the predicate at a place, from 0
abbrev pub predicate_at : List Predicate → ℕ → Predicate
predicate_at ps i = get_or ps i no_predicate

abbrev pub kind_of : PredicateKind → Kind
kind_of given = Given
kind_of ruled = Ruled

pub record Declares (signatures : List Signature) (known : ℕ) (ps : List Predicate) : Type 0 where
  pub count : length ps ≡ known
  pub words : (i : ℕ) → i < known → (signature_at signatures i).words ≡ words_of (predicate_at ps i).name
  pub named : (i : ℕ) → i < known → is_name (predicate_at ps i).name ≡ true
  pub arity : (i : ℕ) → i < known → (signature_at signatures i).arity ≡ (predicate_at ps i).arguments
  pub kind : (i : ℕ) → i < known → (signature_at signatures i).kind ≡ kind_of (predicate_at ps i).kind
  pub distinct : (i j : ℕ) → i < known → j < known → key_of (predicate_at ps i) ≡ key_of (predicate_at ps j) → i ≡ j

-- ## Sets of predicates

-- a set has the predicates that pass a test, and no others
pub record SetOf (test : Predicate → Bool) (ps : List Predicate) (set : ℕ) : Type 0 where
  pub has : (i : ℕ) → i < length ps → bit set i ≡ test (predicate_at ps i)
  pub none : (i : ℕ) → length ps ≤ i → bit set i ≡ false

-- whether a claim, a fact or a rule in a list is of a predicate, by the key of each
abbrev pub has_key_in : {A : Type 0} → (A → Key) → List A → Predicate → Bool
has_key_in keyIn l x = any (λ a. same_key (key_of x) (keyIn a)) l

-- ## Claims

-- a claim's numbers from a place of the table on, zeros after the last
pub record ClaimAt (claims : List ℤ) (place : ℕ) (c : Claim) : Type 0 where
  pub constant : get_or claims place (pos 0) ≡ c.constant
  pub coefficient : (k : ℕ) → k < 8 → get_or claims (place + 1 + k) (pos 0) ≡ get_or c.coefficients k (pos 0)

pub record HoldsClaims (signatures : List Signature) (claims : List ℤ) (ps : List Predicate) (cs : List Claim) : Type 0 where
  pub count : (i : ℕ) → i < length ps → (signature_at signatures i).claims ≡ length (claims_on (key_of (predicate_at ps i)) cs)
  pub none : (i : ℕ) → length ps ≤ i → i < 32 → (signature_at signatures i).claims ≡ 0
  pub at : (i j : ℕ) → i < length ps → j < length (claims_on (key_of (predicate_at ps i)) cs) → ClaimAt claims (claim_place i j) (get_or (claims_on (key_of (predicate_at ps i)) cs) j no_claim)

-- ## Facts that come with the pack

-- the set of the predicates that have a fact
pub record Ships (set : ℕ) (ps : List Predicate) (facts : List Atom) : Type 0 where
  pub none : eqb set 0 ≡ is_empty facts
  pub is : SetOf (has_key_in atom_key facts) ps set

-- ## The last rule

-- the argument at a place, from 0
unfoldable pub argument : Terms → ℕ → Term
argument nil k = variable []
argument (cons t ts) zero = t
argument (cons t ts) (suc k) = argument ts k

-- the rows of an atom: the head is atom 0, the subgoal at place s atom s + 1
pub record AtomStands (m : Measure) (rows : List ℕ) (atom : ℕ) (xs : List Bytes) (ts : Terms) : Type 0 where
  pub few : arity ts ≤ 8
  pub row : (k : ℕ) → k < arity ts → RowStands m rows (row_place atom k) xs (argument ts k)

abbrev pub no_atom : Atom
no_atom = record { name = []; terms = nil }

abbrev pub subgoal_at : List Atom → ℕ → Atom
subgoal_at subgoals s = get_or subgoals s no_atom

-- the kth claim on the subgoals' predicates: where it stands, and of which subgoal it is
pub record SlotStands (m : Measure) (claims : List ℤ) (slots : List Slot) (cs : List Claim) (subgoals : List Atom) (k : ℕ) : Type 0 where
  pub claim : ClaimAt claims (slot_at slots k).place (get_or (claims_on_all cs subgoals) k no_claim)
  pub subgoal : (slot_at slots k).subgoal < length subgoals
  pub form : get_or (subgoal_forms m cs subgoals) k zero_form ≡ claim_form m (subgoal_at subgoals (slot_at slots k).subgoal) (get_or (claims_on_all cs subgoals) k no_claim)
  pub full : length (get_or (claims_on_all cs subgoals) k no_claim).coefficients ≡ arity (subgoal_at subgoals (slot_at slots k).subgoal).terms

pub record RuleStands (t : Tables) (s : State) (p : Pack) (r : Rule) : Type 0 where
  pub head : s.head < length p.predicates
  pub head_key : key_of (predicate_at p.predicates s.head) ≡ atom_key r.head
  pub subgoals : s.subgoals ≡ length r.subgoals
  pub variables : s.variables ≡ length (rule_variables r.head r.subgoals)
  pub holds_variables : HoldsVariables t.variables (rule_variables r.head r.subgoals)
  pub head_rows : AtomStands (measure_in p) t.rows 0 (rule_variables r.head r.subgoals) r.head.terms
  pub subgoal_rows : (i : ℕ) → i < length r.subgoals → AtomStands (measure_in p) t.rows (suc i) (rule_variables r.head r.subgoals) (subgoal_at r.subgoals i).terms
  pub slots : s.slots ≡ length (claims_on_all p.claims r.subgoals)
  pub slot : (k : ℕ) → k < s.slots → SlotStands (measure_in p) t.claims t.slots p.claims r.subgoals k
  pub multipliers : s.multipliers ≡ length r.multipliers

-- ## All of it

-- the tables and the state stand for what the lines write
pub record Holds (t : Tables) (s : State) (w : Written) : Type 0 where
  pub declares : Declares t.signatures s.predicates w.pack.predicates
  pub claims : HoldsClaims t.signatures t.claims w.pack.predicates w.pack.claims
  pub claimed : s.claimed ≡ not (is_empty w.pack.claims)
  pub shipped : Ships s.shipped w.pack.predicates w.pack.facts
  pub owing : SetOf (owes_rule w.pack.claims) w.pack.predicates s.owing
  pub headed : SetOf (heads_rule w.pack.rules) w.pack.predicates s.headed
  pub rules : s.rules ≡ length w.pack.rules
  pub lines : s.multiplier_lines ≡ multiplier_lines w.pack.rules
  pub last : (w.pack.rules ≡ [] → ⊥) → RuleStands t s w.pack (last_rule w.pack)
  pub ended : s.ended ≡ w.ended

-- what the tests before a line's fields go by
pub record Outline (signatures : List Signature) (s : State) (w : Written) : Type 0 where
  pub declares : Declares signatures s.predicates w.pack.predicates
  pub counts : (i : ℕ) → i < length w.pack.predicates → (signature_at signatures i).claims ≡ length (claims_on (key_of (predicate_at w.pack.predicates i)) w.pack.claims)
  pub claimed : s.claimed ≡ not (is_empty w.pack.claims)
  pub shipped : eqb s.shipped 0 ≡ is_empty w.pack.facts
  pub rules : s.rules ≡ length w.pack.rules
  pub head : (w.pack.rules ≡ [] → ⊥) → s.head < length w.pack.predicates
  pub head_key : (w.pack.rules ≡ [] → ⊥) → key_of (predicate_at w.pack.predicates s.head) ≡ atom_key (last_rule w.pack).head
  pub multipliers : (w.pack.rules ≡ [] → ⊥) → s.multipliers ≡ length (last_rule w.pack).multipliers
  pub slots : (w.pack.rules ≡ [] → ⊥) → s.slots ≡ length (claims_on_all w.pack.claims (last_rule w.pack).subgoals)
  pub ended : s.ended ≡ w.ended

-- no weights are left over from a line
pub record NoWeights (weights : List ℤ) : Type 0 where
  pub size : length weights ≡ 81
  pub zero : (i : ℕ) → get_or weights i (pos 0) ≡ pos 0

-- the ranges of all
pub record Safe (t : Tables) (s : State) : Type 0 where
  pub sizes : Sizes t
  pub state : SafeState s
  pub signatures : SafeSignatures t.signatures
  pub claims : SafeClaims t.claims
  pub rows : SafeRows t.rows
  pub slots : SafeSlots t.slots s.slots s.subgoals
