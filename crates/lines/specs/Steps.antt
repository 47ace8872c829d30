-- The steps of a line by its letter: what a field and the line's end need and leave. A letter's own room says what its lines do; here stands which tables each touches.
use Rattle.std.specs.Prelude.{◌≡◌, true, cond, not, ◌&&◌, List, [], ℕ, ◌+◌, ◌*◌, ◌≤◌, ◌<◌, eqb, ℤ, pos, length, drop, replicate, Option, Some, None, Result, Ok, Err}
use Rattle.std.specs.Int.Bits.{bit_or}
use Rattle.theory.specs.declared.Letter.{Letter}
use Rattle.theory.specs.declared.Letter.TheVariants.{P, C, G, H, B, M, E, NoLetter}
use Rattle.theory.specs.Text.{Bytes, fields_of}
use Rattle.theory.specs.Sizes.{structural}
use Rattle.theory.specs.Packs.{measure_in}
use Rattle.theory.specs.Written.{Written}
use Rattle.theory.specs.Faults.{Manner}
use Rattle.numbers.specs.Zeros.{Zeros}
use Rattle.words.specs.declared.Words.{Words}
use Rattle.forms.specs.declared.Form.{Form}
use Rattle.tables.specs.declared.Slot.{Slot}
use Rattle.tables.specs.declared.State.{State}
use Rattle.tables.specs.declared.Fault.{Fault}
use Rattle.tables.specs.declared.Fault.TheVariants.{Letter as Misplaced, Unjustified, Headless}
use Rattle.tables.specs.declared.Opened.{Opened}
use Rattle.tables.specs.Sorts.{Sort, declaring, numbering, stating, following, multiplying, ending, none as no_sort, sort_of}
use Rattle.tables.specs.declared.Signature.{Signature}
use Rattle.tables.specs.declared.Tables.{Tables as Lasting}
use Rattle.tables.specs.Tables.{Tables, tables, no_slot, slot_at, SafeSignatures, SafeClaims}
use Rattle.declarations.specs.Fields.{FieldC, ProgressC}
use Rattle.declarations.specs.Ends.{ClosesP, ClosesC}
use Rattle.atoms.specs.Fields.{FieldTerm, subgoal_atom, ProgressTerms}
use Rattle.rules.specs.Subgoals.{ProgressSubgoal}
use Rattle.facts.specs.Ends.{ClosesG}
use Rattle.rules.specs.Ends.{ClosesH, ClosesB}
use Rattle.residuals.specs.Sums.{width, Summable, SumsTo}
use Rattle.certificates.specs.Weights.{RoomFor}
use Rattle.certificates.specs.Multipliers.{FieldM, ProgressM, ClosesM}
use Rattle.lines.specs.declared.Room.{Room}

-- ## The room

abbrev pub no_words : Words
no_words = record { first = 0; second = 0 }

-- the room before any line
pub record IsEmpty (x : Room) : Type 0 where
  pub row : x.row ≡ replicate 9 (pos 0)
  pub variables : x.variables ≡ replicate 32 no_words
  pub rows : x.rows ≡ replicate 1224 0
  pub weights : x.weights ≡ replicate 81 (pos 0)
  pub slots : x.slots ≡ replicate 128 no_slot

-- ## Fields

-- the room with another row, and with other weights
abbrev pub with_row : List ℤ → Room → Room
with_row row x = record { row = row; variables = x.variables; rows = x.rows; weights = x.weights; slots = x.slots; hints = x.hints; tokens = x.tokens }

abbrev pub with_weights : List ℤ → Room → Room
with_weights weights x = record { row = x.row; variables = x.variables; rows = x.rows; weights = weights; slots = x.slots; hints = x.hints; tokens = x.tokens }

abbrev pub with_slots : List Slot → Room → Room
with_slots slots x = record { row = x.row; variables = x.variables; rows = x.rows; weights = x.weights; slots = slots; hints = x.hints; tokens = x.tokens }

-- the second room, but for what reading a term leaves as it was
abbrev pub after_term : Room → Room → Room
after_term x₀ x = record { row = x₀.row; variables = x.variables; rows = x.rows; weights = x₀.weights; slots = x₀.slots; hints = x.hints; tokens = x.tokens }

abbrev pub TermReady : ℕ → Bytes → ℕ → Type 0
TermReady index field many = (index < 8) × (length field ≤ 1024) × (many ≤ 17)

-- what a field needs
abbrev pub FieldNeeds : Sort → ℕ → Bytes → State → ℕ → List ℤ → Room → Type 0
FieldNeeds declaring index field s many claims x = ⊥
FieldNeeds numbering index field s many claims x = index < 9
FieldNeeds stating index field s many claims x = TermReady index field many
FieldNeeds following index field s many claims x = TermReady index field many
FieldNeeds multiplying index field s many claims x =
    (index < 128) × ((slot_at x.slots index).place + 9 ≤ 4608) × ((slot_at x.slots index).subgoal < 8) × SafeClaims claims × RoomFor x.weights ((slot_at x.slots index).subgoal + 1)
FieldNeeds ending index field s many claims x = ⊥
FieldNeeds no_sort index field s many claims x = ⊥

-- what it leaves
abbrev pub FieldLeaves : Sort → ℕ → Bytes → State → ℕ → List ℤ → Room → (Result ℕ Fault) → Room → Type 0
FieldLeaves declaring index field s many claims x₀ r x = ⊥
FieldLeaves numbering index field s many claims x₀ r x = FieldC index field many x₀.row r x.row × (x ≡ with_row x.row x₀)
FieldLeaves stating index field s many claims x₀ r x =
    FieldTerm structural 0 index field many x₀.variables x₀.rows r x.variables x.rows × (x ≡ after_term x₀ x)
FieldLeaves following index field s many claims x₀ r x =
    FieldTerm structural (subgoal_atom s.subgoals) index field many x₀.variables x₀.rows r x.variables x.rows × (x ≡ after_term x₀ x)
FieldLeaves multiplying index field s many claims x₀ r x =
    FieldM index field many claims x₀.slots x₀.weights r x.weights × (x ≡ with_weights x.weights x₀)
FieldLeaves ending index field s many claims x₀ r x = ⊥
FieldLeaves no_sort index field s many claims x₀ r x = ⊥

pub record FieldReady (letter : Letter) (index : ℕ) (field : Bytes) (s : State) (many : ℕ) (claims : List ℤ) (x : Room) : Type 0 where
  pub of : (sort : Sort) → sort_of letter ≡ sort → FieldNeeds sort index field s many claims x

pub record FieldDone (letter : Letter) (index : ℕ) (field : Bytes) (s : State) (many : ℕ) (claims : List ℤ) (x₀ : Room) (r : Result ℕ Fault) (x : Room) : Type 0 where
  pub of : (sort : Sort) → sort_of letter ≡ sort → FieldLeaves sort index field s many claims x₀ r x

-- fields from a place on that need not be read: multipliers 0
pub data Skips (line : Bytes) (from : ℕ) : Sort → ℕ → Type 0 where
  none : {sort : Sort} → Skips line from sort 0
  zeros : {r : ℕ} → Zeros line from r → Skips line from multiplying r

-- how many variables the rule has when the fields begin
abbrev pub variables_before : Sort → State → ℕ
variables_before declaring s = s.variables
variables_before numbering s = s.variables
variables_before stating s = 0
variables_before following s = s.variables
variables_before multiplying s = s.variables
variables_before ending s = s.variables
variables_before no_sort s = s.variables

-- what the fields of a line have left so far, where the tables were t at its beginning
abbrev pub Progress : Sort → Bytes → Written → State → Tables → ℕ → ℕ → Room → Type 0
Progress declaring line w s t index many x = Unit {0}
Progress numbering line w s t index many x = ProgressC (drop 2 (fields_of line)) index x.row
Progress stating line w s t index many x = ProgressTerms (measure_in w.pack) 0 [] (drop 2 (fields_of line)) index many x.variables t.rows x.rows
Progress following line w s t index many x = ProgressSubgoal line w s t index many x.variables x.rows
Progress multiplying line w s t index many x = ProgressM (drop 1 (fields_of line)) index t.claims t.slots x.weights
Progress ending line w s t index many x = Unit {0}
Progress no_sort line w s t index many x = ⊥

-- ## Ends

-- the tables that outlive the lines
abbrev pub lasting : List Signature → List ℤ → Lasting
lasting signatures claims = record { signatures = signatures; claims = claims }

-- those, with the tables of the last rule
abbrev pub with_rule : Lasting → Room → Tables
with_rule y x = tables y.signatures y.claims x.variables x.rows x.slots

abbrev pub with_end : State → State
with_end s = record { predicates = s.predicates; claimed = s.claimed; rules = s.rules; multiplier_lines = s.multiplier_lines; head = s.head; subgoals = s.subgoals; variables = s.variables; slots = s.slots; multipliers = s.multipliers; shipped = s.shipped; owing = s.owing; headed = s.headed; ended = true }

-- the end of an `E` line: a headless predicate where those are refused, or done
pub record ClosesE (manner : Manner) (s : State) (r : Result State Fault) : Type 0 where
  pub answer : r ≡ cond (manner.refuses_headless && not (eqb (bit_or s.owing s.headed) s.headed)) (Err Headless) (Ok (with_end s))

-- what the end of a line needs
abbrev pub CloseNeeds : Letter → Opened → State → Lasting → Room → Type 0
CloseNeeds P o s y x = Unit {0}
CloseNeeds C o s y x = (o.predicate < 32) × SafeSignatures y.signatures
CloseNeeds G o s y x = (o.predicate < 32) × SafeSignatures y.signatures × SafeClaims y.claims
CloseNeeds H o s y x = (s.rules ≤ 64) × (o.predicate < 32)
CloseNeeds B o s y x = (o.predicate < 32) × SafeSignatures y.signatures × (s.slots ≤ 16 * s.subgoals)
CloseNeeds M o s y x = (s.head < 32) × (s.multipliers < 16) × (s.subgoals ≤ 8) × SafeClaims y.claims × Summable x.weights x.rows × (s.multiplier_lines ≤ 1040)
CloseNeeds E o s y x = Unit {0}
CloseNeeds NoLetter o s y x = Unit {0}

-- what it leaves
abbrev pub CloseLeaves : Manner → Letter → Opened → State → ℕ → Lasting → Room → (Result State Fault) → Lasting → Room → Type 0
CloseLeaves manner P o s many y₀ x₀ r y x = ClosesP o s y₀.signatures r y.signatures × (y ≡ lasting y.signatures y₀.claims) × (x ≡ x₀)
CloseLeaves manner C o s many y₀ x₀ r y x = ClosesC o s x₀.row y₀.signatures y₀.claims r y.signatures y.claims × (y ≡ lasting y.signatures y.claims) × (x ≡ x₀)
CloseLeaves manner G o s many y₀ x₀ r y x = ClosesG o s many y₀.signatures y₀.claims x₀.rows r × (y ≡ y₀) × (x ≡ x₀)
CloseLeaves manner H o s many y₀ x₀ r y x = ClosesH o s many r × (y ≡ y₀) × (x ≡ x₀)
CloseLeaves manner B o s many y₀ x₀ r y x = ClosesB o s many y₀.signatures x₀.slots r x.slots × (y ≡ y₀) × (x ≡ with_slots x.slots x₀)
CloseLeaves manner M o s many y₀ x₀ r y x = ClosesM s y₀.claims x₀.weights x₀.rows r x.weights × (y ≡ y₀) × (x ≡ with_weights x.weights x₀)
CloseLeaves manner E o s many y₀ x₀ r y x = ClosesE manner s r × (y ≡ y₀) × (x ≡ x₀)
CloseLeaves manner NoLetter o s many y₀ x₀ r y x = (r ≡ Err Misplaced) × (y ≡ y₀) × (x ≡ x₀)

pub record CloseReady (letter : Letter) (o : Opened) (s : State) (y : Lasting) (x : Room) : Type 0 where
  pub of : (l : Letter) → letter ≡ l → CloseNeeds l o s y x

pub record CloseDone (manner : Manner) (letter : Letter) (o : Opened) (s : State) (many : ℕ) (y₀ : Lasting) (x₀ : Room) (r : Result State Fault) (y : Lasting) (x : Room) : Type 0 where
  pub of : (l : Letter) → letter ≡ l → CloseLeaves manner l o s many y₀ x₀ r y x

-- the residual by the weights that a line of multipliers leaves: there is one where its claim is not justified
pub record LeavesResidual (weights : List ℤ) (rows : List ℕ) (s : State) (f : Fault) (r : Option Form) : Type 0 where
  pub sum : (form : Form) → r ≡ Some form → SumsTo weights rows (width s.variables) (s.subgoals + 1) form
  pub some : (form : Form) → r ≡ Some form → f ≡ Unjustified
  pub none : r ≡ None → f ≡ Unjustified → ⊥
