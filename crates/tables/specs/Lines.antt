-- A line by its steps: opened, when its tests before its fields are done; its fields read; closed.
use Rattle.std.specs.Prelude.{◌≡◌, true, false, List, [], ℕ, ◌+◌, ◌≤◌, ◌<◌, length, get_or, drop, Result, Ok}
use Rattle.std.proofs.Math.Option.{some, none}
use Rattle.theory.specs.declared.Letter.{Letter}
use Rattle.theory.specs.declared.Letter.TheVariants.{P, C, G, H, B, M, E, NoLetter}
use Rattle.theory.specs.Text.{Bytes, is_name, natural, fields_of}
use Rattle.theory.specs.Packs.{Key, key_of, claim_key, atom_key, declared_as}
use Rattle.theory.specs.Written.{line_letter, field, kind_from, claim_from, atom_from, Written, write}
use Rattle.theory.specs.Faults.{Manner, first_given, meant_by, may_stand, tests, fault}
use Rattle.text.specs.Scans.{parts_from}
use Rattle.words.specs.Words.{words_of}
use Rattle.tables.specs.declared.State.{State}
use Rattle.tables.specs.declared.Opened.{Opened}
use Rattle.tables.specs.declared.Fault.{Fault}
use Rattle.tables.specs.Faults.{closing_number}
use Rattle.tables.specs.Sorts.{Sort, declaring, numbering, stating, following, multiplying, ending, none as no_sort, sort_of}
use Rattle.tables.specs.Tables.{Tables, kind_of, predicate_at, Holds}

-- ## Opened

-- the fields in front of those that are read one by one
abbrev pub skipped : Sort → ℕ
skipped declaring = 4
skipped numbering = 2
skipped stating = 2
skipped following = 2
skipped multiplying = 1
skipped ending = 1
skipped no_sort = 1

-- how many of a letter's tests the opening does
abbrev pub opening_tests : Letter → ℕ
opening_tests P = 4
opening_tests C = 2
opening_tests G = 3
opening_tests H = 2
opening_tests B = 2
opening_tests M = 1
opening_tests E = 1
opening_tests NoLetter = 0

-- the most fields that are read one by one
abbrev pub most : Sort → State → ℕ
most declaring s = 0
most numbering s = 9
most stating s = 8
most following s = 8
most multiplying s = s.slots
most ending s = 0
most no_sort s = 0

-- a predicate that is not declared yet, in a line of four fields: what is put into the table
pub record NewPredicate (line : Bytes) (w : Written) (o : Opened) : Type 0 where
  pub named : is_name (field 1 (fields_of line)) ≡ true
  pub is_new : meant_by P (fields_of line) w.pack ≡ none
  pub four : length (fields_of line) ≡ 4
  pub words : o.signature.words ≡ words_of (field 1 (fields_of line))
  pub arity : natural 8 (field 2 (fields_of line)) ≡ some o.signature.arity
  pub kind : o.signature.kind ≡ kind_of (kind_from (field 3 (fields_of line)))
  pub claims : o.signature.claims ≡ 0

-- the predicate declared under a key, in a line with a field for each argument and some more
pub record OldPredicate (k : Key) (more : ℕ) (line : Bytes) (w : Written) (o : Opened) : Type 0 where
  pub named : is_name (field 1 (fields_of line)) ≡ true
  pub below : o.predicate < length w.pack.predicates
  pub declared : declared_as k w.pack.predicates ≡ some (predicate_at w.pack.predicates o.predicate)
  pub is : key_of (predicate_at w.pack.predicates o.predicate) ≡ k
  pub full : length (fields_of line) ≡ (predicate_at w.pack.predicates o.predicate).arguments + more

abbrev pub NamedFor : Sort → Bytes → State → Written → Opened → Type 0
NamedFor declaring line s w o = NewPredicate line w o
NamedFor numbering line s w o = OldPredicate (claim_key (claim_from (fields_of line))) 3 line w o
NamedFor stating line s w o = OldPredicate (atom_key (atom_from (fields_of line))) 2 line w o
NamedFor following line s w o = OldPredicate (atom_key (atom_from (fields_of line))) 2 line w o
NamedFor multiplying line s w o = length (fields_of line) ≡ s.slots + 1
NamedFor ending line s w o = length (fields_of line) ≡ 1
NamedFor no_sort line s w o = ⊥

-- a line of a letter that has passed these tests, judged in some manner: the others decide
pub record Passed (manner : Manner) (letter : Letter) (line : Bytes) (s : State) (w : Written) (o : Opened) : Type 0 where
  pub first : line_letter line ≡ letter
  pub short : length line ≤ 1024
  pub unended : w.ended ≡ false
  pub stands : may_stand w.pack letter ≡ true
  pub left : fault manner w line ≡ first_given (drop (opening_tests letter) (tests manner letter (fields_of line) w.pack))
  pub rest : parts_from 44 line o.from ≡ drop (skipped (sort_of letter)) (fields_of line)
  pub named : NamedFor (sort_of letter) line s w o

-- what holds of an opened line whatever the lines before it write
pub record SafeOpened (line : Bytes) (s : State) (o : Opened) : Type 0 where
  pub short : length line ≤ 1024
  pub few : length (parts_from 44 line o.from) ≤ most (sort_of o.letter) s
  pub place : (o.letter ≡ P → ⊥) → o.predicate < 32
  pub due : o.letter ≡ M → s.multipliers < 16
  pub low : o.signature.arity ≤ 8
  pub claimless : o.signature.claims ≡ 0

-- ## Its fields, from 0

abbrev pub at : List Bytes → ℕ → Bytes
at fs i = get_or fs i []

-- ## Closed

-- a line that is read whole, after lines that write w: its fault, and the tables after it
pub record ClosedFor (manner : Manner) (line : Bytes) (w : Written) (r : Result State Fault) (t : Tables) : Type 0 where
  pub answer : fault manner w line ≡ closing_number r
  pub holds : (next : State) → r ≡ Ok next → Holds t next (write w line)
