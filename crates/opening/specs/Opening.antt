-- A line's tests before its fields are read.
use Rattle.std.specs.Prelude.{◌≡◌, Bool, true, false, cond, not, ◌&&◌, List, ℕ, ◌+◌, ◌≤◌, ◌<◌, eqb, length, drop, Option, Some, None, Result, Ok, Err}
use Rattle.std.proofs.Math.Option as M
use Rattle.theory.specs.declared.Letter.{Letter}
use Rattle.theory.specs.declared.Letter.TheVariants.{P, C, G, H, B, M, E, NoLetter}
use Rattle.theory.specs.Lists.{is_some}
use Rattle.theory.specs.Text.{Bytes, is_name, fields_of}
use Rattle.theory.specs.Written.{line_letter, field, kind_from, Written}
use Rattle.theory.specs.Faults.{is_kind, is_unfit, is_complete, may_stand, Manner, fault}
use Rattle.text.specs.Scans.{parts_from}
use Rattle.words.specs.declared.Words.{Words}
use Rattle.words.specs.Words.{words_of}
use Rattle.tables.specs.declared.Signature.{Signature}
use Rattle.tables.specs.declared.Kind.{Kind}
use Rattle.tables.specs.declared.Kind.TheVariants.{Ruled, Given}
use Rattle.tables.specs.declared.State.{State}
use Rattle.tables.specs.declared.Fault.{Fault}
use Rattle.tables.specs.declared.Fault.TheVariants.{Declaration, FieldCount, Number, RuledFact}
use Rattle.tables.specs.declared.Opened.{Opened}
use Rattle.tables.specs.Faults.{number_of}
use Rattle.tables.specs.Tables.{kind_of, Outline}
use Rattle.tables.specs.Lines.{Passed, SafeOpened}
use Rattle.opening.specs.declared.Named.{Named}

-- ## By letter

-- lines that name a predicate
pub data HasName : Letter → Type 0 where
  predicate : HasName P
  claim : HasName C
  fact : HasName G
  head : HasName H
  subgoal : HasName B

-- lines without a name
pub data Nameless : Letter → Type 0 where
  multipliers : Nameless M
  end : Nameless E

-- lines that declare a predicate
abbrev pub declares : Letter → Bool
declares P = true
declares C = false
declares G = false
declares H = false
declares B = false
declares M = false
declares E = false
declares NoLetter = false

-- whether a declared predicate of this kind is refused: any one in a `P` line, a ruled one in a fact, a given one as a head
abbrev pub bars : Letter → Kind → Bool
bars P kind = true
bars C kind = false
bars G Ruled = true
bars G Given = false
bars H Ruled = false
bars H Given = true
bars B kind = false
bars M kind = false
bars E kind = false
bars NoLetter kind = false

-- the fault that such a line has
abbrev pub barred_by : Letter → Fault
barred_by P = Declaration
barred_by C = Declaration
barred_by G = RuledFact
barred_by H = Declaration
barred_by B = Declaration
barred_by M = Declaration
barred_by E = Declaration
barred_by NoLetter = Declaration

-- ## Declarations

-- the kind that a field writes, where it is one
abbrev pub kind_written : Bytes → Option Kind
kind_written f = cond (is_kind f) (Some (kind_of (kind_from f))) None

-- the opening of a line that declares a new predicate, by the number of its commas, its arity, and the kind after that, which stands from a place on
abbrev pub declaration : Bytes → ℕ → Words → ℕ → ℕ → M.Option ℕ → Result Opened Fault
declaration line known words from commas arity =
    let kind = field 1 (parts_from 44 line from) in
    cond (not (eqb commas 3)) (Err FieldCount)
    (cond (not (is_some arity && is_kind kind)) (Err Number)
    (Ok (record { letter = P; predicate = known; signature = record { words = words; kind = kind_of (kind_from kind); arity = M.get_or arity 0; claims = 0 }; from = length line + 1 })))

-- ## Steps

-- the line begins with one of the letters; its fields after the letter
pub record Begins (line : Bytes) : Type 0 where
  pub rest : parts_from 44 line 2 ≡ drop 1 (fields_of line)

pub record LetterRead (line : Bytes) (r : Letter) : Type 0 where
  pub is : r ≡ line_letter line
  pub begins : (r ≡ NoLetter → ⊥) → Begins line

-- the name in a line's second field
pub record NameStands (line : Bytes) (r : Named) : Type 0 where
  pub named : is_name (field 1 (fields_of line)) ≡ true
  pub words : r.words ≡ words_of (field 1 (fields_of line))
  pub stop : r.stop ≤ length line
  pub rest : parts_from 44 line (r.stop + 1) ≡ drop 2 (fields_of line)

pub record NameRead (line : Bytes) (r : Option Named) : Type 0 where
  pub found : (name : Named) → r ≡ Some name → NameStands line name
  pub none : r ≡ None → is_name (field 1 (fields_of line)) ≡ false

-- a line that is opened, judged in some manner after lines that write w
pub record OpenedFor (manner : Manner) (line : Bytes) (s : State) (w : Written) (r : Result Opened Fault) : Type 0 where
  pub refused : (f : Fault) → r ≡ Err f → fault manner w line ≡ number_of f
  pub passed : (o : Opened) → r ≡ Ok o → Passed manner o.letter line s w o

-- in each manner that allows the letters of a whole pack
pub record Opens (line : Bytes) (signatures : List Signature) (s : State) (r : Result Opened Fault) : Type 0 where
  pub safe : (o : Opened) → r ≡ Ok o → SafeOpened line s o
  pub other : (f : Fault) → r ≡ Err f → number_of f ≡ 13 → ⊥
  pub tells : (manner : Manner) → manner.allows ≡ may_stand → (w : Written) → Outline signatures s w → OpenedFor manner line s w r

-- the same for a fit line of a letter that may stand here, in each manner that allows it
pub record OpensLetter (letter : Letter) (line : Bytes) (signatures : List Signature) (s : State) (r : Result Opened Fault) : Type 0 where
  pub safe : (o : Opened) → r ≡ Ok o → SafeOpened line s o
  pub other : (f : Fault) → r ≡ Err f → number_of f ≡ 13 → ⊥
  pub tells : (manner : Manner) (w : Written) → Outline signatures s w → is_unfit line ≡ false → w.ended ≡ false → manner.allows w.pack letter ≡ true → may_stand w.pack letter ≡ true → line_letter line ≡ letter → OpenedFor manner line s w r

pub record Completes (signatures : List Signature) (s : State) (r : Bool) : Type 0 where
  pub tells : (w : Written) → Outline signatures s w → r ≡ is_complete w.pack
  pub due : r ≡ false → s.multipliers < 16

pub record Stands (letter : Letter) (signatures : List Signature) (s : State) (r : Bool) : Type 0 where
  pub tells : (w : Written) → Outline signatures s w → r ≡ (not w.ended && may_stand w.pack letter)
  pub known : r ≡ true → letter ≡ NoLetter → ⊥
  pub due : letter ≡ M → r ≡ true → s.multipliers < 16

-- the same whatever the tables hold that the letter's tests do not read
pub record OpensBare (letter : Letter) (line : Bytes) (s : State) (r : Result Opened Fault) : Type 0 where
  pub opens : (signatures : List Signature) → OpensLetter letter line signatures s r
