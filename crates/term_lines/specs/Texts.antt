-- The lines of a clause as far as the reader has come, as bytes; and the limits as far as they are met.
use Rattle.std.specs.Prelude.{◌≡◌, true, List, [], ◌∷◌, ◌++◌, ℕ, suc, ◌+◌, ◌≤◌, length}
use Rattle.std.proofs.Math.Option.{Option, some, none}
use Prim.Native.Char.{code}
use Rattle.theory.specs.Lists.{◌∈◌}
use Rattle.theory.specs.Text.{Bytes, bytes, is_name}
use Rattle.theory.specs.Terms.{Term, Terms, symbol, nil, cons, arity, symbol_token, written_term}
use Rattle.theory.specs.Terms as Terms
use Rattle.theory.specs.Packs.{Atom, text_of, line_limit}
use Rattle.clause_theory.specs.ClauseTokens.{Mark, name, variable, opens, closes, comma, neck, stop}
use Rattle.clause_theory.specs.Clauses.{Clause, Open, ending_term, Last, due, read, State, state, atom_of, added}
use Rattle.clause_theory.specs.Import.{clause_lines, term_fits, terms_fit, atom_fits}

-- a line's letter and comma
unfoldable pub line_front : Option Clause → Bytes
line_front none = bytes "H,"
line_front (some c) = bytes "B,"

-- the lines that are complete
unfoldable pub done_text : Option Clause → Bytes
done_text none = []
done_text (some c) = text_of (clause_lines c)

-- terms, each after a separator
unfoldable pub after_each : ℕ → Terms → Bytes
after_each separator nil = []
after_each separator (cons t ts) = separator ∷ (written_term t ++ after_each separator ts)

unfoldable pub atom_text : Option Clause → Bytes → Terms → Bytes
atom_text before f ts = line_front before ++ (f ++ after_each (code ",") ts)

-- a line up to the argument that is due
unfoldable pub open_text : Option Clause → List Open → Bytes
open_text before [] = []
open_text before (o ∷ []) = atom_text before o.name o.before ++ (code "," ∷ [])
open_text before (o ∷ p ∷ opened) = open_text before (p ∷ opened) ++ (symbol_token o.name (suc (arity o.before)) ++ (after_each (code " ") o.before ++ (code " " ∷ [])))

unfoldable pub last_text : Option Clause → List Open → Last → Bytes
last_text before opened due = []
last_text before [] (read t) = atom_text before (atom_of t).name (atom_of t).terms
last_text before (o ∷ opened) (read t) = written_term t

-- this line
abbrev pub line_text : Option Clause → List Open → Last → Bytes
line_text before opened last = open_text before opened ++ last_text before opened last

-- All that is written.
unfoldable pub drawn_text : State → Bytes
drawn_text s = done_text s.before ++ line_text s.before s.opened s.last

-- ## One token more

-- the tokens after which a head or a subgoal is complete
pub data EndsAtom : Mark → Type 0 where
  by_comma : EndsAtom comma
  by_neck : EndsAtom neck
  by_stop : EndsAtom stop

-- What a token makes of a state. A clause at its end is one whose head and subgoals are complete.
pub data Moves : State → Mark → State → Type 0 where
  names_atom : {before : Option Clause} {f : Bytes} → Moves (state before [] due) (name f) (state before [] (read (symbol f nil)))
  names_symbol : {before : Option Clause} {o : Open} {opened : List Open} {f : Bytes} → Moves (state before (o ∷ opened) due) (name f) (state before (o ∷ opened) (read (symbol f nil)))
  reads_variable : {before : Option Clause} {o : Open} {opened : List Open} {x : Bytes} → Moves (state before (o ∷ opened) due) (variable x) (state before (o ∷ opened) (read (Terms.variable x)))
  opens_atom : {before : Option Clause} {f : Bytes} → Moves (state before [] (read (symbol f nil))) opens (state before (record { name = f; before = nil } ∷ []) due)
  opens_symbol : {before : Option Clause} {o : Open} {opened : List Open} {f : Bytes} → Moves (state before (o ∷ opened) (read (symbol f nil))) opens (state before (record { name = f; before = nil } ∷ o ∷ opened) due)
  closes_one : {before : Option Clause} {o : Open} {opened : List Open} {t : Term} → Moves (state before (o ∷ opened) (read t)) closes (state before opened (read (symbol o.name (ending_term t o.before))))
  ends_line : {before : Option Clause} {t : Term} {m : Mark} → EndsAtom m → Moves (state before [] (read t)) m (state (some (added before (atom_of t))) [] due)
  next_argument : {before : Option Clause} {o : Open} {t : Term} → Moves (state before (o ∷ []) (read t)) comma (state before (record { name = o.name; before = ending_term t o.before } ∷ []) due)
  next_term : {before : Option Clause} {o p : Open} {opened : List Open} {t : Term} → Moves (state before (o ∷ p ∷ opened) (read t)) comma (state before (record { name = o.name; before = ending_term t o.before } ∷ p ∷ opened) due)

-- ## The limits

unfoldable pub atoms_of : Option Clause → List Atom
atoms_of none = []
atoms_of (some c) = c.head ∷ c.subgoals

unfoldable pub lines_of : Option Clause → List Bytes
lines_of none = []
lines_of (some c) = clause_lines c

-- a compound that is open has an argument more than those before
pub record OpenFits (limit : ℕ) (o : Open) : Type 0 where
  pub named : is_name o.name ≡ true
  pub few : suc (arity o.before) ≤ limit
  pub formed : terms_fit o.before ≡ true

-- the outermost is an atom
abbrev pub OpenedFit : List Open → Type 0
OpenedFit [] = Unit {0}
OpenedFit (o ∷ []) = OpenFits 8 o
OpenedFit (o ∷ p ∷ opened) = OpenFits 9 o × OpenedFit (p ∷ opened)

abbrev pub LastFits : List Open → Last → Type 0
LastFits opened due = Unit {0}
LastFits [] (read t) = atom_fits (atom_of t) ≡ true
LastFits (o ∷ opened) (read t) = term_fits t ≡ true

-- an atom is being read
unfoldable pub current : List Open → Last → ℕ
current [] due = 0
current [] (read t) = 1
current (o ∷ opened) last = 1

pub record PartsFit (before : Option Clause) (opened : List Open) (last : Last) : Type 0 where
  pub atoms : (a : Atom) → a ∈ atoms_of before → atom_fits a ≡ true
  pub lines : (l : Bytes) → l ∈ lines_of before → length l ≤ line_limit
  pub count : length (atoms_of before) + current opened last ≤ 9
  pub opens_fit : OpenedFit opened
  pub last_fits : LastFits opened last
  pub line : length (line_text before opened last) ≤ line_limit

-- Nothing that has been read passes a limit.
abbrev pub StateFits : State → Type 0
StateFits s = PartsFit s.before s.opened s.last
