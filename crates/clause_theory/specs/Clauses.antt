-- Document 02, 6/14: facts and rules as the makers write them. Clauses are made of 01's terms, in which a lone `_` is the
-- variable `_`; the grammar tells how they are written, and the reader goes through the tokens from the first on.
use Rattle.std.specs.Prelude.{Bool, true, false, cond, not, ◌&&◌, List, [], ◌∷◌, ◌++◌}
use Rattle.std.proofs.Math.Option.{Option, some, none}
use Rattle.theory.specs.Lists.{is_empty, is_some, ending}
use Rattle.theory.specs.Text.{Bytes}
use Rattle.theory.specs.Terms.{Term, Terms, symbol, nil, cons}
use Rattle.theory.specs.Terms as T
use Rattle.theory.specs.Packs.{Atom}
use Rattle.clause_theory.specs.ClauseTokens.{Mark, name, variable, opens, closes, comma, neck, stop, stray}

-- A fact, which has no subgoals, or a rule without its multipliers.
pub record Clause : Type 0 where
  pub head : Atom
  pub subgoals : List Atom

-- ## The grammar: the tokens that write a clause

unfoldable mutual
  pub term_marks : Term → List Mark
  term_marks (T.variable x) = variable x ∷ []
  term_marks (symbol f ts) = name f ∷ argument_marks ts

  -- arguments in parentheses, parted by commas; none without parentheses
  pub argument_marks : Terms → List Mark
  argument_marks nil = []
  argument_marks (cons t ts) = opens ∷ (term_marks t ++ later_marks ts)

  -- the arguments after one
  pub later_marks : Terms → List Mark
  later_marks nil = closes ∷ []
  later_marks (cons t ts) = comma ∷ (term_marks t ++ later_marks ts)

abbrev pub atom_marks : Atom → List Mark
atom_marks a = term_marks (symbol a.name a.terms)

-- subgoals, the first after one mark and each other after a comma, and the end
unfoldable pub body_marks : Mark → List Atom → List Mark
body_marks before [] = stop ∷ []
body_marks before (a ∷ atoms) = before ∷ (atom_marks a ++ body_marks comma atoms)

unfoldable pub clause_marks : Clause → List Mark
clause_marks c = atom_marks c.head ++ body_marks neck c.subgoals

-- ## The reader

-- a compound whose arguments are being read: its name, and the arguments before the one that is due
pub record Open : Type 0 where
  pub name : Bytes
  pub before : Terms

-- an argument more, after the others
unfoldable pub ending_term : Term → Terms → Terms
ending_term t nil = cons t nil
ending_term t (cons u us) = cons u (ending_term t us)

-- what was read last: a term or an atom is due, or one is read (a symbol without arguments may still open)
pub data Last : Type 0 where
  due : Last
  read : Term → Last

-- How far the clause has been read: its atoms before this one, the open compounds from the innermost, and what was read last.
pub record State : Type 0 where
  pub before : Option Clause
  pub opened : List Open
  pub last : Last

abbrev pub state : Option Clause → List Open → Last → State
state before opened last = record { before = before; opened = opened; last = last }

unfoldable pub begin : State
begin = state none [] due

unfoldable pub is_due : Last → Bool
is_due due = true
is_due (read t) = false

-- no token of a clause has been read
unfoldable pub is_begin : State → Bool
is_begin s = not (is_some s.before) && is_empty s.opened && is_due s.last

-- what a token makes of a state
pub data Step : Type 0 where
  -- it can't continue the text
  refuses : Step
  goes : State → Step
  ends : Clause → Step

unfoldable pub atom_of : Term → Atom
atom_of (T.variable x) = record { name = x; terms = nil }
atom_of (symbol f ts) = record { name = f; terms = ts }

-- a clause's atoms and one more: the first is its head
unfoldable pub added : Option Clause → Atom → Clause
added none a = record { head = a; subgoals = [] }
added (some c) a = record { head = c.head; subgoals = ending a c.subgoals }

-- where an atom or a term is due
unfoldable pub step_due : Option Clause → List Open → Mark → Step
step_due before opened (name f) = goes (state before opened (read (symbol f nil)))
step_due before opened (variable x) = cond (is_empty opened) refuses (goes (state before opened (read (T.variable x))))
step_due before opened opens = refuses
step_due before opened closes = refuses
step_due before opened comma = refuses
step_due before opened neck = refuses
step_due before opened stop = refuses
step_due before opened (stray s) = refuses

-- `(` after a term: only right after a name
unfoldable pub step_opens : Option Clause → List Open → Term → Step
step_opens before opened (T.variable x) = refuses
step_opens before opened (symbol f nil) = goes (state before (record { name = f; before = nil } ∷ opened) due)
step_opens before opened (symbol f (cons t ts)) = refuses

-- after a head or a subgoal
unfoldable pub step_atom : Option Clause → Term → Mark → Step
step_atom before t (name f) = refuses
step_atom before t (variable x) = refuses
step_atom before t opens = step_opens before [] t
step_atom before t closes = refuses
step_atom before t comma = cond (is_some before) (goes (state (some (added before (atom_of t))) [] due)) refuses
step_atom before t neck = cond (is_some before) refuses (goes (state (some (added before (atom_of t))) [] due))
step_atom before t stop = ends (added before (atom_of t))
step_atom before t (stray s) = refuses

-- after an argument of the innermost open compound
unfoldable pub step_argument : Option Clause → Open → List Open → Term → Mark → Step
step_argument before o opened t (name f) = refuses
step_argument before o opened t (variable x) = refuses
step_argument before o opened t opens = step_opens before (o ∷ opened) t
step_argument before o opened t closes = goes (state before opened (read (symbol o.name (ending_term t o.before))))
step_argument before o opened t comma = goes (state before (record { name = o.name; before = ending_term t o.before } ∷ opened) due)
step_argument before o opened t neck = refuses
step_argument before o opened t stop = refuses
step_argument before o opened t (stray s) = refuses

unfoldable pub step_read : Option Clause → List Open → Term → Mark → Step
step_read before [] t m = step_atom before t m
step_read before (o ∷ opened) t m = step_argument before o opened t m

unfoldable pub step_after : Option Clause → List Open → Last → Mark → Step
step_after before opened due m = step_due before opened m
step_after before opened (read t) m = step_read before opened t m

-- The reader's next state.
unfoldable pub step : State → Mark → Step
step s m = step_after s.before s.opened s.last m
