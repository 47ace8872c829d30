-- Every step of the reader is one of the moves.
use mathlib.Core.Path.{◌≡◌, subst}
use mathlib.Core.List.{List, [], ◌∷◌}
use mathlib.Core.Option.{Option, some, none}
use Rattle.theory.specs.Lists.{is_some, is_empty}
use Rattle.theory.specs.Terms.{Term, symbol, nil, cons}
use Rattle.theory.specs.Terms as Terms
use Rattle.clause_theory.specs.ClauseTokens.{Mark, name, variable, opens, closes, comma, neck, stop, stray}
use Rattle.clause_theory.specs.Clauses.{Clause, Open, Last, due, read, State, state, Step, refuses, goes, ends, step_due, step_opens, step_atom, step_argument, step_read, step_after, step}
use Rattle.term_lines.specs.Texts.{by_comma, by_neck, by_stop, Moves, names_atom, names_symbol, reads_variable, opens_atom, opens_symbol, closes_one, ends_line, next_argument, next_term}

-- what a step makes of a state
abbrev pub MovesTo : State → Mark → Step → Type 0
MovesTo s m refuses = Unit {0}
MovesTo s m (goes next) = Moves s m next
MovesTo s m (ends c) = Moves s m (state (some c) [] due)

opens_moves : (before : Option Clause) (opened : List Open) (t : Term) → MovesTo (state before opened (read t)) opens (step_opens before opened t)
unfolding step_opens
opens_moves before opened (Terms.variable x) = tt
opens_moves before [] (symbol f nil) = opens_atom
opens_moves before (o ∷ opened) (symbol f nil) = opens_symbol
opens_moves before opened (symbol f (cons t ts)) = tt

due_moves : (before : Option Clause) (opened : List Open) (m : Mark) → MovesTo (state before opened due) m (step_due before opened m)
unfolding step_due is_empty
due_moves before [] (name f) = names_atom
due_moves before (o ∷ opened) (name f) = names_symbol
due_moves before [] (variable x) = tt
due_moves before (o ∷ opened) (variable x) = reads_variable
due_moves before opened opens = tt
due_moves before opened closes = tt
due_moves before opened comma = tt
due_moves before opened neck = tt
due_moves before opened stop = tt
due_moves before opened (stray s) = tt

atom_moves : (before : Option Clause) (t : Term) (m : Mark) → MovesTo (state before [] (read t)) m (step_atom before t m)
unfolding step_atom is_some
atom_moves before t (name f) = tt
atom_moves before t (variable x) = tt
atom_moves before t opens = opens_moves before [] t
atom_moves before t closes = tt
atom_moves none t comma = tt
atom_moves (some c) t comma = ends_line by_comma
atom_moves none t neck = ends_line by_neck
atom_moves (some c) t neck = tt
atom_moves before t stop = ends_line by_stop
atom_moves before t (stray s) = tt

argument_moves : (before : Option Clause) (o : Open) (opened : List Open) (t : Term) (m : Mark) → MovesTo (state before (o ∷ opened) (read t)) m (step_argument before o opened t m)
unfolding step_argument
argument_moves before o opened t (name f) = tt
argument_moves before o opened t (variable x) = tt
argument_moves before o opened t opens = opens_moves before (o ∷ opened) t
argument_moves before o opened t closes = closes_one
argument_moves before o [] t comma = next_argument
argument_moves before o (p ∷ opened) t comma = next_term
argument_moves before o opened t neck = tt
argument_moves before o opened t stop = tt
argument_moves before o opened t (stray s) = tt

step_moves : (s : State) (m : Mark) → MovesTo s m (step s m)
unfolding step step_after step_read
step_moves s m = at s.before s.opened s.last
  where
    at : (before : Option Clause) (opened : List Open) (last : Last) → MovesTo (state before opened last) m (step_after before opened last m)
    at before opened due = due_moves before opened m
    at before [] (read t) = atom_moves before t m
    at before (o ∷ opened) (read t) = argument_moves before o opened t m

pub step_goes : {s next : State} {m : Mark} → step s m ≡ goes next → Moves s m next
step_goes {s} {next} {m} e = subst (MovesTo s m) e (step_moves s m)

pub step_ends : {s : State} {c : Clause} {m : Mark} → step s m ≡ ends c → Moves s m (state (some c) [] due)
step_ends {s} {c} {m} e = subst (MovesTo s m) e (step_moves s m)
