-- Only the stop ends a clause, and it always does where it can stand.
use mathlib.Core.Path.{◌≡◌, refl}
use mathlib.Core.Bool.{Bool, true, false}
use mathlib.Core.List.{List, [], ◌∷◌}
use mathlib.Core.Option.{Option, some, none}
use Rattle.theory.specs.Lists.{is_empty, is_some}
use Rattle.theory.specs.Text.{Bytes}
use Rattle.theory.specs.Terms.{Term, symbol, nil, cons}
use Rattle.theory.specs.Terms as Terms
use Rattle.clause_theory.specs.ClauseTokens.{name, variable, opens, closes, comma, neck, stop, stray}
use Rattle.clause_theory.specs.ClauseTokens as T
use Rattle.clause_theory.specs.Clauses.{Clause, Open, Last, due, read, State, Step, refuses, goes, ends, step_due, step_opens, step_atom, step_argument, step_read, step_after, step}
use Rattle.clause_tokens.specs.NextTokens.{is_stop_mark, Seen, seen_name, seen_variable, seen_lone, seen_sign, sign_opens, sign_closes, sign_comma, sign_neck, sign_stop, sign_stray}
use Rattle.clause_tokens.specs.declared.Mark.{Mark}

unfoldable pub is_stop_token : T.Mark → Bool
is_stop_token (name f) = false
is_stop_token (variable x) = false
is_stop_token opens = false
is_stop_token closes = false
is_stop_token comma = false
is_stop_token neck = false
is_stop_token stop = true
is_stop_token (stray s) = false

pub stop_seen : {x : Bytes} {k : Mark} {m : T.Mark} → Seen x k m → is_stop_mark k ≡ is_stop_token m
unfolding is_stop_token
stop_seen (seen_name w) = refl
stop_seen (seen_variable w l) = refl
stop_seen seen_lone = refl
stop_seen (seen_sign sign_opens) = refl
stop_seen (seen_sign sign_closes) = refl
stop_seen (seen_sign sign_comma) = refl
stop_seen (seen_sign sign_neck) = refl
stop_seen (seen_sign sign_stop) = refl
stop_seen (seen_sign sign_stray) = refl

abbrev pub EndsByStop : T.Mark → Step → Type 0
EndsByStop m refuses = Unit {0}
EndsByStop m (goes next) = is_stop_token m ≡ false
EndsByStop m (ends c) = is_stop_token m ≡ true

opens_by : (before : Option Clause) (opened : List Open) (t : Term) → EndsByStop opens (step_opens before opened t)
unfolding step_opens is_stop_token
opens_by before opened (Terms.variable x) = tt
opens_by before opened (symbol f nil) = refl
opens_by before opened (symbol f (cons t ts)) = tt

due_by : (before : Option Clause) (opened : List Open) (m : T.Mark) → EndsByStop m (step_due before opened m)
unfolding step_due is_stop_token is_empty
due_by before opened (name f) = refl
due_by before [] (variable x) = tt
due_by before (o ∷ opened) (variable x) = refl
due_by before opened opens = tt
due_by before opened closes = tt
due_by before opened comma = tt
due_by before opened neck = tt
due_by before opened stop = tt
due_by before opened (stray s) = tt

atom_by : (before : Option Clause) (t : Term) (m : T.Mark) → EndsByStop m (step_atom before t m)
unfolding step_atom is_stop_token is_some
atom_by before t (name f) = tt
atom_by before t (variable x) = tt
atom_by before t opens = opens_by before [] t
atom_by before t closes = tt
atom_by none t comma = tt
atom_by (some c) t comma = refl
atom_by none t neck = refl
atom_by (some c) t neck = tt
atom_by before t stop = refl
atom_by before t (stray s) = tt

argument_by : (before : Option Clause) (o : Open) (opened : List Open) (t : Term) (m : T.Mark) → EndsByStop m (step_argument before o opened t m)
unfolding step_argument is_stop_token
argument_by before o opened t (name f) = tt
argument_by before o opened t (variable x) = tt
argument_by before o opened t opens = opens_by before (o ∷ opened) t
argument_by before o opened t closes = refl
argument_by before o opened t comma = refl
argument_by before o opened t neck = tt
argument_by before o opened t stop = tt
argument_by before o opened t (stray s) = tt

pub step_by : (s : State) (m : T.Mark) → EndsByStop m (step s m)
unfolding step step_after step_read
step_by s m = at s.before s.opened s.last
  where
    at : (before : Option Clause) (opened : List Open) (last : Last) → EndsByStop m (step_after before opened last m)
    at before opened due = due_by before opened m
    at before [] (read t) = atom_by before t m
    at before (o ∷ opened) (read t) = argument_by before o opened t m
