-- The reader, mark by mark: from its beginning it runs through a list of marks to a clause exactly if they are the clause's marks.
use mathlib.Core.Path.{◌≡◌, refl, sym, ◌∙◌, ap, subst}
use mathlib.Core.Bool.{true, not, ◌&&◌}
use mathlib.Core.List.{List, [], ◌∷◌, ◌++◌, append_assoc, append-nil}
use mathlib.Core.Option.{Option, some, none}
use Rattle.groundwork.proofs.Truth.{never_both}
use Rattle.theory.specs.Lists.{is_empty, is_some}
use Rattle.theory.specs.Text.{Bytes}
use Rattle.theory.specs.Terms.{Term, Terms, symbol, nil, cons}
use Rattle.theory.specs.Terms as T
use Rattle.theory.specs.Packs.{Atom}
use Rattle.clause_theory.specs.ClauseTokens.{Mark, name, variable, opens, closes, comma, neck, stop, stray}
use Rattle.clause_theory.specs.Clauses.{Clause, term_marks, argument_marks, later_marks, atom_marks, body_marks, clause_marks}
use Rattle.clause_theory.specs.Clauses.{Open, ending_term, Last, due, read, State, state, begin, is_due, is_begin, Step, refuses, goes, ends, atom_of, added}
use Rattle.clause_theory.specs.Clauses.{step_due, step_opens, step_atom, step_argument, step_read, step_after, step}

-- The reader runs from a state through marks to the end of a clause.
pub data Runs : State → List Mark → Clause → Type 0 where
  runs_end : {s : State} {m : Mark} {c : Clause} → step s m ≡ ends c → Runs s (m ∷ []) c
  runs_on : {s next : State} {m : Mark} {ms : List Mark} {c : Clause} → step s m ≡ goes next → Runs next ms c → Runs s (m ∷ ms) c

-- ---- a clause's marks lead to it

-- arguments read, the one read last, and those after it
with_later : Terms → Term → Terms → Terms
with_later us t nil = ending_term t us
with_later us t (cons u ts) = with_later (ending_term t us) u ts

with_later_cons : (v : Term) (us : Terms) (t : Term) (ts : Terms) → with_later (cons v us) t ts ≡ cons v (with_later us t ts)
unfolding with_later ending_term
with_later_cons v us t nil = refl
with_later_cons v us t (cons u ts) = with_later_cons v (ending_term t us) u ts

with_later_first : (t : Term) (ts : Terms) → with_later nil t ts ≡ cons t ts
unfolding with_later ending_term
with_later_first t nil = refl
with_later_first t (cons u ts) = with_later_cons t nil u ts ∙ ap (cons t) (with_later_first u ts)

opened_by : (before : Option Clause) (opened : List Open) (f : Bytes) → step (state before opened (read (symbol f nil))) opens ≡ goes (state before (record { name = f; before = nil } ∷ opened) due)
unfolding step step_after step_read step_atom step_argument step_opens
opened_by before [] f = refl
opened_by before (o ∷ opened) f = refl

module _ (c : Clause) (before : Option Clause) where
  mutual
    unfolding term_marks step step_after step_due step_read step_argument is_empty with_later

    term_runs : (o : Open) (opened : List Open) (t : Term) (rest : List Mark) → Runs (state before (o ∷ opened) (read t)) rest c → Runs (state before (o ∷ opened) due) (term_marks t ++ rest) c
    term_runs o opened (T.variable x) rest runs = runs_on refl runs
    term_runs o opened (symbol f ts) rest runs = runs_on refl (arguments_run (o ∷ opened) f ts rest runs)

    arguments_run : (opened : List Open) (f : Bytes) (ts : Terms) (rest : List Mark) → Runs (state before opened (read (symbol f ts))) rest c → Runs (state before opened (read (symbol f nil))) (argument_marks ts ++ rest) c
    arguments_run opened f nil rest runs = runs
    arguments_run opened f (cons t ts) rest runs =
        rw (append_assoc (term_marks t) (later_marks ts) rest)
        (runs_on (opened_by before opened f)
        (term_runs (record { name = f; before = nil }) opened t (later_marks ts ++ rest)
        (later_run opened f nil t ts rest (rw (with_later_first t ts) runs))))

    later_run : (opened : List Open) (f : Bytes) (us : Terms) (t : Term) (ts : Terms) (rest : List Mark) → Runs (state before opened (read (symbol f (with_later us t ts)))) rest c
        → Runs (state before (record { name = f; before = us } ∷ opened) (read t)) (later_marks ts ++ rest) c
    later_run opened f us t nil rest runs = runs_on refl runs
    later_run opened f us t (cons u ts) rest runs =
        rw (append_assoc (term_marks u) (later_marks ts) rest)
        (runs_on refl
        (term_runs (record { name = f; before = ending_term t us }) opened u (later_marks ts ++ rest)
        (later_run opened f (ending_term t us) u ts rest runs)))

  atom_runs : (a : Atom) (rest : List Mark) → Runs (state before [] (read (symbol a.name a.terms))) rest c → Runs (state before [] due) (atom_marks a ++ rest) c
  unfolding term_marks step step_after step_due
  atom_runs a rest runs = runs_on refl (arguments_run [] a.name a.terms rest runs)

subgoals_run : (h : Atom) (bs : List Atom) (a : Atom) (atoms : List Atom)
    → Runs (state (some (record { head = h; subgoals = bs })) [] (read (symbol a.name a.terms))) (body_marks comma atoms) (record { head = h; subgoals = bs ++ (a ∷ atoms) })
unfolding body_marks step step_after step_read step_atom is_some added atom_of
subgoals_run h bs a [] = runs_end refl
subgoals_run h bs a (b ∷ atoms) =
    rw (← append_assoc bs (a ∷ []) (b ∷ atoms))
    (runs_on refl
    (atom_runs _ (some (record { head = h; subgoals = bs ++ (a ∷ []) })) b (body_marks comma atoms) (subgoals_run h (bs ++ (a ∷ [])) b atoms)))

body_runs : (h : Atom) (atoms : List Atom) → Runs (state none [] (read (symbol h.name h.terms))) (body_marks neck atoms) (record { head = h; subgoals = atoms })
unfolding body_marks step step_after step_read step_atom is_some added atom_of
body_runs h [] = runs_end refl
body_runs h (a ∷ atoms) = runs_on refl (atom_runs _ (some (record { head = h; subgoals = [] })) a (body_marks comma atoms) (subgoals_run h [] a atoms))

pub runs_complete : (c : Clause) → Runs begin (clause_marks c) c
unfolding clause_marks begin
runs_complete c = atom_runs c none c.head (body_marks neck c.subgoals) (body_runs c.head c.subgoals)

-- ---- no other marks do

-- subgoals, the first after one mark and each other after a comma, and a comma
open_body : Mark → List Atom → List Mark
open_body before [] = before ∷ []
open_body before (a ∷ atoms) = before ∷ (atom_marks a ++ open_body comma atoms)

before_marks : Option Clause → List Mark
before_marks none = []
before_marks (some c) = atom_marks c.head ++ open_body neck c.subgoals

-- arguments with a comma after each
comma_marks : Terms → List Mark
comma_marks nil = []
comma_marks (cons t ts) = term_marks t ++ comma ∷ comma_marks ts

open_marks : List Open → List Mark
open_marks [] = []
open_marks (o ∷ opened) = open_marks opened ++ (name o.name ∷ opens ∷ comma_marks o.before)

-- (a variable with nothing open is never read: it counts as the name that `atom_of` makes of it)
last_marks : List Open → Last → List Mark
last_marks opened due = []
last_marks [] (read t) = atom_marks (atom_of t)
last_marks (o ∷ opened) (read t) = term_marks t

-- The marks that lead to a state.
pub consumed_at : Option Clause → List Open → Last → List Mark
consumed_at before opened last = before_marks before ++ (open_marks opened ++ last_marks opened last)

abbrev pub consumed : State → List Mark
consumed s = consumed_at s.before s.opened s.last

-- none lead to where no mark of a clause has been read
pub begin_consumed : (s : State) → is_begin s ≡ true → consumed s ≡ []
unfolding is_begin is_some is_empty is_due consumed_at before_marks open_marks last_marks
begin_consumed s e = at s.before s.opened s.last e
  where
    at : (before : Option Clause) (opened : List Open) (last : Last) → (not (is_some before) && is_empty opened && is_due last) ≡ true → consumed_at before opened last ≡ []
    at none [] due e = refl
    at none [] (read t) e = never_both e refl
    at none (o ∷ opened) last e = never_both e refl
    at (some c) opened last e = never_both e refl

-- what a step adds to them
abbrev pub Adds : List Mark → Mark → Step → Type 0
Adds passed m refuses = Unit {0}
Adds passed m (goes next) = consumed next ≡ passed ++ (m ∷ [])
Adds passed m (ends c) = clause_marks c ≡ passed ++ (m ∷ [])

opens_adds : (before : Option Clause) (opened : List Open) (t : Term) → Adds (consumed_at before opened (read t)) opens (step_opens before opened t)
unfolding step_opens consumed_at open_marks last_marks comma_marks term_marks atom_of
opens_adds before opened (T.variable x) = tt
opens_adds before [] (symbol f nil) = simp (append_assoc, append-nil)
opens_adds before (o ∷ opened) (symbol f nil) = simp (append_assoc, append-nil)
opens_adds before opened (symbol f (cons t ts)) = tt

due_adds : (before : Option Clause) (opened : List Open) (m : Mark) → Adds (consumed_at before opened due) m (step_due before opened m)
unfolding step_due consumed_at last_marks open_marks term_marks atom_of is_empty
due_adds before [] (name f) = simp append-nil
due_adds before (o ∷ opened) (name f) = simp (append_assoc, append-nil)
due_adds before [] (variable x) = tt
due_adds before (o ∷ opened) (variable x) = simp (append_assoc, append-nil)
due_adds before opened opens = tt
due_adds before opened closes = tt
due_adds before opened comma = tt
due_adds before opened neck = tt
due_adds before opened stop = tt
due_adds before opened (stray s) = tt

-- one subgoal more
open_body_more : (m : Mark) (atoms : List Atom) (a : Atom) → open_body m (atoms ++ (a ∷ [])) ≡ open_body m atoms ++ (atom_marks a ++ (comma ∷ []))
unfolding open_body
open_body_more m [] a = refl
open_body_more m (b ∷ atoms) a = ap (λ (ms : List Mark). m ∷ (atom_marks b ++ ms)) (open_body_more comma atoms a) ∙ ap (λ (ms : List Mark). m ∷ ms) (sym (append_assoc (atom_marks b) _ _))

body_marks_more : (m : Mark) (atoms : List Atom) (a : Atom) → body_marks m (atoms ++ (a ∷ [])) ≡ open_body m atoms ++ (atom_marks a ++ (stop ∷ []))
unfolding open_body body_marks
body_marks_more m [] a = refl
body_marks_more m (b ∷ atoms) a = ap (λ (ms : List Mark). m ∷ (atom_marks b ++ ms)) (body_marks_more comma atoms a) ∙ ap (λ (ms : List Mark). m ∷ ms) (sym (append_assoc (atom_marks b) _ _))

atom_adds : (before : Option Clause) (t : Term) (m : Mark) → Adds (consumed_at before [] (read t)) m (step_atom before t m)
unfolding step_atom consumed_at last_marks open_marks before_marks open_body is_some added clause_marks body_marks
atom_adds before t (name f) = tt
atom_adds before t (variable x) = tt
atom_adds before t opens = opens_adds before [] t
atom_adds before t closes = tt
atom_adds none t comma = tt
atom_adds (some c) t comma = rw (open_body_more neck c.subgoals (atom_of t)) (simp (append_assoc, append-nil))
atom_adds none t neck = simp (append_assoc, append-nil)
atom_adds (some c) t neck = tt
atom_adds none t stop = refl
atom_adds (some c) t stop = rw (body_marks_more neck c.subgoals (atom_of t)) (simp append_assoc)
atom_adds before t (stray s) = tt

-- one argument more
comma_marks_more : (t : Term) (us : Terms) → comma_marks (ending_term t us) ≡ comma_marks us ++ (term_marks t ++ (comma ∷ []))
unfolding comma_marks ending_term
comma_marks_more t nil = refl
comma_marks_more t (cons u us) = rw (comma_marks_more t us) (sym (append_assoc (term_marks u) _ _))

later_marks_more : (t : Term) (us : Terms) → later_marks (ending_term t us) ≡ comma ∷ (comma_marks us ++ (term_marks t ++ (closes ∷ [])))
unfolding comma_marks ending_term term_marks
later_marks_more t nil = refl
later_marks_more t (cons u us) = rw (later_marks_more t us) (ap (λ (ms : List Mark). comma ∷ ms) (sym (append_assoc (term_marks u) _ _)))

argument_marks_more : (t : Term) (us : Terms) → argument_marks (ending_term t us) ≡ opens ∷ (comma_marks us ++ (term_marks t ++ (closes ∷ [])))
unfolding comma_marks ending_term term_marks
argument_marks_more t nil = refl
argument_marks_more t (cons u us) = rw (later_marks_more t us) (ap (λ (ms : List Mark). opens ∷ ms) (sym (append_assoc (term_marks u) _ _)))

argument_adds : (before : Option Clause) (o : Open) (opened : List Open) (t : Term) (m : Mark) → Adds (consumed_at before (o ∷ opened) (read t)) m (step_argument before o opened t m)
unfolding step_argument consumed_at last_marks open_marks term_marks atom_of
argument_adds before o opened t (name f) = tt
argument_adds before o opened t (variable x) = tt
argument_adds before o opened t opens = opens_adds before (o ∷ opened) t
argument_adds before o [] t closes = rw (argument_marks_more t o.before) (simp append_assoc)
argument_adds before o (p ∷ opened) t closes = rw (argument_marks_more t o.before) (simp append_assoc)
argument_adds before o opened t comma = rw (comma_marks_more t o.before) (simp (append_assoc, append-nil))
argument_adds before o opened t neck = tt
argument_adds before o opened t stop = tt
argument_adds before o opened t (stray s) = tt

pub step_adds : (s : State) (m : Mark) → Adds (consumed s) m (step s m)
unfolding step step_after step_read
step_adds s m = at s.before s.opened s.last
  where
    at : (before : Option Clause) (opened : List Open) (last : Last) → Adds (consumed_at before opened last) m (step_after before opened last m)
    at before opened due = due_adds before opened m
    at before [] (read t) = atom_adds before t m
    at before (o ∷ opened) (read t) = argument_adds before o opened t m

runs_consumed : {s : State} {ms : List Mark} {c : Clause} → Runs s ms c → consumed s ++ ms ≡ clause_marks c
runs_consumed (runs_end {s = s} {m = m} e) = sym (subst (Adds (consumed s) m) e (step_adds s m))
runs_consumed (runs_on {s = s} {next = next} {m = m} {ms = ms} e runs) =
    sym (append_assoc (consumed s) (m ∷ []) ms) ∙ ap (λ (passed : List Mark). passed ++ ms) (sym (subst (Adds (consumed s) m) e (step_adds s m))) ∙ runs_consumed runs

pub runs_sound : {ms : List Mark} {c : Clause} → Runs begin ms c → ms ≡ clause_marks c
unfolding begin is_begin is_some is_empty is_due
runs_sound {ms} runs = ap (λ (passed : List Mark). passed ++ ms) (sym (begin_consumed begin refl)) ∙ runs_consumed runs
