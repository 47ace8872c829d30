-- Marks that lead the reader to a state. Every state can still come to the end of a clause; and where whole clauses and the
-- beginning of one more stand in front, there is no other way to read them.
use mathlib.Core.Path.{◌≡◌, refl, sym, ◌∙◌, ap, subst}
use mathlib.Core.Bool.{true}
use mathlib.Core.List.{List, [], ◌∷◌, ◌++◌, flat_map, append_assoc, append-nil, nil≢cons, head-eq_of_cons-eq, tail-eq_of_cons-eq}
use mathlib.Core.Option.{Option}
use Rattle.theory.specs.Lists.{every, is_empty, is_some}
use Rattle.theory.specs.Text.{bytes}
use Rattle.theory.specs.Terms.{Term, symbol, nil}
use Rattle.clause_theory.specs.ClauseTokens.{Mark, name, closes, stop}
use Rattle.clause_theory.specs.Clauses.{Clause, clause_marks, Open, ending_term, Last, due, read, State, state, begin, is_due, is_begin, Step, refuses, goes, ends, step_due, step_atom, step_argument, step_read, step_after, step}
use Rattle.clause_theory.specs.Cutting.{is_run}
use Rattle.clause_theory.proofs.Running.{Runs, runs_end, runs_on, runs_complete, consumed, begin_consumed, Adds, step_adds}
use Rattle.theory.proofs.Reading.Every.{every_cons}
use Rattle.clause_theory.proofs.SpelledMarks.{is_spelled}

pub data Leads : State → List Mark → State → Type 0 where
  leads_none : {s : State} → Leads s [] s
  leads_on : {s next last : State} {m : Mark} {ms : List Mark} → step s m ≡ goes next → Leads next ms last → Leads s (m ∷ ms) last

-- one mark more
pub leads_more : {s last next : State} {ms : List Mark} (m : Mark) → Leads s ms last → step last m ≡ goes next → Leads s (ms ++ (m ∷ [])) next
leads_more m leads_none e = leads_on e leads_none
leads_more m (leads_on f leads) e = leads_on f (leads_more m leads e)

pub leads_runs : {s last : State} {ms rest : List Mark} {c : Clause} → Leads s ms last → Runs last rest c → Runs s (ms ++ rest) c
leads_runs leads_none runs = runs
leads_runs (leads_on e leads) runs = runs_on e (leads_runs leads runs)

-- ---- the marks that lead from the beginning

leads_consumed : {s last : State} {ms : List Mark} → Leads s ms last → consumed last ≡ consumed s ++ ms
leads_consumed (leads_none {s = s}) = sym (append-nil (consumed s))
leads_consumed (leads_on {s = s} {m = m} {ms = ms} e leads) =
    leads_consumed leads ∙ ap (λ (passed : List Mark). passed ++ ms) (subst (Adds (consumed s) m) e (step_adds s m)) ∙ append_assoc (consumed s) (m ∷ []) ms

-- there are none exactly where no mark of a clause has been read
pub none_read : {ms : List Mark} {last : State} → Leads begin ms last → is_begin last ≡ true → ms ≡ []
unfolding begin is_begin is_some is_empty is_due
none_read {ms} {last} leads e = ap (λ (passed : List Mark). passed ++ ms) (sym (begin_consumed begin refl)) ∙ sym (leads_consumed leads) ∙ begin_consumed last e

pub some_read : {ms : List Mark} {last : State} → Leads begin ms last → ms ≡ [] → is_begin last ≡ true
unfolding begin is_begin is_some is_empty is_due
some_read leads none = ap is_begin (at leads none)
  where
    at : {s last : State} {ms : List Mark} → Leads s ms last → ms ≡ [] → last ≡ s
    at leads_none none = refl
    at (leads_on e leads) none = absurd (nil≢cons (sym none))

-- ---- every state comes to an end, by marks that a text can have

pub record Completed (s : State) : Type 0 where
  pub rest : List Mark
  pub spelled : every is_spelled rest ≡ true
  pub clause : Clause
  pub runs : Runs s rest clause

completed_on : {s next : State} (m : Mark) → is_spelled m ≡ true → step s m ≡ goes next → Completed next → Completed s
completed_on m spelled e later = record { rest = m ∷ later.rest; spelled = every_cons is_spelled m later.rest spelled later.spelled; clause = later.clause; runs = runs_on e later.runs }

completed_read : (before : Option Clause) (opened : List Open) (t : Term) → Completed (state before opened (read t))
unfolding step step_after step_read step_atom step_argument is_spelled every
completed_read before [] t = record { rest = stop ∷ []; spelled = refl; clause = _; runs = runs_end refl }
completed_read before (o ∷ opened) t = completed_on closes refl refl (completed_read before opened (symbol o.name (ending_term t o.before)))

pub completed : (s : State) → Completed s
unfolding step step_after step_due bytes is_spelled is_run every
completed s = at s.before s.opened s.last
  where
    at : (before : Option Clause) (opened : List Open) (last : Last) → Completed (state before opened last)
    at before opened due = completed_on (name (bytes "a")) refl refl (completed_read before opened (symbol (bytes "a") nil))
    at before opened (read t) = completed_read before opened t

-- ---- and goes one way

-- what a step is said to be is what it is
GoesTo : State → Step → Type 0
GoesTo s refuses = ⊥
GoesTo s (goes next) = s ≡ next
GoesTo s (ends c) = ⊥

EndsAt : Clause → Step → Type 0
EndsAt c refuses = ⊥
EndsAt c (goes next) = ⊥
EndsAt c (ends d) = c ≡ d

module _ (s : State) {m n : Mark} (same : m ≡ n) where
  went : {next : State} {st : Step} → step s m ≡ goes next → step s n ≡ st → GoesTo next st
  unfolding GoesTo
  went {next} e f = subst (GoesTo next) (sym e ∙ ap (step s) same ∙ f) refl

  ended : {c : Clause} {st : Step} → step s m ≡ ends c → step s n ≡ st → EndsAt c st
  unfolding EndsAt
  ended {c} e f = subst (EndsAt c) (sym e ∙ ap (step s) same ∙ f) refl

-- two runs from one state through the same marks
pub runs_first : {s : State} {ms ks : List Mark} {c d : Clause} → Runs s ms c → Runs s ks d → (rest more : List Mark) → ms ++ rest ≡ ks ++ more → (c ≡ d) × (rest ≡ more)
unfolding GoesTo EndsAt
runs_first (runs_end {s = s} e) (runs_end f) rest more same = (ended s (head-eq_of_cons-eq same) e f, tail-eq_of_cons-eq same)
runs_first (runs_end {s = s} e) (runs_on f other) rest more same = absurd (ended s (head-eq_of_cons-eq same) e f)
runs_first (runs_on {s = s} e runs) (runs_end f) rest more same = absurd (went s (head-eq_of_cons-eq same) e f)
runs_first (runs_on {s = s} e runs) (runs_on {ms = ks} {c = d} f other) rest more same =
    runs_first runs (subst (λ (next : State). Runs next ks d) (sym (went s (head-eq_of_cons-eq same) e f)) other) rest more (tail-eq_of_cons-eq same)

-- what is left of a run, where marks lead to a state on its way
pub record Left (last : State) (rest more : List Mark) (c : Clause) : Type 0 where
  pub marks : List Mark
  pub runs : Runs last marks c
  pub is : rest ≡ marks ++ more

pub run_left : {s last : State} {ms ks : List Mark} {c : Clause} → Leads s ms last → Runs s ks c → (rest more : List Mark) → ms ++ rest ≡ ks ++ more → Left last rest more c
unfolding GoesTo
run_left {ks = ks} leads_none runs rest more same = record { marks = ks; runs = runs; is = same }
run_left (leads_on {s = s} e leads) (runs_end f) rest more same = absurd (went s (head-eq_of_cons-eq same) e f)
run_left (leads_on {s = s} e leads) (runs_on {ms = ks} {c = c} f runs) rest more same =
    run_left leads (subst (λ (next : State). Runs next ks c) (sym (went s (head-eq_of_cons-eq same) e f)) runs) rest more (tail-eq_of_cons-eq same)

-- a run goes through some mark, and none is refused
pub left_some : {last : State} {more : List Mark} {c : Clause} → Left last [] more c → ⊥
left_some {more = more} l = at l.runs l.is
  where
    at : {last : State} {ms : List Mark} {c : Clause} → Runs last ms c → [] ≡ ms ++ more → ⊥
    at (runs_end e) none = nil≢cons none
    at (runs_on e runs) none = nil≢cons none

pub left_unrefused : {last : State} {m : Mark} {rest more : List Mark} {c : Clause} → Left last (m ∷ rest) more c → step last m ≡ refuses → ⊥
unfolding GoesTo EndsAt
left_unrefused {m = m} {rest} {more} l refused = at l.runs l.is refused
  where
    at : {last : State} {ms : List Mark} {c : Clause} → Runs last ms c → m ∷ rest ≡ ms ++ more → step last m ≡ refuses → ⊥
    at (runs_end {s = s} e) same refused = ended s (sym (head-eq_of_cons-eq same)) e refused
    at (runs_on {s = s} e runs) same refused = went s (sym (head-eq_of_cons-eq same)) e refused

-- ---- clauses, and the beginning of one more

-- two ways to read the same marks: as clauses, marks that lead to a state, and a rest; and as clauses and more marks
pub data Ways (earlier : List Clause) (begun rest : List Mark) (last : State) (clauses : List Clause) (more : List Mark) : Type 0 where
  fewer : (later : List Clause) → earlier ≡ clauses ++ later → (flat_map clause_marks later ++ begun) ++ rest ≡ more → Ways earlier begun rest last clauses more
  further : (c : Clause) (later : List Clause) → clauses ≡ earlier ++ c ∷ later → Left last rest (flat_map clause_marks later ++ more) c → Ways earlier begun rest last clauses more

module _ {begun : List Mark} {last : State} (leads : Leads begin begun last) (rest more : List Mark) where
  pub ways : (earlier clauses : List Clause) → (flat_map clause_marks earlier ++ begun) ++ rest ≡ flat_map clause_marks clauses ++ more → Ways earlier begun rest last clauses more
  unfolding flat_map
  ways earlier [] same = fewer earlier refl same
  ways [] (c ∷ clauses) same = further c clauses refl (run_left leads (runs_complete c) rest (flat_map clause_marks clauses ++ more) (same ∙ append_assoc (clause_marks c) (flat_map clause_marks clauses) more))
  ways (e ∷ earlier) (c ∷ clauses) same =
      let front = append_assoc (clause_marks e) (flat_map clause_marks earlier ++ begun) rest in
      let both = runs_first (runs_complete e) (runs_complete c) ((flat_map clause_marks earlier ++ begun) ++ rest) (flat_map clause_marks clauses ++ more)
      (sym (ap (λ (ms : List Mark). ms ++ rest) (append_assoc (clause_marks e) (flat_map clause_marks earlier) begun) ∙ front) ∙ same ∙ append_assoc (clause_marks c) (flat_map clause_marks clauses) more) in
      one_more_lem both.0 (ways earlier clauses both.1)
    where
      one_more_lem : e ≡ c → Ways earlier begun rest last clauses more → Ways (e ∷ earlier) begun rest last (c ∷ clauses) more
      one_more_lem here (fewer later is left) = fewer later (λ i. here i ∷ is i) left
      one_more_lem here (further d later is left) = further d later (λ i. sym here i ∷ is i) left
