-- Where the reader stands, beside the grammar's state: what was read last, how many compounds are open, and whether the head is
-- complete.
use Rattle.std.specs.Prelude.{◌≡◌, ℕ, ◌+◌, ◌≤◌, length}
use Rattle.theory.specs.Lists.{is_some}
use Rattle.theory.specs.Text.{Bytes}
use Rattle.theory.specs.Terms.{Term, Terms, variable, symbol, nil, cons}
use Rattle.clause_theory.specs.ClauseTokens as T
use Rattle.clause_theory.specs.Clauses.{due, read, State, refuses, goes, ends, step}
use Rattle.clause_theory.specs.Clauses as Grammar
use Rattle.clause_tokens.specs.NextTokens.{Seen}
use Rattle.clause_tokens.specs.declared.Mark.{Mark}
use Rattle.clauses.specs.declared.Last.{Last}
use Rattle.clauses.specs.declared.Last.TheVariants.{Due, Name, Term as Other}
use Rattle.clauses.specs.declared.Standing.{Standing}
use Rattle.clauses.specs.declared.Step.{Step}
use Rattle.clauses.specs.declared.Step.TheVariants.{Refuses, Goes, Ends}

pub data LastIs : Grammar.Last → Last → Type 0 where
  is_due_lem : LastIs due Due
  is_name_lem : {f : Bytes} → LastIs (read (symbol f nil)) Name
  is_variable_lem : {x : Bytes} → LastIs (read (variable x)) Other
  is_compound : {f : Bytes} {t : Term} {ts : Terms} → LastIs (read (symbol f (cons t ts))) Other

pub record Stands (s : State) (r : Standing) : Type 0 where
  pub last_is : LastIs s.last r.last
  pub depth_is : r.depth ≡ length s.opened
  pub body_is : r.body ≡ is_some s.before

pub data StepIs : Grammar.Step → Step → Type 0 where
  step_refuses : StepIs refuses Refuses
  step_goes : {s : State} {r : Standing} → Stands s r → StepIs (goes s) (Goes r)
  step_ends : {c : Grammar.Clause} → StepIs (ends c) Ends

-- no more compounds than so many are open after it
abbrev pub Deep : ℕ → Step → Type 0
Deep most Refuses = Unit {0}
Deep most (Goes next) = next.depth ≤ most
Deep most Ends = Unit {0}

-- r is where a token of this kind leads from there
pub record Advances (from : Standing) (mark : Mark) (r : Step) : Type 0 where
  pub steps : {s : State} {x : Bytes} {m : T.Mark} → Stands s from → Seen x mark m → StepIs (step s m) r
  pub deep : Deep (from.depth + 1) r
