-- `Variables::count_lone` meets its contract. Assumes nothing.
use Rattle.clause_variables.proofs.Gathering.{lone_full, lone_counted}
use borrow.Author.Rules.{rules}
use Rattle.clause_variables.proofs.Variables.count_lone.Goals as goal

pub returns-then-self-ge16 : goal.returns-then-self-ge16
returns-then-self-ge16 c = search (rules, lone_full)

pub returns : goal.returns
returns c = search (rules, lone_counted)
