-- `Variables::gather` meets its contract. Assumes nothing.
use Rattle.clause_variables.proofs.Gathering.{gather_named, gather_lone, gather_other}
use borrow.Author.Rules.{rules}
use Rattle.clause_variables.proofs.Variables.gather.Goals as goal

pub returns-in-Variable : goal.returns-in-Variable
returns-in-Variable c = search (rules, gather_named)

pub returns-in-Lone : goal.returns-in-Lone
returns-in-Lone c = search (rules, gather_lone)

pub returns-in_default : goal.returns-in_default
returns-in_default c = search (rules, gather_other)
