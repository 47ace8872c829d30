-- `clause_lines::number_after` meets its contract. Assumes nothing.
use Rattle.clause_lines.proofs.FreshNumbers.{number_lone, number_same}
use borrow.Author.Rules.{rules}
use Rattle.clause_lines.proofs.number_after.Goals as goal

pub returns-then-eq : goal.returns-then-eq
returns-then-eq c = search (rules, number_lone)

pub returns-else-eq : goal.returns-else-eq
returns-else-eq c = search (rules, number_same)
