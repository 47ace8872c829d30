-- `tables::with_predicate` meets its contract. Assumes nothing.
use borrow.Author.Rules.{rules}
use Rattle.tables.proofs.PredicateSets.{one_more_lem}
use Rattle.tables.proofs.with_predicate.Goals as goal

pub returns : goal.returns
returns c = search (rules, one_more_lem)
