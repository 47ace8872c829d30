-- `terms::sum_of_arities` meets its contract: the arities passed are summed. Assumes nothing.
use Rattle.terms.proofs.AritySums.{summing_none, summing_more, summing_all}
use borrow.Author.Rules.{rules}
use Rattle.terms.proofs.sum_of_arities.Goals as goal

pub loop-arity-init : goal.loop-arity-init
loop-arity-init c = search (rules, summing_none)

pub loop-arity-preserved : goal.loop-arity-preserved
loop-arity-preserved c = search (rules, summing_more)

pub returns : goal.returns
returns c = search (rules, summing_all)
