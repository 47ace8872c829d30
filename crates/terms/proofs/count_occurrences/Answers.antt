-- `terms::count_occurrences` meets its contract: the variables at the places passed are counted. Assumes nothing.
use Rattle.terms.proofs.PlaceLoop.{counting_none, counting_more, counting_all}
use borrow.Author.Rules.{rules}
use Rattle.terms.proofs.count_occurrences.Goals as goal

pub loop-place-init : goal.loop-place-init
loop-place-init c = search (rules, counting_none)

pub loop-place-preserved : goal.loop-place-preserved
loop-place-preserved c = search (rules, counting_more)

pub returns : goal.returns
returns c = search (rules, counting_all)
