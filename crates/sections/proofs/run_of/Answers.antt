-- `sections::run_of` meets its contract. Assumes nothing.
use borrow.Author.Rules.{rules}
use Rattle.sections.proofs.Walks.{walked_none, walked_other, walked_more, walked_all}
use Rattle.sections.proofs.run_of.Goals as goal

pub loop-at-init : goal.loop-at-init
loop-at-init c = search (rules, walked_none)

pub returns-else-text-at : goal.returns-else-text-at
returns-else-text-at c = search (rules, walked_other)

pub loop-at-preserved : goal.loop-at-preserved
loop-at-preserved c = search (rules, walked_more)

pub returns-after-loop-at : goal.returns-after-loop-at
returns-after-loop-at c = search (rules, walked_all)
