-- `opening::is_complete` meets its contract. Assumes nothing.
use borrow.Author.Rules.{rules}
use Rattle.opening.proofs.Standing.{completes_none, completes_some}
use Rattle.opening.proofs.is_complete.Goals as goal

pub returns-then-state-eq0 : goal.returns-then-state-eq0
returns-then-state-eq0 c = rw c.if-state-eq0.true (search (rules, completes_none))

pub returns-else-state-eq0 : goal.returns-else-state-eq0
returns-else-state-eq0 c = search (rules, completes_some)
