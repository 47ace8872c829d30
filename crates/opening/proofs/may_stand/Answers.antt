-- `opening::may_stand` meets its contract. Assumes nothing.
use borrow.Author.Rules.{rules}
use Rattle.opening.proofs.Standing.{stands_never, standing}
use Rattle.opening.proofs.may_stand.Goals as goal

pub returns-then-state : goal.returns-then-state
returns-then-state c = search (rules, stands_never)

pub returns-in-P : goal.returns-in-P
returns-in-P c = search (rules, standing)

pub returns-in-C : goal.returns-in-C
returns-in-C c = search (rules, standing)

pub returns-in-G : goal.returns-in-G
returns-in-G c = search (rules, standing)

pub returns-in-H : goal.returns-in-H
returns-in-H c = search (rules, standing)

pub returns-then-state-ne0 : goal.returns-then-state-ne0
returns-then-state-ne0 c = search (rules, standing)

pub returns-else-state-ne0 : goal.returns-else-state-ne0
returns-else-state-ne0 c = rw c.if-state-ne0.false (search (rules, standing))

pub returns-in-M : goal.returns-in-M
returns-in-M c = search (rules, standing)

pub returns-in-E : goal.returns-in-E
returns-in-E c = search (rules, standing)

pub returns-in-NoLetter : goal.returns-in-NoLetter
returns-in-NoLetter c = search (rules, standing)
