-- `clauses::advance` meets its contract. Assumes nothing.
use Rattle.clauses.proofs.Advancing.{name_not, name_read, variable_not, variable_read, opens_not, opens_read, closes_not, closes_deep, closes_read, comma_not, comma_read, neck_not, neck_read, stop_not, stop_read, stray_not}
use borrow.Author.Rules.{rules}
use Rattle.clauses.proofs.advance.Goals as goal

pub returns-then-not-due : goal.returns-then-not-due
returns-then-not-due c = search (rules, name_not)

pub returns-else-not-due : goal.returns-else-not-due
returns-else-not-due c = search (rules, name_read)

pub returns-then-due-depth : goal.returns-then-due-depth
returns-then-due-depth c = search (rules, variable_not)

pub returns-else-due-depth : goal.returns-else-due-depth
returns-else-due-depth c = search (rules, variable_read)

pub returns-then-not-named : goal.returns-then-not-named
returns-then-not-named c = search (rules, opens_not)

pub returns-else-not-named : goal.returns-else-not-named
returns-else-not-named c = search (rules, opens_read)

pub returns-then-due-depth-2 : goal.returns-then-due-depth-2
returns-then-due-depth-2 c = search (rules, closes_not)

pub overflow_sub-result : goal.overflow_sub-result
overflow_sub-result c = search (rules, closes_deep)

pub returns-else-due-depth-2 : goal.returns-else-due-depth-2
returns-else-due-depth-2 c = search (rules, closes_read)

pub returns-then-due-depth-3 : goal.returns-then-due-depth-3
returns-then-due-depth-3 c = search (rules, comma_not)

pub returns-else-due-depth-3 : goal.returns-else-due-depth-3
returns-else-due-depth-3 c = search (rules, comma_read)

pub returns-then-due-depth-4 : goal.returns-then-due-depth-4
returns-then-due-depth-4 c = search (rules, neck_not)

pub returns-else-due-depth-4 : goal.returns-else-due-depth-4
returns-else-due-depth-4 c = search (rules, neck_read)

pub returns-then-due-depth-5 : goal.returns-then-due-depth-5
returns-then-due-depth-5 c = search (rules, stop_not)

pub returns-else-due-depth-5 : goal.returns-else-due-depth-5
returns-else-due-depth-5 c = search (rules, stop_read)

pub returns-in-Stray : goal.returns-in-Stray
returns-in-Stray c = search (rules, stray_not)
