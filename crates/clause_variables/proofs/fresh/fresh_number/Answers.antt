-- `clause_variables::fresh_number` meets its contract. Assumes nothing.
use Rattle.clause_variables.proofs.FreshSearch.{trying_none, tabled_few, trying_small, trying_more, trying_less, trying_done}
use borrow.Author.Rules.{rules}
use Rattle.clause_variables.proofs.fresh.fresh_number.Goals as goal

pub loop-number-init : goal.loop-number-init
loop-number-init c = search (rules, trying_none)

pub numbered-requires : goal.numbered-requires
numbered-requires c = search (rules, trying_small)

pub place-requires : goal.place-requires
place-requires c = search (rules, tabled_few)

pub overflow_add-number : goal.overflow_add-number
overflow_add-number c = search (rules, trying_small)

pub loop-number-smaller : goal.loop-number-smaller
loop-number-smaller c = search (rules, trying_less)

pub loop-number-preserved : goal.loop-number-preserved
loop-number-preserved c = search (rules, trying_more)

pub returns : goal.returns
returns c = search (rules, trying_done)
