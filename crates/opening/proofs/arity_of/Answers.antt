-- `opening::arity_of` meets its contract. Assumes nothing.
use borrow.Author.Rules.{rules}
use Rattle.opening.proofs.LineArities.{arity_of_predicate, arity_of_claim, arity_of_atom, arity_of_none}
use Rattle.opening.proofs.arity_of.Goals as goal

pub returns-in-P : goal.returns-in-P
returns-in-P c = search (rules, arity_of_predicate)

pub returns-in-C : goal.returns-in-C
returns-in-C c = search (rules, arity_of_claim)

pub returns-in-G : goal.returns-in-G
returns-in-G c = search (rules, arity_of_atom)

pub returns-in-M : goal.returns-in-M
returns-in-M c = search (rules, arity_of_none)
