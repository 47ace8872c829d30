-- `opening::read_arity` meets its contract. Assumes nothing.
use borrow.Author.Rules.{rules}
use Rattle.opening.proofs.LineArities.{no_field, arity_there}
use Rattle.opening.proofs.read_arity.Goals as goal

pub returns-then-line-from : goal.returns-then-line-from
returns-then-line-from c = search (rules, no_field)

pub returns-in_err-arity : goal.returns-in_err-arity
returns-in_err-arity c = rw c.from_residual.ensures (search (rules, arity_there))

pub returns : goal.returns
returns c = search (rules, arity_there)
