-- `queries::read_asked` meets its contract. Assumes nothing.
use borrow.Author.Rules.{rules}
use Rattle.queries.proofs.AskedField.{unasked_none, unasked_zero}
use Rattle.queries.proofs.read_asked.Goals as goal

pub returns-in_err-number : goal.returns-in_err-number
returns-in_err-number c = rw c.from_residual.ensures (unasked_none _ _ c.in_err-number.ensures)

pub returns-then-number-eq0 : goal.returns-then-number-eq0
returns-then-number-eq0 c = search (rules, unasked_zero)
