-- `queries::named_by` meets its contract. Assumes nothing.
use borrow.Author.Rules.{rules}
use Rattle.queries.proofs.NamedField.{means_name, means_variable, means_neither}
use Rattle.queries.proofs.named_by.Goals as goal

pub returns-in-Name : goal.returns-in-Name
returns-in-Name c = search (rules, means_name)

pub returns-in-Variable : goal.returns-in-Variable
returns-in-Variable c = search (rules, means_variable)

pub returns-in-Neither : goal.returns-in-Neither
returns-in-Neither c = search (rules, means_neither)
