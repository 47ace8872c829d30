-- `terms::form_of_term` meets its contract. Assumes nothing.
use borrow.Author.Rules.{rules}
use Rattle.terms.proofs.FormRows.{form_taken}
use Rattle.terms.proofs.form_of_term.Goals as goal

pub returns : goal.returns
returns c = search (rules, form_taken)
