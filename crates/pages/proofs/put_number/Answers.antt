-- `pages::put_number` meets its contract. Assumes nothing.
use Rattle.pages.proofs.Places.{number_put}
use borrow.Author.Rules.{rules}
use Rattle.pages.proofs.put_number.Goals as goal

pub returns : goal.returns
returns c = search (rules, number_put)
