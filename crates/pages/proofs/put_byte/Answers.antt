-- `pages::put_byte` meets its contract. Assumes nothing.
use Rattle.pages.proofs.Places.{byte_put}
use borrow.Author.Rules.{rules}
use Rattle.pages.proofs.put_byte.Goals as goal

pub returns : goal.returns
returns c = search (rules, byte_put)
