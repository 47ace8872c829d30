-- `tokens::read_argument` meets its contract. Assumes nothing.
use borrow.Author.Rules.{rules}
use Rattle.tokens.proofs.LoneVariables.{empty_read}
use Rattle.tokens.proofs.read_argument.Goals as goal

pub returns-in_default : goal.returns-in_default
returns-in_default c = search (rules, empty_read)
