-- `tokens::read_variable` meets its contract. Assumes nothing.
use borrow.Author.Rules.{rules}
use Rattle.tokens.proofs.LoneVariables.{lone_no_term, lone_too_long, lone_read}
use Rattle.tokens.proofs.read_variable.Goals as goal

pub returns-then-end-field : goal.returns-then-end-field
returns-then-end-field c = search (rules, lone_no_term)

pub returns-then-end-gt16 : goal.returns-then-end-gt16
returns-then-end-gt16 c = search (rules, lone_too_long)

pub returns : goal.returns
returns c = search (rules, lone_read)
