-- `token_lines::end_line` meets its contract. Assumes nothing.
use Rattle.token_lines.proofs.Punctuation.{ended_no_room, ended_put}
use borrow.Author.Rules.{rules}
use Rattle.token_lines.proofs.end_line.Goals as goal

pub returns-then-page-pen : goal.returns-then-page-pen
returns-then-page-pen c = search (rules, ended_no_room)

pub returns : goal.returns
returns c = search (rules, ended_put)
