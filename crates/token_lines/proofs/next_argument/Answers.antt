-- `token_lines::next_argument` meets its contract. Assumes nothing.
use Rattle.term_lines.proofs.Drawing.{drawn_in_line}
use Rattle.token_lines.proofs.Punctuation.{arguments_many, argument_refused, argument_accepted}
use borrow.Author.Rules.{rules}
use Rattle.token_lines.proofs.next_argument.Goals as goal

pub returns-then-pen-gt7 : goal.returns-then-pen-gt7
returns-then-pen-gt7 c = search (rules, arguments_many)

pub put_separator-requires : goal.put_separator-requires
put_separator-requires c = search (rules, drawn_in_line)

pub returns-in_err-put_separator : goal.returns-in_err-put_separator
returns-in_err-put_separator c = search (rules, argument_refused, c.in_err-put_separator.was)

pub returns : goal.returns
returns c = search (rules, argument_accepted, c.in_ok-put_separator.was)
