-- `token_lines::open_symbol` meets its contract. Assumes nothing.
use Rattle.term_lines.proofs.Drawing.{drawn_in_line}
use Rattle.token_lines.proofs.Punctuation.{too_deep, digit_written, digit_in_page, depth_left, symbol_opens_refused, symbol_opens_accepted}
use borrow.Author.Rules.{rules}
use Rattle.token_lines.proofs.open_symbol.Goals as goal

pub returns-then-pen-gt255 : goal.returns-then-pen-gt255
returns-then-pen-gt255 c = search (rules, too_deep)

pub overflow_sub-digit : goal.overflow_sub-digit
overflow_sub-digit c = search (rules, digit_written)

pub put_separator-requires : goal.put_separator-requires
put_separator-requires c = search (rules, drawn_in_line)

pub returns-in_err-put_separator : goal.returns-in_err-put_separator
returns-in_err-put_separator c = search (rules, symbol_opens_refused, c.in_err-put_separator.was)

pub bounds-page-digit : goal.bounds-page-digit
bounds-page-digit c = search (rules, digit_in_page, c.in_ok-put_separator.was)

pub push-requires : goal.push-requires
push-requires c = search (rules, depth_left, c.in_ok-put_separator.was)

pub returns : goal.returns
returns c = search (rules, symbol_opens_accepted, c.in_ok-put_separator.was)
