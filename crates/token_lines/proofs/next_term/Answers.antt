-- `token_lines::next_term` meets its contract. Assumes nothing.
use Rattle.term_lines.proofs.Drawing.{drawn_in_line}
use Rattle.token_lines.proofs.Punctuation.{depth_small}
use Rattle.token_lines.proofs.NextTerms.{digit_inside, digit_kept, arity_full, term_refused, term_accepted}
use borrow.Author.Rules.{rules}
use Rattle.token_lines.proofs.next_term.Goals as goal

pub last-digit-requires : goal.last-digit-requires
last-digit-requires c = (search rules, search (rules, depth_small))

pub bounds-page-digit : goal.bounds-page-digit
bounds-page-digit c = search (rules, digit_inside)

pub returns-then-arity-gt56 : goal.returns-then-arity-gt56
returns-then-arity-gt56 c = search (rules, arity_full)

pub put_separator-requires : goal.put_separator-requires
put_separator-requires c = search (rules, drawn_in_line)

pub returns-in_err-put_separator : goal.returns-in_err-put_separator
returns-in_err-put_separator c = search (rules, term_refused, c.in_err-put_separator.was)

pub bounds-page-digit-2 : goal.bounds-page-digit-2
bounds-page-digit-2 c = search (rules, digit_kept, c.in_ok-put_separator.was)

pub returns : goal.returns
returns c = search (rules, term_accepted, c.in_ok-put_separator.was)
