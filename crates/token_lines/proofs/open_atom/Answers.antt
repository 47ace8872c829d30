-- `token_lines::open_atom` meets its contract. Assumes nothing.
use Rattle.term_lines.proofs.Drawing.{drawn_in_line}
use Rattle.token_lines.proofs.Punctuation.{opens_depth, opens_refused, opens_accepted}
use borrow.Author.Rules.{rules}
use Rattle.token_lines.proofs.open_atom.Goals as goal

pub put_separator-requires : goal.put_separator-requires
put_separator-requires c = search (rules, drawn_in_line)

pub push-requires : goal.push-requires
push-requires c = search (rules, opens_depth, c.in_ok-put_separator.was)

pub returns-in_err-put_separator : goal.returns-in_err-put_separator
returns-in_err-put_separator c = search (rules, opens_refused, c.in_err-put_separator.was)

pub returns : goal.returns
returns c = search (rules, opens_accepted, c.in_ok-put_separator.was)
