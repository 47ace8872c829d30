-- `token_lines::put_token` meets its contract. Assumes nothing.
use Rattle.token_lines.proofs.ByMark.{given_name, given_variable, given_lone, given_opens, given_closes, given_comma, drawable_as, draws_as, draws_other, ends_shut, end_comes, draws_ends}
use Rattle.token_lines.proofs.Punctuation.{closes_deep, closes_put}
use borrow.Author.Rules.{rules}
use Rattle.token_lines.proofs.put_token.Goals as goal

pub put_name-requires : goal.put_name-requires
put_name-requires c = search (rules, drawable_as, given_name)

pub put_variable-requires : goal.put_variable-requires
put_variable-requires c = search (rules, drawable_as, given_variable)

pub put_lone-requires : goal.put_lone-requires
put_lone-requires c = search (rules, drawable_as, given_lone)

pub put_opening-requires : goal.put_opening-requires
put_opening-requires c = search (rules, drawable_as, given_opens)

pub pop-requires : goal.pop-requires
pop-requires c = closes_deep (drawable_as given_closes c.in-Closes.is c.requires)

pub put_comma-requires : goal.put_comma-requires
put_comma-requires c = search (rules, drawable_as, given_comma)

pub end_line-requires : goal.end_line-requires
end_line-requires c = (search (rules, ends_shut), search (rules, end_comes))

pub returns-in-Name : goal.returns-in-Name
returns-in-Name c = search (rules, draws_as, given_name)

pub returns-in-Variable : goal.returns-in-Variable
returns-in-Variable c = search (rules, draws_as, given_variable)

pub returns-in-Lone : goal.returns-in-Lone
returns-in-Lone c = search (rules, draws_as, given_lone)

pub returns-in-Opens : goal.returns-in-Opens
returns-in-Opens c = search (rules, draws_as, given_opens)

pub returns-in-Closes : goal.returns-in-Closes
returns-in-Closes c = draws_as given_closes c.in-Closes.is (closes_put c.pop.ensures)

pub returns-in-Comma : goal.returns-in-Comma
returns-in-Comma c = search (rules, draws_as, given_comma)

pub returns-in-Neck : goal.returns-in-Neck
returns-in-Neck c = search (rules, draws_ends)

pub returns-in-Stray : goal.returns-in-Stray
returns-in-Stray c = search (rules, draws_other)
