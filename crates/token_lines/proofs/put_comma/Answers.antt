-- `token_lines::put_comma` meets its contract. Assumes nothing.
use Rattle.token_lines.specs.LineEnds.{comma_ends}
use Rattle.clause_tokens.specs.declared.Mark.TheVariants.{Comma}
use borrow.Author.Rules.{rules}
use Rattle.token_lines.proofs.put_comma.Goals as goal

pub end_line-requires : goal.end_line-requires
end_line-requires c = (search rules, record { mark = Comma; ends = comma_ends; drawable = c.requires })

pub returns-in-0 : goal.returns-in-0
returns-in-0 c = c.end_line.ensures.by Comma comma_ends
