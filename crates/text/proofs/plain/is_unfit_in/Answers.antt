-- `text::plain::is_unfit_in` meets its contract. Assumes nothing.
use borrow.Author.Rules.{rules}
use Rattle.text.proofs.Fitness.{unfit_long, unfit_fine}
use Rattle.text.proofs.plain.is_unfit_in.Goals as goal

-- `text::plain::is_unfit_in` meets its contract. Assumes nothing.
pub returns-then-line-gt1024 : goal.returns-then-line-gt1024
returns-then-line-gt1024 c = search (rules, unfit_long)

pub returns-then-plain : goal.returns-then-plain
returns-then-plain c = search (rules, unfit_fine, c.requires)
