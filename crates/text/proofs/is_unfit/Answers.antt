-- `text::is_unfit` meets its contract: the flag and the bytes from the place on tell whether a byte is outside 32 to 126. Assumes nothing.
use borrow.Author.Rules.{rules}
use Rattle.text.proofs.Fitness.{unfit_long, scanned_more, scanned_all}
use Rattle.text.proofs.is_unfit.Goals as goal

pub returns-then-line-gt1024 : goal.returns-then-line-gt1024
returns-then-line-gt1024 c = search (rules, unfit_long)

pub loop-b-preserved : goal.loop-b-preserved
loop-b-preserved c = search (rules, scanned_more)

pub returns : goal.returns
returns c = search (rules, scanned_all)
