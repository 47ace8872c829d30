-- `text::plain::is_plain` meets its contract: the flag and the bytes from the place on tell whether all are plain. Assumes nothing.
use borrow.Author.Rules.{rules}
use Rattle.text.proofs.PlainBytes.{passed_more, passed_all}
use Rattle.text.proofs.plain.is_plain.Goals as goal

pub loop-b-preserved : goal.loop-b-preserved
loop-b-preserved c = search (rules, passed_more)

pub returns : goal.returns
returns c = search (rules, passed_all)
