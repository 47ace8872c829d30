use Rattle.text.proofs.PlainBytes.{Passed}
use Rattle.text.proofs.plain.is_plain.Given as goal

-- `text::plain::is_plain` meets its contract: the flag and the bytes from the place on tell whether all are plain. Assumes nothing.
abbrev pub invariant-loop-b : goal.invariant-loop-b
invariant-loop-b l = Passed l.text l.odd l.b-index
