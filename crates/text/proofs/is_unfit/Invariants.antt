use Rattle.text.proofs.Fitness.{Scanned}
use Rattle.text.proofs.is_unfit.Given as goal

-- `text::is_unfit` meets its contract: the flag and the bytes from the place on tell whether a byte is outside 32 to 126. Assumes nothing.
abbrev pub invariant-loop-b : goal.invariant-loop-b
invariant-loop-b l = Scanned l.line l.unfit l.b-index
