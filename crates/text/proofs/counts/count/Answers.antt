-- `text::counts::count` meets its contract: no block is left, and one part more than were counted.
use native.Mathlib.Omega.{arith}
use lib.Dec.{eqb}
use Rattle.std.proofs.lemmas.List.Sums.{count_by-le-length}
use Rattle.text.proofs.Counting.{parts_counted}
use Rattle.text.proofs.counts.count.Goals as goal

pub returns : goal.returns
returns c = omega (arith, c.loop-block.invariant.1, parts_counted c.args.wanted c.args.bytes.now, c.in-None.ensures.steps, count_by-le-length (λ b. eqb b c.args.wanted) c.loop-block.block-iterator.rest.now)
