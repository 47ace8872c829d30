use Rattle.queries.proofs.SizeLoop.{SizesSoFar}
use Rattle.queries.proofs.read_sizes.Given as goal

abbrev pub invariant-loop-i : goal.invariant-loop-i
invariant-loop-i l = SizesSoFar l.query l.from l.at l.i l.sizes
