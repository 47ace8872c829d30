use Rattle.bounds.proofs.Weighing.{Weighing}
use Rattle.bounds.proofs.weigh.Given as goal

abbrev pub invariant-loop-k : goal.invariant-loop-k
invariant-loop-k l = Weighing l.claims l.place l.query l.k l.numerator
