use Rattle.bounds.proofs.Reserving.{Reserving}
use Rattle.bounds.proofs.reserve_by.Given as goal

abbrev pub invariant-loop-i : goal.invariant-loop-i
invariant-loop-i l = Reserving l.claims l.count l.query l.i l.best
