use lib.IntN.{pos}
use Rattle.groundwork.proofs.Stretches.{Stored, from}
use Rattle.certificates.proofs.weigh_head.Given as goal

abbrev pub invariant-loop-i : goal.invariant-loop-i
invariant-loop-i l = Stored (pos 0) (from l.claims l.place) 0 l.initial.weights l.weights l.i
