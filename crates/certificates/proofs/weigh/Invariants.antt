use Prim.Native.Nat.{◌*◌}
use lib.IntN.{pos}
use Rattle.groundwork.proofs.Stretches.{Stored}
use Rattle.certificates.proofs.Weighing.{weighed}
use Rattle.certificates.proofs.weigh.Given as goal

abbrev pub invariant-loop-i : goal.invariant-loop-i
invariant-loop-i l = Stored (pos 0) (weighed (l.m) l.claims l.place l.atom l.initial.weights) (l.atom * 9) l.initial.weights l.weights l.i
