use lib.IntN.{pos}
use Rattle.groundwork.proofs.Stretches.{Stored}
use Rattle.declarations.proofs.Laying.{laid_at}
use Rattle.declarations.proofs.lay.Given as goal

abbrev pub invariant-loop-i : goal.invariant-loop-i
invariant-loop-i l = Stored (pos 0) (laid_at l.row l.arity) l.at l.initial.claims l.claims l.i
