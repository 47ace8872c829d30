use Rattle.packs.proofs.AreaLaying.{Laying}
use Rattle.packs.proofs.lay.Given as goal

abbrev pub invariant-loop-i : goal.invariant-loop-i
invariant-loop-i l = Laying l.initial.area l.form.coefficients l.area l.i
