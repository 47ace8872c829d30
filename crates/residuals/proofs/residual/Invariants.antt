use Rattle.residuals.specs.Sums.{width, Partial}
use Rattle.residuals.proofs.residual.Given as goal

abbrev pub invariant-loop-atom : goal.invariant-loop-atom
invariant-loop-atom l = Partial l.weights l.rows (width l.variables) l.atom l.form
