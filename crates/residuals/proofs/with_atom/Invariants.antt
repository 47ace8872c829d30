use Rattle.residuals.specs.Sums.{width}
use Rattle.residuals.proofs.Sums.{RowsAdded}
use Rattle.residuals.proofs.with_atom.Given as goal

abbrev pub invariant-loop-k : goal.invariant-loop-k
invariant-loop-k l = RowsAdded l.weights l.rows (width l.variables) l.atom l.form l.k
