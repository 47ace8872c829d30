use Prim.Native.Nat.{◌+◌}
use lib.IntN.{pos}
use Rattle.groundwork.proofs.Stretches.{Stored}
use Rattle.residuals.proofs.Rows.{cells_from}
use Rattle.residuals.proofs.form_at.Given as goal

abbrev pub invariant-loop-i : goal.invariant-loop-i
invariant-loop-i l = Stored (pos 0) (cells_from l.rows (l.base + 1)) 0 l.initial.coefficients l.coefficients l.i
