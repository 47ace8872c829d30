use Rattle.terms.specs.Rows.{Cleared}
use Rattle.terms.proofs.clear_row.Given as goal

abbrev pub invariant-loop-i : goal.invariant-loop-i
invariant-loop-i l = Cleared l.initial.rows l.base l.rows l.i
