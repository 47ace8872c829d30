use Rattle.terms.proofs.AritySums.{Summing}
use Rattle.terms.proofs.sum_of_arities.Given as goal

abbrev pub invariant-loop-arity : goal.invariant-loop-arity
invariant-loop-arity l = Summing l.arities l.sum l.arity-index
