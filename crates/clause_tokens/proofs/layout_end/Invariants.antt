use Rattle.clause_tokens.proofs.TokenLaws.{Passed}
use Rattle.clause_tokens.proofs.layout_end.Given as goal

abbrev pub invariant-loop-at : goal.invariant-loop-at
invariant-loop-at l = Passed l.text l.from l.at
