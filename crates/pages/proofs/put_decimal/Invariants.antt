use Rattle.pages.proofs.Writing.{Turns}
use Rattle.pages.proofs.put_decimal.Given as goal

abbrev pub invariant-loop-at : goal.invariant-loop-at
invariant-loop-at l = Turns l.n l.initial.page l.page l.many l.left l.at
