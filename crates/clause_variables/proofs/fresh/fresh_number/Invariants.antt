use Prim.Native.Nat.{◌+◌, ◌-◌}
use Rattle.clause_variables.proofs.FreshSearch.{Trying}
use Rattle.clause_variables.proofs.fresh.fresh_number.Given as goal

abbrev pub invariant-loop-number : goal.invariant-loop-number
invariant-loop-number l = Trying l.names l.named l.from l.number

abbrev pub decreases-loop-number : goal.decreases-loop-number
decreases-loop-number l = l.from + l.named - l.number
