use Prim.Native.Nat.{◌+◌, ◌-◌}
use lib.ListN.{length}
use Rattle.tokens.proofs.TokenLoop.{Reading}
use Rattle.tokens.proofs.read_tokens.Given as goal

abbrev pub invariant-loop-from : goal.invariant-loop-from
invariant-loop-from l = Reading l.field l.room.arities l.room.places l.wanted l.symbols l.variables l.from

abbrev pub decreases-loop-from : goal.decreases-loop-from
decreases-loop-from l = length l.field + 1 - l.from
