-- `packs::lay` meets its contract. Assumes nothing.
use native.Mathlib.Omega.{arith}
use borrow.Author.Rules.{rules}
use Rattle.packs.proofs.AreaLaying.{laying_more}
use Rattle.packs.proofs.lay.Goals as goal

pub loop-i-preserved : goal.loop-i-preserved
loop-i-preserved c = laying_more c.loop-i.invariant (omega arith) (search rules) (omega arith)
