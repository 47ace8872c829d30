-- `numbers::runs::zeros_of_eight` meets its contract: the lowest bit in which the bytes differ from the fields tells how many there are. Assumes nothing.
use mathlib.Core.Path.{refl}
use borrow.Author.Rules.{rules}
use Rattle.numbers.proofs.ZeroRuns.{zeros_eight}
use Rattle.numbers.proofs.runs.zeros_of_eight.Goals as goal

pub returns : goal.returns
returns c = zeros_eight c.args.eight.now c.type_inv.eight 0 (search rules) _ c.eight_bytes.ensures _ refl
