-- `residuals::form_at` meets its contract. The loop's invariant: the coefficients passed are the row's.
use mathlib.Core.Path.{◌∙◌}
use native.Mathlib.Omega.{arith}
use borrow.Author.Rules.{rules}
use lib.IntN.{pos}
use lib.ListN.{get_or-replicate}
use Rattle.groundwork.proofs.Stretches.{stored_front}
use Rattle.residuals.proofs.Rows.{form_read}
use Rattle.residuals.proofs.form_at.Goals as goal

pub returns : goal.returns
returns c =
    let turn = c.loop-i in
    let counts = stored_front turn.invariant in
    form_read (search rules) (λ i less. counts i (omega arith)) (λ i high low. turn.invariant.above i (omega arith) ∙ get_or-replicate 16 i (pos 0) (pos 0) low)
