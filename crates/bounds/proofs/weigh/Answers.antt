-- `bounds::weigh` meets its contract. The loop's invariant: the arguments passed leave to the others what the claim's test and its numerator still lack. Assumes nothing.
use mathlib.Core.Path.{sym, ◌∙◌}
use Prim.Native.Nat.{◌+◌}
use native.Mathlib.Omega.{arith}
use mir.Facts.{to_z-of_z}
use Rattle.bounds.proofs.Numbers.{fits_64, read_claim}
use Rattle.bounds.proofs.Weighing.{weighing_none, weighing_blocked, sum_fits, weighing_more, weighing_done}
use Rattle.bounds.proofs.weigh.Goals as goal

pub loop-k-init : goal.loop-k-init
loop-k-init c = rw (read_claim c.requires.1 c.args.place) (weighing_none c.requires.1)

-- is: what the argument of a turn adds
pub returns-in_err-numerator : goal.returns-in_err-numerator
returns-in_err-numerator c =
    let is = rw (read_claim c.requires.1 (c.args.place + 1 + c.loop-k.k)) at c.share_of.ensures.is in
    rw c.from_residual.ensures (weighing_blocked c.loop-k.invariant (omega arith) (sym is ∙ c.in_err-numerator.was))

pub overflow_add-numerator : goal.overflow_add-numerator
overflow_add-numerator c =
    let is = rw (read_claim c.requires.1 (c.args.place + 1 + c.loop-k.k)) at c.share_of.ensures.is in
    let few = c.share_of.ensures.small _ c.in_ok-numerator.was in
    rw (to_z-of_z (fits_64 c.in_ok-numerator.field-0 (omega (arith, few))))
    (sum_fits c.loop-k.invariant (omega arith) (sym is ∙ c.in_ok-numerator.was) few)

pub loop-k-preserved : goal.loop-k-preserved
loop-k-preserved c =
    let is = rw (read_claim c.requires.1 (c.args.place + 1 + c.loop-k.k)) at c.share_of.ensures.is in
    let few = c.share_of.ensures.small _ c.in_ok-numerator.was in
    let fits = sum_fits c.loop-k.invariant (omega arith) (sym is ∙ c.in_ok-numerator.was) few in
    rw (to_z-of_z (fits_64 c.in_ok-numerator.field-0 (omega (arith, few))), to_z-of_z fits)
    (weighing_more c.loop-k.invariant (omega arith) (sym is ∙ c.in_ok-numerator.was) few)

pub returns : goal.returns
returns c = weighing_done c.loop-k.invariant (omega arith)
