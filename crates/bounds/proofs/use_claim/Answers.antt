-- `bounds::use_claim` meets its contract. Assumes nothing.
use mathlib.Core.Path.{◌∙◌, ap}
use Prim.Native.Nat.{◌+◌}
use native.Mathlib.Omega.{arith}
use lib.IntN.{pos, nat_abs, ◌-ℤ◌}
use lib.ListN.{get_or}
use mir.Syntax.{w64}
use mir.Val.{to_z, of_z}
use Rattle.bounds.proofs.Numbers.{read_claim, kept_64, opposite_size}
use Rattle.bounds.proofs.Using.{use_unasked, use_blocked, use_impossible, use_bound}
use Rattle.bounds.proofs.use_claim.Goals as goal

-- read: the claim's number for the asked argument
pub returns-then-number-ge0 : goal.returns-then-number-ge0
returns-then-number-ge0 c =
    let read = read_claim c.requires.1 (c.args.place + 1 + c.args.query.now.asked) in
    use_unasked (rw read at c.if-number-ge0.true)

pub returns-in_err-numerator : goal.returns-in_err-numerator
returns-in_err-numerator c = rw c.from_residual.ensures (use_blocked c.in_err-numerator.ensures)

pub returns-then-numerator-lt0 : goal.returns-then-numerator-lt0
returns-then-numerator-lt0 c =
    let read = read_claim c.requires.1 (c.args.place + 1 + c.args.query.now.asked) in
    let kept = kept_64 c.in_ok-numerator.numerator (omega (arith, c.weigh.ensures.small _ c.in_ok-numerator.was)) in
    use_impossible (rw read at c.if-number-ge0.false) c.in_ok-numerator.ensures (rw kept at c.if-numerator-lt0.true)

pub returns : goal.returns
returns c =
    let number = c.args.place + 1 + c.args.query.now.asked in
    let read = read_claim c.requires.1 number in
    let kept = kept_64 c.in_ok-numerator.numerator (omega (arith, c.weigh.ensures.small _ c.in_ok-numerator.was)) in
    use_bound (rw read at c.if-number-ge0.false) c.in_ok-numerator.ensures (rw kept at c.if-numerator-lt0.false)
    (ap nat_abs kept)
    (ap (λ z. nat_abs (to_z w64 (of_z w64 (pos 0 -ℤ z)))) read ∙ opposite_size (get_or c.args.claims.now number (pos 0)) (c.requires.1.small number))
