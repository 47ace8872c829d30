-- `bounds::reserve_by` meets its contract. The loop's invariant: with the best bound so far, the claims not yet passed say what all of them say. Assumes nothing.
use native.Mathlib.Omega.{arith}
use Rattle.bounds.proofs.Reserving.{reserving_none, reserving_impossible, reserving_bound, reserving_unused, reserving_bounded, reserving_unbounded}
use Rattle.bounds.proofs.reserve_by.Goals as goal
use Rattle.bounds.proofs.reserve_by.Goals.{in-Some-AtMost, in-None}

pub loop-i-init : goal.loop-i-init
loop-i-init c = reserving_none

pub returns-in-Some-Impossible : goal.returns-in-Some-Impossible
returns-in-Some-Impossible c =
    let uses = rw (c.claim_place-place.ensures, c.in-Some-Impossible.field-0-is) at c.in-Some-Impossible.ensures in
    reserving_impossible c.loop-i.invariant (omega arith) uses

pub loop-i-preserved : goal.loop-i-preserved
loop-i-preserved c =
    elim c.match-use_claim.branch [
      | in-Some-AtMost w ↦
          let uses = rw (c.claim_place-place.ensures, w.in-Some-AtMost.field-0-is) at w.in-Some-AtMost.ensures in
          rw (w.best-is, w.better.ensures) (reserving_bound c.loop-i.invariant (omega arith) uses)
      | in-None w ↦
          let uses = rw c.claim_place-place.ensures at w.in-None.ensures in
          rw w.best-is (reserving_unused c.loop-i.invariant (omega arith) uses)
    ]

pub returns-in-Some : goal.returns-in-Some
returns-in-Some c = reserving_bounded c.loop-i.invariant (omega arith) c.in-Some.is

pub returns-in-None-best : goal.returns-in-None-best
returns-in-None-best c = reserving_unbounded c.loop-i.invariant (omega arith) c.in-None-best.is
