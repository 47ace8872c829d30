-- `facts::value_of` meets its contract. The loop's invariant: the sum is the claim with the arguments so far put in. Assumes nothing.
use mathlib.Core.Path.{refl, ◌∙◌, ap}
use Prim.Native.Nat.{ℕ, ◌+◌}
use native.Mathlib.Omega.{arith}
use lib.IntN.{pos}
use lib.ListN.{get_or}
use Rattle.tables.specs.Tables.{SafeRows}
use Rattle.facts.specs.Ends.{value_to}
use Rattle.facts.proofs.Values.{value_none, value_room, value_more, number_kept}
use Rattle.facts.proofs.value_of.Goals as goal

pub loop-k-init : goal.loop-k-init
loop-k-init c = value_none _ _ _ (number_kept (c.requires.2.small _) refl)

pub with_argument-sum-requires : goal.with_argument-sum-requires
with_argument-sum-requires c =
    let small : SafeRows c.args.rows.now = record { small = c.fits-rows } in
    let number = get_or c.args.claims.now (c.args.place + 1 + c.loop-k.k) (pos 0) in
    (value_room _ _ c.requires.2 small _ _ (omega arith) c.loop-k.invariant, rw (number_kept {number = number} (c.requires.2.small _) refl) (c.requires.2.small _))

pub loop-k-preserved : goal.loop-k-preserved
loop-k-preserved c =
    let small : SafeRows c.args.rows.now = record { small = c.fits-rows } in
    value_more _ _ c.requires.2 small _ _ (omega arith) c.loop-k.invariant (number_kept (c.requires.2.small _) refl) (ap (λ (n : ℕ). get_or c.args.rows.now n 0) c.row_place.ensures) c.with_argument-sum.ensures

pub returns : goal.returns
returns c = c.loop-k.invariant ∙ ap (value_to _ _ _) (omega arith)
