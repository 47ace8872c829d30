-- `numbers::runs::zeros` meets its contract: the fields passed, and the blocks to come. Assumes nothing.
use mathlib.Core.Path.{◌≡◌, sym, ◌∙◌, ap}
use Prim.Native.Nat.{ℕ, ◌+◌}
use lib.ListN.{drop}
use Rattle.std.specs.Slice.Iter.{chunks_exact_rest, chunks_exact_size}
use Rattle.text.proofs.Parts.{part_rest}
use native.Mathlib.Omega.{arith}
use borrow.Author.Rules.{rules}
use Rattle.numbers.proofs.ZeroRuns.{zeros_none, zeros_passed, blocks_ahead}
use Rattle.numbers.proofs.runs.zeros.Goals as goal

pub loop-eight-init : goal.loop-eight-init
loop-eight-init c =
    let place : c.args.from + 0 ≡ c.args.from = omega arith in
    let made = c.into_iter-eight-iterator.ensures.into_iter_gives in (
      zeros_none _ _ c.requires,
      ap chunks_exact_size made ∙ c.chunks_exact-eight-items.ensures.size,
      ap (λ (n : ℕ). drop n c.args.bytes.now) place ∙ sym (part_rest c.args.bytes.now c.args.from) ∙ sym c.chunks_exact-eight-items.ensures.rest ∙ sym (ap chunks_exact_rest made),
    )

pub returns-then-rest-lt1 : goal.returns-then-rest-lt1
returns-then-rest-lt1 c = search (rules, zeros_none)

pub returns-else-rest-lt1 : goal.returns-else-rest-lt1
returns-else-rest-lt1 c = search (rules, zeros_none)

pub returns-then-more-lt4 : goal.returns-then-more-lt4
returns-then-more-lt4 c = zeros_passed _ _ _ c.loop-eight.invariant.0 _ _ _ c.loop-eight.invariant.2 c.in-Some.ensures.steps.1.0 (c.in-Some.ensures.steps.1.1 ∙ c.loop-eight.invariant.1) _ c.zeros_of_eight-more.ensures

pub loop-eight-preserved : goal.loop-eight-preserved
loop-eight-preserved c = (
  zeros_passed _ _ _ c.loop-eight.invariant.0 _ _ _ c.loop-eight.invariant.2 c.in-Some.ensures.steps.1.0 (c.in-Some.ensures.steps.1.1 ∙ c.loop-eight.invariant.1) _ c.zeros_of_eight-more.ensures,
  c.in-Some.ensures.steps.0 ∙ c.loop-eight.invariant.1,
  blocks_ahead _ _ _ c.loop-eight.invariant.0 _ _ _ c.loop-eight.invariant.2 c.in-Some.ensures.steps.1.0 (c.in-Some.ensures.steps.1.1 ∙ c.loop-eight.invariant.1) _ (omega (arith, c.zeros_of_eight-more.ensures.0)),
)
