-- `text::find_beyond` meets its contract: the blocks passed are free of the byte, and std finds it in what is left. Assumes nothing.
use mathlib.Core.Path.{sym, ◌∙◌}
use native.Mathlib.Omega.{arith}
use borrow.Author.Rules.{rules}
use Rattle.text.proofs.Parts.{free_none}
use Rattle.text.proofs.Finding.{block_passed, found_near, none_left, found_after}
use Rattle.text.proofs.find_beyond.Goals as goal

pub loop-at-init : goal.loop-at-init
loop-at-init c = search (rules, free_none)

pub loop-at-preserved : goal.loop-at-preserved
loop-at-preserved c =
    let passed = block_passed c.args.wanted c.args.bytes.now c.args.from c.loop-at.at c.loop-at.invariant.0 c.loop-at.invariant.2 (omega arith) (sym c.count_few.ensures ∙ c.if-count_few-eq0.true) in
    (omega (arith, c.loop-at.invariant.0), omega arith, passed)

pub returns-in-Some : goal.returns-in-Some
returns-in-Some c =
    let found = found_near c.args.wanted c.args.bytes.now c.loop-at.at _ c.loop-at.invariant.1 (omega arith) c.in-Some.ahead (sym c.place_of.ensures ∙ c.in-Some.is) in
    found_after c.args.wanted c.args.bytes.now c.args.from c.loop-at.at c.loop-at.invariant.0 c.loop-at.invariant.2 _ found

pub returns-in-None : goal.returns-in-None
returns-in-None c =
    let found = none_left c.args.wanted c.args.bytes.now c.loop-at.at c.loop-at.invariant.1 (sym c.place_of.ensures ∙ c.in-None.is) in
    found_after c.args.wanted c.args.bytes.now c.args.from c.loop-at.at c.loop-at.invariant.0 c.loop-at.invariant.2 _ found
