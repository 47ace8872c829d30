-- `packs::load` meets its contract. Assumes nothing.
use native.Mathlib.Omega.{arith}
use borrow.Author.Rules.{rules}
use mathlib.Core.Path.{◌≡◌}
use mathlib.Core.Bool.{false}
use Rattle.theory.specs.Check.{is_finished}
use Rattle.theory.specs.declared.Refusal.TheVariants.{UnfinishedText}
use Rattle.packs.proofs.FreshTables.{fresh_ready}
use Rattle.packs.proofs.LoadAnswers.{is_finished_lem, not_finished, none_unfinished, unfinished_text, refused_text, lines_judged}
use Rattle.packs.proofs.load.Goals as goal
use Rattle.packs.proofs.load.Goals.{then-len-eq0-via-then-len-eq0, then-len-eq0-via-else-len-eq0+then-text-len-ne10}

pub returns-then-len-eq0 : goal.returns-then-len-eq0
returns-then-len-eq0 c =
    let unfinished : is_finished c.args.text.now ≡ false = elim c.then-len-eq0.branch [
      | then-len-eq0-via-then-len-eq0 w ↦ none_unfinished c.args.text.now w.if-len-eq0.true
      | then-len-eq0-via-else-len-eq0+then-text-len-ne10 w ↦ not_finished c.args.text.now w.if-len-eq0.false w.if-text-len-ne10.true
    ] in
    refused_text _ UnfinishedText c.refused-then-len-eq0.ensures (unfinished_text _ (omega arith) unfinished) (λ e. omega arith)

pub load_lines-l-requires : goal.load_lines-l-requires
load_lines-l-requires c = search (rules, fresh_ready)

pub returns : goal.returns
returns c =
    lines_judged _ (omega arith) (is_finished_lem _ c.if-len-eq0.false c.if-text-len-ne10.false) c.start.ensures c.requires c.load_lines-l.ensures.plain c.load_lines-l.ensures.tells c.verdict.ensures
