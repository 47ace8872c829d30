-- `residuals::with_row` meets its contract, with half of a row or all of it.
use native.Mathlib.Omega.{arith}
use mir.Syntax.{w64}
use borrow.Author.Rules.{rules}
use Rattle.forms.proofs.Kept.{small_kept}
use Rattle.residuals.proofs.Rows.{width_whole, row_within, product_within, row_added}
use Rattle.residuals.proofs.with_row.Goals as goal

pub times-requires : goal.times-requires
times-requires c = search (rules, row_within)

pub plus-requires : goal.plus-requires
plus-requires c = search (rules, product_within)

pub times-requires-2 : goal.times-requires-2
times-requires-2 c = search (rules, row_within)

pub plus-requires-2 : goal.plus-requires-2
plus-requires-2 c = search (rules, product_within)

pub returns : goal.returns
returns c = rw (width_whole c.args.variables (omega arith)) (row_added c.form_at-2.ensures c.times-2.ensures (small_kept w64 _ (omega arith)) c.plus-2.ensures)
