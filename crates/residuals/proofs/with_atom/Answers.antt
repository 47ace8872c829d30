-- `residuals::with_atom` meets its contract. The loop's invariant: the rows passed are added.
use mathlib.Core.Path.{refl}
use native.Mathlib.Omega.{arith}
use borrow.Author.Rules.{rules}
use Rattle.residuals.proofs.Sums.{rows_none, row_requires, row_weighed, row_skipped, atom_done}
use Rattle.residuals.proofs.with_atom.Goals as goal
use Rattle.residuals.proofs.with_atom.Goals.{then-weight-ne0, else-weight-ne0}

pub loop-k-init : goal.loop-k-init
loop-k-init c = let pre = c.requires in rows_none pre.1 pre.0 pre.2 refl c.with_constant-form.ensures

pub with_row-form-requires : goal.with_row-form-requires
with_row-form-requires c =
    let pre = c.requires in
    let needed = row_requires pre.1 pre.0 (omega arith) c.loop-k.invariant refl in
    (search rules, needed.0, needed.1)

pub loop-k-preserved : goal.loop-k-preserved
loop-k-preserved c =
    let pre = c.requires in
    let added = c.loop-k.invariant in
    elim c.if-weight-ne0.branch [
      | then-weight-ne0 way ↦ row_weighed pre.1 pre.0 (omega arith) added refl way.row_place-base.ensures way.with_row-form.ensures way.form-is
      | else-weight-ne0 way ↦ row_skipped pre.1 pre.0 (omega arith) added way.if-weight-ne0.false way.form-is
    ]

pub returns : goal.returns
returns c = atom_done c.loop-k.invariant (omega arith)
