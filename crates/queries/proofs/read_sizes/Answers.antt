-- `queries::read_sizes` meets its contract. Assumes nothing.
use mathlib.Core.Path.{sym, ◌∙◌}
use native.Mathlib.Omega.{arith}
use borrow.Author.Rules.{rules}
use Rattle.std.proofs.lemmas.Result.{err_from_is_err_and}
use Rattle.queries.proofs.SizeLoop.{sizes_none, sizes_inside, sizes_more, sizes_malformed, sizes_all}
use Rattle.queries.proofs.read_sizes.Goals as goal

pub loop-i-init : goal.loop-i-init
loop-i-init c = search (rules, sizes_none)

pub field_end-stop-requires : goal.field_end-stop-requires
field_end-stop-requires c = sizes_inside _ _ _ _ _ c.loop-i.invariant (omega arith)

pub loop-i-preserved : goal.loop-i-preserved
loop-i-preserved c =
    sizes_more _ _ _ _ _ c.loop-i.invariant (omega arith) _ c.field_end-stop.ensures (omega arith) (sym c.in_ok-sizes.was ∙ c.read_size.ensures)

pub returns-in_err-sizes : goal.returns-in_err-sizes
returns-in_err-sizes c =
    let p = err_from_is_err_and c.from_residual.result c.from_residual.ensures.1 in
    rw (p.1, p.2) (sizes_malformed _ _ _ _ _ c.loop-i.invariant (omega arith) _ c.field_end-stop.ensures (sym c.in_err-sizes.was ∙ c.read_size.ensures))

pub returns : goal.returns
returns c = sizes_all _ _ _ _ _ c.loop-i.invariant (omega arith)
