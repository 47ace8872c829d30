-- `queries::read_size` meets its contract. Assumes nothing.
use mathlib.Core.Path.{sym, ◌∙◌}
use Rattle.std.proofs.lemmas.Result.{err_from_is_err_and}
use Rattle.queries.proofs.SizeFields.{size_unknown, size_known, size_malformed, size_fits}
use Rattle.queries.proofs.read_size.Goals as goal

pub returns-then-eq : goal.returns-then-eq
returns-then-eq c = size_unknown _ _ c.as_slice.ensures _ c.eq.ensures c.if-eq.true

pub returns-in_err-size : goal.returns-in_err-size
returns-in_err-size c =
    let p = err_from_is_err_and c.from_residual.result c.from_residual.ensures.1 in
    rw (p.1, p.2) (size_malformed _ _ c.as_slice.ensures _ c.eq.ensures c.if-eq.false _ c.read_natural.ensures (sym c.ok_or.ensures.value ∙ c.in_err-size.was))

pub overflow_cast-result : goal.overflow_cast-result
overflow_cast-result c =
    size_fits _ _ c.as_slice.ensures _ c.eq.ensures c.if-eq.false _ c.read_natural.ensures _ (sym c.ok_or.ensures.value ∙ c.in_ok-size.was)

pub returns : goal.returns
returns c =
    size_known _ _ c.as_slice.ensures _ c.eq.ensures c.if-eq.false _ c.read_natural.ensures _ (sym c.ok_or.ensures.value ∙ c.in_ok-size.was)
