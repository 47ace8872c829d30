-- `queries::open_query` meets its contract. Assumes nothing.
use mathlib.Core.Path.{refl, sym, ◌∙◌}
use native.Mathlib.Omega.{arith}
use borrow.Author.Rules.{rules}
use Rattle.std.proofs.lemmas.Result.{err_from_is_err_and}
use Rattle.queries.proofs.Given.{got_none}
use Rattle.queries.proofs.QueryOpening.{opens_unfit, opens_short, opens_undeclared, second_inside, opens_unasked, arity_few, asked_low, sizes_full, opens_malformed, opens_known, opens_asked}
use Rattle.queries.proofs.open_query.Goals as goal

pub returns-then-is_unfit : goal.returns-then-is_unfit
returns-then-is_unfit c = search (rules, opens_unfit)

pub returns-then-commas-eq0 : goal.returns-then-commas-eq0
returns-then-commas-eq0 c = opens_short _ _ _ _ c.is_unfit.ensures c.if-is_unfit.false _ c.count-commas.ensures c.if-commas-eq0.true

pub returns-in_err-place : goal.returns-in_err-place
returns-in_err-place c =
    let p = err_from_is_err_and c.from_residual.result c.from_residual.ensures.1 in
    let q = got_none _ _ (sym c.ok_or.ensures.value ∙ c.in_err-place.was) in
    rw (p.1, p.2, q.1) (opens_undeclared _ _ _ _ c.is_unfit.ensures c.if-is_unfit.false _ c.count-commas.ensures c.if-commas-eq0.false _ c.field_end-stop.ensures (rw q.0 at c.named_by.ensures))

pub field_end-end-requires : goal.field_end-end-requires
field_end-end-requires c =
    let found = rw c.in_ok-place.ensures.ok_part at c.named_by.ensures in
    second_inside _ _ _ _ c.is_unfit.ensures c.if-is_unfit.false _ c.count-commas.ensures c.if-commas-eq0.false _ c.field_end-stop.ensures c.requires.1 c.requires.0 found

pub read_asked-requires : goal.read_asked-requires
read_asked-requires c =
    let found = rw c.in_ok-place.ensures.ok_part at c.named_by.ensures in
    arity_few _ _ _ _ c.is_unfit.ensures c.if-is_unfit.false _ c.count-commas.ensures c.if-commas-eq0.false _ c.field_end-stop.ensures c.requires.1 c.requires.0 found

pub returns-in_err-asked : goal.returns-in_err-asked
returns-in_err-asked c =
    let found = rw c.in_ok-place.ensures.ok_part at c.named_by.ensures in
    let p = err_from_is_err_and c.from_residual-in_err-asked.result c.from_residual-in_err-asked.ensures.1 in
    let q = got_none _ _ (sym c.ok_or-2.ensures.value ∙ c.in_err-asked.was) in
    rw (p.1, p.2, q.1) (opens_unasked _ _ _ _ c.is_unfit.ensures c.if-is_unfit.false _ c.count-commas.ensures c.if-commas-eq0.false _ c.field_end-stop.ensures c.requires.1 c.requires.0 found _ c.field_end-end.ensures (rw q.0 at c.read_asked.ensures))

pub read_sizes-requires : goal.read_sizes-requires
read_sizes-requires c =
    let found = rw c.in_ok-place.ensures.ok_part at c.named_by.ensures in
    (sizes_full _ _ _ _ c.is_unfit.ensures c.if-is_unfit.false _ c.count-commas.ensures c.if-commas-eq0.false _ c.field_end-stop.ensures c.requires.1 c.requires.0 found _ c.field_end-end.ensures, arity_few _ _ _ _ c.is_unfit.ensures c.if-is_unfit.false _ c.count-commas.ensures c.if-commas-eq0.false _ c.field_end-stop.ensures c.requires.1 c.requires.0 found)

pub returns-in_err-sizes : goal.returns-in_err-sizes
returns-in_err-sizes c =
    let found = rw c.in_ok-place.ensures.ok_part at c.named_by.ensures in
    let number = rw c.in_ok-asked.ensures.ok_part at c.read_asked.ensures in
    let p = err_from_is_err_and c.from_residual-in_err-sizes.result c.from_residual-in_err-sizes.ensures.1 in
    let q = rw c.in_err-sizes.was at c.read_sizes.ensures in
    rw (p.1, p.2) (opens_malformed _ _ _ _ c.is_unfit.ensures c.if-is_unfit.false _ c.count-commas.ensures c.if-commas-eq0.false _ c.field_end-stop.ensures c.requires.1 c.requires.0 found _ c.field_end-end.ensures _ number q.0 q.1)

pub offset_bounds-sizes-asked : goal.offset_bounds-sizes-asked
offset_bounds-sizes-asked c =
    let found = rw c.in_ok-place.ensures.ok_part at c.named_by.ensures in
    let number = rw c.in_ok-asked.ensures.ok_part at c.read_asked.ensures in
    omega (arith, asked_low _ _ _ _ c.is_unfit.ensures c.if-is_unfit.false _ c.count-commas.ensures c.if-commas-eq0.false _ c.field_end-stop.ensures c.requires.1 c.requires.0 found _ c.field_end-end.ensures _ number, arity_few _ _ _ _ c.is_unfit.ensures c.if-is_unfit.false _ c.count-commas.ensures c.if-commas-eq0.false _ c.field_end-stop.ensures c.requires.1 c.requires.0 found)

pub bounds-sizes-asked : goal.bounds-sizes-asked
bounds-sizes-asked c =
    let found = rw c.in_ok-place.ensures.ok_part at c.named_by.ensures in
    let number = rw c.in_ok-asked.ensures.ok_part at c.read_asked.ensures in
    omega (arith, asked_low _ _ _ _ c.is_unfit.ensures c.if-is_unfit.false _ c.count-commas.ensures c.if-commas-eq0.false _ c.field_end-stop.ensures c.requires.1 c.requires.0 found _ c.field_end-end.ensures _ number, arity_few _ _ _ _ c.is_unfit.ensures c.if-is_unfit.false _ c.count-commas.ensures c.if-commas-eq0.false _ c.field_end-stop.ensures c.requires.1 c.requires.0 found)

pub returns-then-is_some : goal.returns-then-is_some
returns-then-is_some c =
    let found = rw c.in_ok-place.ensures.ok_part at c.named_by.ensures in
    let number = rw c.in_ok-asked.ensures.ok_part at c.read_asked.ensures in
    let read = rw c.in_ok-sizes.was at c.read_sizes.ensures in
    opens_known _ _ _ _ c.is_unfit.ensures c.if-is_unfit.false _ c.count-commas.ensures c.if-commas-eq0.false _ c.field_end-stop.ensures c.requires.1 c.requires.0 found _ c.field_end-end.ensures _ number read (sym c.is_some.ensures ∙ c.if-is_some.true)

pub invariant_of-result : goal.invariant_of-result
invariant_of-result c =
    let found = rw c.in_ok-place.ensures.ok_part at c.named_by.ensures in
    let number = rw c.in_ok-asked.ensures.ok_part at c.read_asked.ensures in
    let few = arity_few _ _ _ _ c.is_unfit.ensures c.if-is_unfit.false _ c.count-commas.ensures c.if-commas-eq0.false _ c.field_end-stop.ensures c.requires.1 c.requires.0 found in
    record { low = (omega (arith, found.at.0), few, omega (arith, asked_low _ _ _ _ c.is_unfit.ensures c.if-is_unfit.false _ c.count-commas.ensures c.if-commas-eq0.false _ c.field_end-stop.ensures c.requires.1 c.requires.0 found _ c.field_end-end.ensures _ number, few)) }

pub returns : goal.returns
returns c =
    let found = rw c.in_ok-place.ensures.ok_part at c.named_by.ensures in
    let number = rw c.in_ok-asked.ensures.ok_part at c.read_asked.ensures in
    let read = rw c.in_ok-sizes.was at c.read_sizes.ensures in
    opens_asked _ _ _ _ c.is_unfit.ensures c.if-is_unfit.false _ c.count-commas.ensures c.if-commas-eq0.false _ c.field_end-stop.ensures c.requires.1 c.requires.0 found _ c.field_end-end.ensures _ number read (sym c.is_some.ensures ∙ c.if-is_some.false) _ refl refl refl refl
