-- `opening::open_named` meets its contract. Assumes nothing.
use borrow.Author.Rules.{rules}
use Rattle.std.proofs.lemmas.Result.{err_from_is_err_and}
use Rattle.groundwork.proofs.Truth.{not-true, not-false}
use Rattle.opening.proofs.LetterOpening.{arity_low, stop_fits, opens_unnamed, name_rest, opens_barred, opens_reference, opens_undeclared, opens_declaration}
use Rattle.opening.proofs.open_named.Goals as goal

pub returns-in_err-name : goal.returns-in_err-name
returns-in_err-name c =
    let p = err_from_is_err_and c.from_residual.result c.from_residual.ensures.1 in
    rw (p.1, p.2) (opens_unnamed _ (search rules) _ _ _ _ (search rules) _ c.in_err-name.ensures.value)

pub overflow_add-from : goal.overflow_add-from
overflow_add-from c = search (rules, stop_fits)

pub arity_of-arity-requires : goal.arity_of-arity-requires
arity_of-arity-requires c = search (rules, name_rest)

pub returns-then-not-is_declaration : goal.returns-then-not-is_declaration
returns-then-not-is_declaration c = search (rules, opens_undeclared, not-true)

pub open_declaration-requires : goal.open_declaration-requires
open_declaration-requires c = search (rules, arity_low)

pub returns-in_default : goal.returns-in_default
returns-in_default c = search (rules, opens_declaration, not-false)

pub returns-then-is_barred : goal.returns-then-is_barred
returns-then-is_barred c = search (rules, opens_barred)

pub returns : goal.returns
returns c = search (rules, opens_reference)
