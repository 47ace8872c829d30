-- `declarations::field_claim` meets its contract. Assumes nothing.
use borrow.Author.Rules.{rules}
use native.Mathlib.Omega.{arith}
use Rattle.std.proofs.lemmas.Result.{err_from_is_err_and}
use Rattle.declarations.proofs.ClaimFields.{number_fits, number_read, no_number}
use Rattle.declarations.proofs.field_claim.Goals as goal

pub returns-in_err-number : goal.returns-in_err-number
returns-in_err-number c =
    let p = err_from_is_err_and c.from_residual.result c.from_residual.ensures.1 in
    rw (p.1, p.2) (no_number c.args.field.now c.read_integer.result (search rules) _ _ _ _ c.in_err-number.ensures.value)

pub overflow_cast-row : goal.overflow_cast-row
overflow_cast-row c = search (rules, number_fits)

pub returns : goal.returns
returns c = number_read c.args.field.now c.read_integer.result (search rules) c.in_ok-number.number (search rules) _ _ _ (omega arith)
