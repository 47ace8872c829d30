-- `opening::open_declaration` meets its contract. Assumes nothing.
use mathlib.Core.Path.{refl}
use borrow.Author.Rules.{rules}
use Rattle.std.proofs.lemmas.Result.{err_from_is_err_and}
use Rattle.opening.proofs.Declarations.{new_malformed, new_kindless, new_declared}
use Rattle.opening.proofs.open_declaration.Goals as goal

pub returns-in_err-arity : goal.returns-in_err-arity
returns-in_err-arity c =
    let p = err_from_is_err_and c.from_residual.result c.from_residual.ensures.1 in
    rw (p.1, p.2) (new_malformed _ _ _ _ _ (search rules) _ _ c.in_err-arity.ensures.value)

pub returns-in_err-kind : goal.returns-in_err-kind
returns-in_err-kind c =
    let p = err_from_is_err_and c.from_residual-in_err-kind.result c.from_residual-in_err-kind.ensures.1 in
    rw (p.1, p.2) (new_kindless _ _ _ _ _ (search rules) c.args.arity c.in_ok-arity.arity c.in_ok-arity.ensures.ok_part c.read_kind.result c.read_kind.ensures _ c.in_err-kind.ensures.value)

pub returns : goal.returns
returns c = new_declared _ _ _ _ _ (search rules) c.args.arity c.in_ok-arity.arity c.in_ok-arity.ensures.ok_part c.read_kind.result c.read_kind.ensures _ _ refl c.in_ok-kind.ensures.ok_part
