-- `numbers::read_integer` meets its contract. Assumes nothing.
use mathlib.Core.Path.{◌≡◌}
use borrow.Author.Rules.{rules}
use lib.ListN.{get_or}
use Rattle.std.proofs.Common.{arith}
use Rattle.numbers.proofs.IntegerReading.{no_first, integer_minus_zero, integer_minus, integer_minus_none, integer_plus, integer_plus_none}
use Rattle.numbers.proofs.read_integer.Goals as goal

pub returns-in_err-n-in-45 : goal.returns-in_err-n-in-45
returns-in_err-n-in-45 c = rw c.from_residual.ensures (let read = c.in_err-n-in-45.ensures in search (rules, integer_minus_none))

pub returns-in-0 : goal.returns-in-0
returns-in-0 c = let read = c.in_ok-n-in-45.ensures in search (rules, integer_minus_zero)

pub returns-in_err-read_natural-in_default : goal.returns-in_err-read_natural-in_default
returns-in_err-read_natural-in_default c =
    let b = c.in_default.branch in
    let other : get_or c.args.field.now 0 0 ≡ 45 → ⊥ = grind (arith, no_first c.args.field.now) in
    rw c.from_residual-in_err-read_natural-in_default.ensures (integer_plus_none _ c.requires _ other (c.in_err-read_natural-in_default.ensures))

pub returns-in_default-2 : goal.returns-in_default-2
returns-in_default-2 c = let read = c.in_ok-n-in-45.ensures in search (rules, integer_minus)

pub returns-in_ok-read_natural-in_default : goal.returns-in_ok-read_natural-in_default
returns-in_ok-read_natural-in_default c =
    let b = c.in_default.branch in
    let other : get_or c.args.field.now 0 0 ≡ 45 → ⊥ = grind (arith, no_first c.args.field.now) in
    integer_plus _ c.requires _ other _ (c.in_ok-read_natural-in_default.ensures)
