-- `numbers::read_natural` meets its contract: the value of the digits passed, before the digits that are left. Assumes nothing.
use mathlib.Core.Path.{refl}
use borrow.Author.Rules.{rules}
use Rattle.std.proofs.Common.{arith}
use Rattle.numbers.proofs.NaturalReading.{decimal_one, decimal_more, natural_of_none, reading_low, reading_high, reading_over, reading_more, reading_all}
use Rattle.numbers.proofs.read_natural.Goals as goal

pub returns-in-empty : goal.returns-in-empty
returns-in-empty c = search (rules, natural_of_none)

pub loop-b-init : goal.loop-b-init
loop-b-init c = let b = c.if-field-lt2.branch in record { high = omega arith; small = omega arith; formed = grind (arith, decimal_one c.args.field.now, decimal_more c.args.field.now); worth = refl }

pub returns-in_default-b : goal.returns-in_default-b
returns-in_default-b c = search (rules, reading_low)

pub returns-in_default-b-2 : goal.returns-in_default-b-2
returns-in_default-b-2 c = search (rules, reading_high)

pub returns-then-limit-value : goal.returns-then-limit-value
returns-then-limit-value c = search (rules, reading_over)

pub loop-b-preserved : goal.loop-b-preserved
loop-b-preserved c = search (rules, reading_more)

pub returns : goal.returns
returns c = search (rules, reading_all)
