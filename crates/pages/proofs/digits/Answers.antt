-- `pages::digits` meets its contract. Assumes nothing.
use native.Mathlib.Omega.{arith}
use Rattle.theory.proofs.Reading.Digits.{digits_one, digits_more, digits_few}
use Rattle.pages.proofs.digits.Goals as goal

pub loop-left-init : goal.loop-left-init
loop-left-init c = omega (arith, digits_few 19 c.args.n (omega arith))

pub loop-left-preserved : goal.loop-left-preserved
loop-left-preserved c = omega (arith, digits_more c.loop-left.left c.loop-left-test.true)

pub returns : goal.returns
returns c = omega (arith, digits_one c.loop-left.left c.loop-left-test.false)
