-- `Form::plus` meets its contract. The loop's invariant: each coefficient passed is the sum of the two.
use native.Mathlib.Omega.{arith}
use lib.IntN.{◌+ℤ◌}
use lib.ListN.{length-set}
use Rattle.forms.specs.Sums.{at}
use Rattle.forms.proofs.Results.{constants_add, coefficients_add, rule_more}
use Rattle.forms.proofs.Form.plus.Goals as goal

pub overflow_add-sums : goal.overflow_add-sums
overflow_add-sums c = (coefficients_add c.requires c.loop-i.i (omega arith)).fits

pub loop-i-preserved : goal.loop-i-preserved
loop-i-preserved c =
    let f = c.args.self in
    let g = c.args.other in
    let i = c.loop-i.i in
    let next = coefficients_add c.requires i (omega arith) in
    (simp length-set c.loop-i.invariant.0, rule_more (λ j. at f j +ℤ at g j) c.loop-i.sums i _ (omega arith) c.loop-i.invariant.1 next.result)

pub overflow_add-result : goal.overflow_add-result
overflow_add-result c = (constants_add c.requires).fits

pub returns : goal.returns
returns c =
    let constant = constants_add c.requires in
    record { constant = constant.result; coefficient = λ i less. c.loop-i.invariant.1 i (omega arith) }
