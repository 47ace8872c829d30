-- `Form::times` meets its contract. The loop's invariant: each coefficient passed is k times the form's.
use mathlib.Core.Path.{◌∙◌}
use native.Mathlib.Omega.{arith}
use lib.IntN.{◌*ℤ◌}
use lib.ListN.{length-set}
use Rattle.forms.specs.Sums.{at}
use Rattle.forms.proofs.Results.{kept, constant_multiplies, coefficient_multiplies, rule_more}
use Rattle.forms.proofs.Form.times.Goals as goal

pub overflow_mul-products : goal.overflow_mul-products
overflow_mul-products c = (coefficient_multiplies c.args.k c.requires c.loop-i.i (omega arith)).fits

pub loop-i-preserved : goal.loop-i-preserved
loop-i-preserved c =
    let k = c.args.k in
    let f = c.args.self in
    let i = c.loop-i.i in
    let next = coefficient_multiplies k c.requires i (omega arith) in
    (simp length-set c.loop-i.invariant.0, rule_more (λ j. kept k *ℤ at f j) c.loop-i.products i _ (omega arith) c.loop-i.invariant.1 (next.result ∙ rw next.left))

pub overflow_mul-result : goal.overflow_mul-result
overflow_mul-result c = (constant_multiplies c.args.k c.requires).fits

pub returns : goal.returns
returns c =
    let constant = constant_multiplies c.args.k c.requires in
    record { constant = constant.result; coefficient = λ i less. rw constant.left at (c.loop-i.invariant.1 i (omega arith)) }
