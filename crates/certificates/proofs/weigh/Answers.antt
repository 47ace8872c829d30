-- `certificates::weigh` meets its contract. The loop's invariant: the atom's weights passed have the products taken away, and all else is as it was.
use native.Mathlib.Omega.{arith}
use Rattle.groundwork.proofs.Stretches.{stored_more}
use Rattle.certificates.proofs.Weighing.{taken, weighs_all}
use Rattle.certificates.proofs.weigh.Goals as goal

pub overflow_mul-weights : goal.overflow_mul-weights
overflow_mul-weights c = (taken c.args.m c.args.place c.loop-i.invariant c.requires.0 c.requires.3 c.requires.4 (omega arith)).product_fits

pub overflow_sub-weights : goal.overflow_sub-weights
overflow_sub-weights c = (taken c.args.m c.args.place c.loop-i.invariant c.requires.0 c.requires.3 c.requires.4 (omega arith)).fits

pub loop-i-preserved : goal.loop-i-preserved
loop-i-preserved c = stored_more _ _ c.loop-i.invariant (omega arith) (omega arith) (taken c.args.m c.args.place c.loop-i.invariant c.requires.0 c.requires.3 c.requires.4 (omega arith)).result

pub returns : goal.returns
returns c = weighs_all c.args.m c.args.place c.loop-i.invariant c.ranges.m (omega arith)
