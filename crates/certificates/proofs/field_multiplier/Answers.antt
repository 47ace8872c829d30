-- `certificates::field_multiplier` meets its contract.
use native.Mathlib.Omega.{arith}
use Rattle.certificates.proofs.MultiplierFields.{claim_weighed, nothing_weighed, no_multiplier_lem}
use Rattle.certificates.proofs.field_multiplier.Goals as goal

pub returns-in_default : goal.returns-in_default
returns-in_default c = no_multiplier_lem _ _ c.read_natural.ensures _ _ _ _ _ c.in_default.is

pub returns-then-m-ne0 : goal.returns-then-m-ne0
returns-then-m-ne0 c = claim_weighed _ _ c.read_natural.ensures _ _ _ _ _ _ _ c.in-Some.is c.weigh.ensures

pub returns-else-m-ne0 : goal.returns-else-m-ne0
returns-else-m-ne0 c = nothing_weighed _ _ c.read_natural.ensures _ _ _ _ _ _ c.in-Some.is (omega arith)
