-- Faults by their numbers: none is 0, which stands for no fault, and 13 is that of an unjustified claim alone.
use mathlib.Core.Path.{◌≡◌, refl}
use native.Mathlib.Omega.{arith}
use Rattle.tables.specs.declared.Fault.{Fault}
use Rattle.tables.specs.declared.Fault.TheVariants.{UnfitLine, Letter, Name, Declaration, FieldCount, Number, NoTerm, CountLimit, Unjustified, RuledFact, NotGround, UnmetClaim, Headless}
use Rattle.tables.specs.Faults.{number_of}

pub thirteen : (f : Fault) → number_of f ≡ 13 → f ≡ Unjustified
thirteen UnfitLine e = absurd (omega arith)
thirteen Letter e = absurd (omega arith)
thirteen Name e = absurd (omega arith)
thirteen Declaration e = absurd (omega arith)
thirteen FieldCount e = absurd (omega arith)
thirteen Number e = absurd (omega arith)
thirteen NoTerm e = absurd (omega arith)
thirteen CountLimit e = absurd (omega arith)
thirteen Unjustified e = refl
thirteen RuledFact e = absurd (omega arith)
thirteen NotGround e = absurd (omega arith)
thirteen UnmetClaim e = absurd (omega arith)
thirteen Headless e = absurd (omega arith)

pub number_some : (f : Fault) → number_of f ≡ 0 → ⊥
number_some UnfitLine e = omega arith
number_some Letter e = omega arith
number_some Name e = omega arith
number_some Declaration e = omega arith
number_some FieldCount e = omega arith
number_some Number e = omega arith
number_some NoTerm e = omega arith
number_some CountLimit e = omega arith
number_some Unjustified e = omega arith
number_some RuledFact e = omega arith
number_some NotGround e = omega arith
number_some UnmetClaim e = omega arith
number_some Headless e = omega arith
