-- Document 01, measure, in words: what each of its answers says of the bytes. What it computes is in Measure.
use Rattle.std.specs.Prelude.{◌≡◌, ◌≤◌, length}
use Rattle.theory.specs.Lists.{◌∈◌}
use Rattle.theory.specs.Text.{Bytes}
use Rattle.theory.specs.Terms.{Term, WrittenAs, variables, IsGround}
use Rattle.theory.specs.Sizes.{sum_of_arities}
use Rattle.theory.specs.Packs.{line_limit}
use Rattle.theory.specs.LinesTold.{Fit, Unfit}
use Rattle.theory.specs.Measure.{Measured, measured, measure_of}

-- 0 with the sum of the arities, where the bytes write a ground term and are not too many. Else 4; 11 where they write no
-- term; 19 where they write one with a variable.
pub data MeasureOutcome (bs : Bytes) : Measured → Type 0 where
  sized : (t : Term) → WrittenAs t bs → IsGround t → length bs ≤ line_limit → MeasureOutcome bs (measured 0 (sum_of_arities t))
  unfit : Unfit bs → MeasureOutcome bs (measured 4 0)
  not_term : Fit bs → ((t : Term) → WrittenAs t bs → ⊥) → MeasureOutcome bs (measured 11 0)
  has_variable : Fit bs → (t : Term) → WrittenAs t bs → (x : Bytes) → x ∈ variables t → MeasureOutcome bs (measured 19 0)

-- For all bytes: measure's answer is such an outcome, and there is no other.
pub record MeasureTold : Type 0 where
  pub told : (bs : Bytes) → MeasureOutcome bs (measure_of bs)
  pub only : (bs : Bytes) (m : Measured) → MeasureOutcome bs m → m ≡ measure_of bs
