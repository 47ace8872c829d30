-- Document 01, "What check returns": measure. Its refusal, or 0 with the size of a ground term.
use Rattle.std.specs.Prelude.{cond, ℕ}
use Rattle.std.proofs.Math.Option.{Option, some, none}
use Rattle.theory.specs.Lists.{is_empty}
use Rattle.theory.specs.Text.{Bytes}
use Rattle.theory.specs.Terms.{Term, read_term, variables}
use Rattle.theory.specs.Sizes.{structural, size as size_of}
use Rattle.theory.specs.Faults.{is_unfit}

pub record Measured : Type 0 where
  pub refusal : ℕ
  pub size : ℕ

abbrev pub measured : ℕ → ℕ → Measured
measured r s = record { refusal = r; size = s }

unfoldable pub measure_term : Option Term → Measured
measure_term none = measured 11 0
measure_term (some t) = cond (is_empty (variables t)) (measured 0 (size_of structural t)) (measured 19 0)

unfoldable pub measure_of : Bytes → Measured
measure_of bs = cond (is_unfit bs) (measured 4 0) (measure_term (read_term bs))
