-- Tests 4 and 5, which every line has: it is unfit, or its letter may not stand here.
use mathlib.Core.Path.{◌≡◌, refl, ◌∙◌, ap}
use mathlib.Core.Bool.{Bool, true, false, not, ◌&&◌, ◌||◌}
use mathlib.Core.List.{◌∷◌}
use Prim.Native.Nat.{◌≤◌}
use lib.ListN.{length}
use Rattle.groundwork.proofs.Truth.{or_neither, or_not_left, ltb-ge}
use Rattle.theory.specs.Text.{Bytes, fields_of}
use Rattle.theory.specs.Written.{line_letter, Written}
use Rattle.theory.specs.Faults.{Manner, test, first_given, is_unfit, tests, fault}
use Rattle.theory.proofs.Judging.Tests.{first_passed, first_found}

pub fit_short : (line : Bytes) → is_unfit line ≡ false → length line ≤ 1024
unfolding is_unfit
fit_short line fit = ltb-ge 1024 (length line) (or_not_left _ _ fit)

not_both : (a b : Bool) → (not a && b) ≡ false → (a || not b) ≡ true
not_both true b e = refl
not_both false b e = ap not e

module _ (manner : Manner) (w : Written) (line : Bytes) where
  pub fault_four : is_unfit line ≡ true → fault manner w line ≡ 4
  unfolding fault
  fault_four unfit = first_found 4 _ _ unfit

  module _ (fit : is_unfit line ≡ false) where
    past_four : fault manner w line ≡ first_given (test 5 (w.ended || not (manner.allows w.pack (line_letter line))) ∷ tests manner (line_letter line) (fields_of line) w.pack)
    unfolding fault
    past_four = first_passed 4 _ _ fit

    pub fault_five : (not w.ended && manner.allows w.pack (line_letter line)) ≡ false → fault manner w line ≡ 5
    fault_five refused = past_four ∙ first_found 5 _ _ (not_both w.ended _ refused)

    pub past_five : w.ended ≡ false → manner.allows w.pack (line_letter line) ≡ true → fault manner w line ≡ first_given (tests manner (line_letter line) (fields_of line) w.pack)
    past_five unended stands = past_four ∙ first_passed 5 _ _ (or_neither w.ended _ unended (ap not stands))
