-- The test of a line's length and bytes, in words.
use mathlib.Core.Path.{◌≡◌, refl}
use mathlib.Core.Bool.{Bool, true, false, not, ◌&&◌, ◌||◌}
use mathlib.Core.Logic.{◌⊎◌, inl, inr, ◌↔◌}
use Prim.Native.Nat.{ℕ, ◌≤◌, ◌<◌}
use native.Mathlib.Omega.{arith}
use lib.Dec.{leb, ltb}
use lib.ListN.{length}
use Rattle.groundwork.proofs.Truth.{by_truth, not-true, not-false, leb-le, leb-gt, ltb-lt, ltb-ge, and_left, and_right, or_not_left, or_not_right}
use Rattle.theory.specs.Lists.{every}
use Rattle.theory.specs.Text.{Bytes, between}
use Rattle.theory.specs.Packs.{line_limit}
use Rattle.theory.specs.Faults.{is_unfit}
use Rattle.theory.specs.LinesTold.{Fit, Unfit, long, outside}
use Rattle.theory.proofs.Reading.Every.{every_member, some_failing}

-- ---- one byte

outside_range : (b : ℕ) → between 32 126 b ≡ false → (b < 32) ⊎ (126 < b)
outside_range b e =
    by_truth (λ (low : Bool). (low && leb b 126) ≡ false → (b < 32) ⊎ (126 < b)) (leb 32 b) (λ low high. inr (leb-gt b 126 high)) (λ low high. inl (leb-gt 32 b low)) e

never_outside : (b : ℕ) → (32 ≤ b) × (b ≤ 126) → (b < 32) ⊎ (126 < b) → ⊥
never_outside b (low, high) (inl h) = omega arith
never_outside b (low, high) (inr h) = omega arith

-- ---- all of them

module _ (l : Bytes) where
  pub unfit_told : is_unfit l ≡ true → Unfit l
  unfolding is_unfit
  unfit_told e =
      by_truth (λ (b : Bool). (b || not (every (between 32 126) l)) ≡ true → Unfit l) (ltb line_limit (length l))
      (λ h e. long (ltb-lt line_limit (length l) h))
      (λ h e. let (b, m, fails) = some_failing (between 32 126) l (not-true _ e) in outside b m (outside_range b fails))
      e

  pub fit_told : is_unfit l ≡ false → Fit l
  unfolding is_unfit
  fit_told e = record {
    short = ltb-ge line_limit (length l) (or_not_left _ _ e);
    bytes = λ b m.
        let h = every_member (between 32 126) (not-false _ (or_not_right (ltb line_limit (length l)) _ e)) m in
        (leb-le 32 b (and_left _ (leb b 126) h), leb-le b 126 (and_right (leb 32 b) _ h));
  }

  -- not both
  pub fit_or_unfit : Fit l → Unfit l → ⊥
  fit_or_unfit f (long h) = omega (arith, f.short)
  fit_or_unfit f (outside b m h) = never_outside b (f.bytes b m) h

  pub unfit_exactly : (is_unfit l ≡ true) ↔ Unfit l
  unfit_exactly = (unfit_told, λ u. by_truth (λ b. b ≡ true) (is_unfit l) (λ e. refl) (λ e. absurd (fit_or_unfit (fit_told e) u)))

  pub fit_exactly : (is_unfit l ≡ false) ↔ Fit l
  fit_exactly = (fit_told, λ f. by_truth (λ b. b ≡ false) (is_unfit l) (λ e. absurd (fit_or_unfit f (unfit_told e))) (λ e. refl))
