-- A number written in decimal, by its last digit: one digit more than its tenth has, and how many digits there are at most.
use mathlib.Core.Path.{◌≡◌, sym, ◌∙◌, ap}
use mathlib.Core.List.{[], ◌∷◌, ◌++◌}
use Prim.Native.Nat.{ℕ, zero, suc, ◌+◌, ◌*◌, ◌/◌, ◌%◌, ◌^◌, ◌≤◌, ◌<◌}
use native.Mathlib.Decide.{dec_lt}
use native.Mathlib.Omega.{arith}
use lib.ListN.{length}
use Rattle.groundwork.proofs.Lists.{length_end}
use Rattle.theory.specs.Text.{decimal}
use Rattle.theory.proofs.Reading.Decimals.{decimal_one, decimal_more}

module _ (n : ℕ) where
  pub decimal_last : 10 ≤ n → decimal n ≡ decimal (n / 10) ++ ((48 + n % 10) ∷ [])
  decimal_last h =
      let whole : n / 10 * 10 + n % 10 ≡ n = omega arith in
      ap decimal (sym whole) ∙ decimal_more (n / 10) (n % 10) (omega arith) (omega arith)

  -- ---- how many digits

  pub digits_one : n < 10 → length (decimal n) ≡ 1
  digits_one h = ap length (decimal_one n h)

  pub digits_more : 10 ≤ n → length (decimal n) ≡ length (decimal (n / 10)) + 1
  digits_more h = omega (arith, ap length (decimal_last h), length_end (decimal (n / 10)) (48 + n % 10))

pub digits_few : (k n : ℕ) → n < 10 ^ suc k → length (decimal n) ≤ suc k
digits_few zero n h = omega (arith, digits_one n (omega arith))
digits_few (suc k) n h = by (dec_lt n 10) (digits_few k (n / 10))
  where
    by : Dec (n < 10) → (n / 10 < 10 ^ suc k → length (decimal (n / 10)) ≤ suc k) → length (decimal n) ≤ suc (suc k)
    by (yes one) below = omega (arith, digits_one n one)
    by (no more) below = omega (arith, digits_more n (omega arith), below (omega arith))

pub digits_some : (n : ℕ) → 1 ≤ length (decimal n)
digits_some n = by (dec_lt n 10)
  where
    by : Dec (n < 10) → 1 ≤ length (decimal n)
    by (yes one) = omega (arith, digits_one n one)
    by (no more) = omega (arith, digits_more n (omega arith))
