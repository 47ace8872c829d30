-- The bits of a number, bit 0 the lowest: of two numbers joined by "or", and of a number that has one bit. Numbers with the
-- same bits are equal; so the bits of one are among those of another exactly if joining them adds nothing.
use mathlib.Core.Path.{◌≡◌, refl, sym, ◌∙◌, ap}
use mathlib.Core.Bool.{Bool, true, false, ◌||◌}
use Prim.Native.Nat.{ℕ, zero, suc, ◌+◌, ◌/◌, ◌%◌, ◌^◌, ◌≤◌, ◌<◌, suc-le-suc, max}
use native.Mathlib.Nat.{le_of_suc-le-suc, max-le, mod-lt, mul-div_cancel, mul-mod_left, pow-suc}
use native.Mathlib.Omega.{arith}
use lib.Arith.{digits_div, digits_mod}
use lib.Bits.{bit_or, or_step}
use lib.Dec.{eqb, eqb-zero-suc, eqb-suc-zero, eqb-suc-suc}
use Rattle.groundwork.proofs.Truth.{never_both, by_truth, or_left}

unfoldable pub bit : ℕ → ℕ → Bool
bit x zero = eqb (x % 2) 1
bit x (suc i) = bit (x / 2) i

pub no_bit : (i : ℕ) → bit 0 i ≡ false
unfolding bit
no_bit zero = refl
no_bit (suc i) = no_bit i

-- a number that has a bit is not 0
pub bit_unzero : (x i : ℕ) → bit x i ≡ true → x ≡ 0 → ⊥
bit_unzero x i has e = never_both has (ap (λ (y : ℕ). bit y i) e ∙ no_bit i)

-- ---- one of two digits

max_small : (a b : ℕ) → a < 2 → b < 2 → max a b < 2
max_small a b h k = suc-le-suc (max-le (le_of_suc-le-suc h) (le_of_suc-le-suc k))

max_one : (a b : ℕ) → a < 2 → b < 2 → eqb (max a b) 1 ≡ (eqb a 1 || eqb b 1)
max_one zero zero h k = refl
max_one zero (suc zero) h k = refl
max_one zero (suc (suc b)) h k = absurd (omega arith)
max_one (suc zero) zero h k = refl
max_one (suc zero) (suc zero) h k = refl
max_one (suc zero) (suc (suc b)) h k = absurd (omega arith)
max_one (suc (suc a)) b h k = absurd (omega arith)

-- ---- all of them

pub or_bit : (x y i : ℕ) → bit (bit_or x y) i ≡ (bit x i || bit y i)
unfolding bit
or_bit x y zero =
    let few = max_small (x % 2) (y % 2) (mod-lt x (omega arith)) (mod-lt y (omega arith)) in
    ap (λ (n : ℕ). eqb (n % 2) 1) (or_step x y) ∙ ap (λ (n : ℕ). eqb n 1) (digits_mod (bit_or (x / 2) (y / 2)) few) ∙ max_one (x % 2) (y % 2) (mod-lt x (omega arith)) (mod-lt y (omega arith))
or_bit x y (suc i) =
    let few = max_small (x % 2) (y % 2) (mod-lt x (omega arith)) (mod-lt y (omega arith)) in
    ap (λ (n : ℕ). bit (n / 2) i) (or_step x y) ∙ ap (λ (n : ℕ). bit n i) (digits_div (bit_or (x / 2) (y / 2)) few) ∙ or_bit (x / 2) (y / 2) i

pub one_bit : (p i : ℕ) → bit (2 ^ p) i ≡ eqb i p
unfolding bit
one_bit zero zero = refl
one_bit zero (suc i) = no_bit i ∙ sym (eqb-suc-zero i)
one_bit (suc p) zero =
    ap (λ (n : ℕ). eqb (n % 2) 1) (pow-suc 2 p) ∙ ap (λ (n : ℕ). eqb n 1) (mul-mod_left (2 ^ p) 2) ∙ sym (eqb-zero-suc p)
one_bit (suc p) (suc i) = ap (λ (n : ℕ). bit (n / 2) i) (pow-suc 2 p) ∙ ap (λ (n : ℕ). bit n i) (mul-div_cancel (2 ^ p) (omega arith)) ∙ one_bit p i ∙ sym (eqb-suc-suc i p)

-- ---- equal bits

same_digit : (a b : ℕ) → a < 2 → b < 2 → eqb a 1 ≡ eqb b 1 → a ≡ b
same_digit zero zero h k e = refl
same_digit zero (suc zero) h k e = never_both e refl
same_digit zero (suc (suc b)) h k e = absurd (omega arith)
same_digit (suc zero) zero h k e = never_both (sym e) refl
same_digit (suc zero) (suc zero) h k e = refl
same_digit (suc zero) (suc (suc b)) h k e = absurd (omega arith)
same_digit (suc (suc a)) b h k e = absurd (omega arith)

same_below : (n x y : ℕ) → x ≤ n → y ≤ n → ((i : ℕ) → bit x i ≡ bit y i) → x ≡ y
unfolding bit
same_below zero x y h k same = omega arith
same_below (suc n) x y h k same =
    let last = same_digit (x % 2) (y % 2) (mod-lt x (omega arith)) (mod-lt y (omega arith)) (same 0) in
    let rest = same_below n (x / 2) (y / 2) (omega arith) (omega arith) (λ i. same (suc i)) in
    omega arith

pub same_bits : (x y : ℕ) → ((i : ℕ) → bit x i ≡ bit y i) → x ≡ y
same_bits x y same = same_below (x + y) x y (omega arith) (omega arith) same

-- ---- the bits of x are among those of y

pub bits_within : (x y : ℕ) → ((i : ℕ) → bit x i ≡ true → bit y i ≡ true) → bit_or x y ≡ y
bits_within x y within = same_bits (bit_or x y) y (λ i. or_bit x y i ∙ by_truth (λ (b : Bool). (b ≡ true → bit y i ≡ true) → (b || bit y i) ≡ bit y i) (bit x i) (λ e h. sym (h refl)) (λ e h. refl) (within i))

pub within_bits : (x y : ℕ) → bit_or x y ≡ y → (i : ℕ) → bit x i ≡ true → bit y i ≡ true
within_bits x y e i has = sym (ap (λ (z : ℕ). bit z i) e) ∙ or_bit x y i ∙ or_left (bit x i) (bit y i) has
