-- Claims' numbers, times multipliers, taken from weights: that the results fit 32 bits.
use mathlib.Core.Path.{◌≡◌, refl}
use mathlib.Core.List.{List}
use Prim.Native.Nat.{ℕ, ◌+◌, ◌*◌, ◌≤◌, ◌<◌}
use native.Mathlib.Nat.{mul-le-mul}
use native.Mathlib.Omega.{arith}
use lib.IntN.{ℤ, pos, nat_abs, ◌-ℤ◌, ◌*ℤ◌}
use mir.Facts.{to_z-of_z}
use mir.Syntax.{w16, w32}
use mir.Val.{SFits}
use Rattle.groundwork.proofs.Magnitude.{nat_abs_sub, nat_abs_mul}
use Rattle.groundwork.proofs.Stretches.{Stored, elements}
use Rattle.tables.specs.Tables.{SafeClaims}
use Rattle.residuals.specs.Sums.{largest}
use Rattle.certificates.specs.Weights.{RoomFor, Weighs}
use Rattle.forms.proofs.Kept.{kept_at, small_fits, small_kept, widened}

pub product_small : (m x : ℤ) → nat_abs m ≤ 9999 → nat_abs x ≤ 9999 → nat_abs (m *ℤ x) ≤ largest
product_small m x few small = omega (arith, nat_abs_mul m x, mul-le-mul few small)

-- a weight with a claim's number, times m, taken away, by its place among the atom's nine
abbrev pub weighed : ℤ → List ℤ → ℕ → ℕ → List ℤ → ℕ → ℤ
weighed m claims place atom weights j = elements weights (atom * 9 + j) -ℤ m *ℤ elements claims (place + j)

-- a claim's number as the code reads it, at 16 bits, and as it multiplies by it
abbrev pub read : List ℤ → ℕ → ℤ
read claims i = kept_at w32 (kept_at w16 (elements claims i))

-- what the code does to the weight at place i
pub record Taken (m : ℤ) (claims : List ℤ) (place atom : ℕ) (before after : List ℤ) (i : ℕ) : Type 0 where
  pub product_fits : SFits w32 (kept_at w32 m *ℤ read claims (place + i))
  pub fits : SFits w32 (kept_at w32 (elements after (atom * 9 + i)) -ℤ kept_at w32 (kept_at w32 m *ℤ read claims (place + i)))
  pub result : kept_at w32 (kept_at w32 (elements after (atom * 9 + i)) -ℤ kept_at w32 (kept_at w32 m *ℤ read claims (place + i))) ≡ weighed (kept_at w32 m) claims place atom before i

module _ (m : ℤ) (place : ℕ) {claims : List ℤ} {atom : ℕ} {before after : List ℤ} {i : ℕ} (stored : Stored (pos 0) (weighed (kept_at w32 m) claims place atom before) (atom * 9) before after i) where
  pub taken : nat_abs m ≤ 9999 → SafeClaims claims → RoomFor before atom → i < 9 → Taken m claims place atom before after i
  taken few safe room less =
      let w = elements before (atom * 9 + i) in
      let x = elements claims (place + i) in
      let old = room.weight i less in
      let size = product_small m x few (safe.small (place + i)) in
      let multiplier = small_kept w32 m (omega arith) in
      let number : read claims (place + i) ≡ x = widened w16 w32 x _ tt (small_fits w16 x (omega (arith, safe.small (place + i)))) refl in
      let stands = stored.above (atom * 9 + i) (omega arith) in
      let weight = small_kept w32 w (omega arith) in
      let product : SFits w32 (m *ℤ x) = small_fits w32 (m *ℤ x) (omega arith) in
      let difference : SFits w32 (w -ℤ m *ℤ x) = small_fits w32 (w -ℤ m *ℤ x) (omega (arith, nat_abs_sub w (m *ℤ x))) in
      record {
        product_fits = rw (multiplier, number) product;
        fits = rw (stands, multiplier, number, weight, to_z-of_z product) difference;
        result = rw (stands, multiplier, number, weight, to_z-of_z product) (to_z-of_z difference);
      }

  pub weighs_all : SFits w32 m → i ≡ 9 → Weighs m claims place atom before after
  weighs_all fits all =
      record {
        size = stored.size;
        weight = λ j less. rw (to_z-of_z fits) at (stored.done j (omega arith));
        below = stored.below;
        above = λ j over. stored.above j (omega arith);
      }
