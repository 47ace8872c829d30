-- Laying the residual over the area, one number each turn.
use mathlib.Core.Path.{◌≡◌, refl, ◌∙◌, ap}
use mathlib.Core.List.{List, [], ◌∷◌, ◌++◌}
use Prim.Native.Nat.{ℕ, zero, suc, ◌+◌, ◌≤◌, ◌<◌}
use native.Mathlib.Numerals.{add-one}
use native.Mathlib.Omega.{arith}
use lib.IntN.{ℤ, pos}
use lib.ListN.{length, get_or, set, take, drop, length-set}

one_laid : (i : ℕ) (residue area₀ : List ℤ) → i < length residue → i < length area₀ → set (take i residue ++ drop i area₀) i (get_or residue i (pos 0)) ≡ take (suc i) residue ++ drop (suc i) area₀
one_laid i [] area₀ inside within = absurd (omega arith)
one_laid i (x ∷ residue) [] inside within = absurd (omega arith)
one_laid zero (x ∷ residue) (y ∷ area₀) inside within = refl
one_laid (suc i) (x ∷ residue) (y ∷ area₀) inside within = ap (λ (l : List ℤ). x ∷ l) (one_laid i residue area₀ (omega arith) (omega arith))

-- the first i coefficients lie over the area, after the number that was laid first
pub record Laying (begun coefficients area : List ℤ) (i : ℕ) : Type 0 where
  pub within : i ≤ 16
  pub size : length area ≡ length begun
  pub is : length coefficients ≡ 16 → (constant : ℤ) (before : List ℤ) → begun ≡ set before 0 constant → 17 ≤ length before → area ≡ (constant ∷ take i coefficients) ++ drop (suc i) before

-- a coefficient
pub laying_more : {begun coefficients area : List ℤ} {i index : ℕ} {z : ℤ} → Laying begun coefficients area i → index ≡ suc i → z ≡ get_or coefficients i (pos 0) → i < 16 → Laying begun coefficients (set area index z) (i + 1)
laying_more {coefficients = coefficients} {area} {i} {index} {z} laying place here less =
    record {
      within = omega arith;
      size = length-set area index z ∙ laying.size;
      is = λ long constant before e room. rw (place, here, laying.is long constant before e room, add-one i) (one_laid (suc i) (constant ∷ coefficients) before (omega arith) (omega arith));
    }
