-- The weights of an `M` line: nine for each atom, of its constant and of its arguments.
use Rattle.std.specs.Prelude.{◌≡◌, List, ℕ, ◌+◌, ◌*◌, ◌≤◌, ◌<◌, ℤ, pos, nat_abs, ◌-ℤ◌, ◌*ℤ◌, length, get_or}
use Rattle.residuals.specs.Sums.{largest}

-- an atom's weights have room for one claim more, of the sixteen that there can be
pub record RoomFor (weights : List ℤ) (atom : ℕ) : Type 0 where
  pub size : length weights ≡ 81
  pub weight : (j : ℕ) → j < 9 → nat_abs (get_or weights (atom * 9 + j) (pos 0)) ≤ 15 * largest

-- a claim's numbers, times m, taken from an atom's weights
pub record Weighs (m : ℤ) (claims : List ℤ) (place atom : ℕ) (weights₀ weights : List ℤ) : Type 0 where
  pub size : length weights ≡ length weights₀
  pub weight : (j : ℕ) → j < 9 → get_or weights (atom * 9 + j) (pos 0) ≡ get_or weights₀ (atom * 9 + j) (pos 0) -ℤ m *ℤ get_or claims (place + j) (pos 0)
  pub below : (i : ℕ) → i < atom * 9 → get_or weights i (pos 0) ≡ get_or weights₀ i (pos 0)
  pub above : (i : ℕ) → atom * 9 + 9 ≤ i → get_or weights i (pos 0) ≡ get_or weights₀ i (pos 0)

-- the head's weights are the claim's numbers
pub record HeadWeighed (claims : List ℤ) (place : ℕ) (weights₀ weights : List ℤ) : Type 0 where
  pub size : length weights ≡ length weights₀
  pub weight : (i : ℕ) → i < 9 → get_or weights i (pos 0) ≡ get_or claims (place + i) (pos 0)
  pub above : (i : ℕ) → 9 ≤ i → get_or weights i (pos 0) ≡ get_or weights₀ i (pos 0)
