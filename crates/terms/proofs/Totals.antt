-- The sum of the first numbers of a row, one number more.
use mathlib.Core.Path.{◌≡◌, refl}
use mathlib.Core.List.{List, [], ◌∷◌}
use Prim.Native.Nat.{ℕ, zero, suc, ◌+◌}
use native.Mathlib.Numerals.{add-one}
use native.Mathlib.Omega.{arith}
use lib.ListN.{get_or, take}
use Rattle.theory.specs.Lists.{total}

-- one number more, or, past the end of the row, none
total_suc : (ns : List ℕ) (i : ℕ) → total (take (suc i) ns) ≡ total (take i ns) + get_or ns i 0
unfolding total
total_suc [] zero = refl
total_suc [] (suc i) = refl
total_suc (n ∷ ns) zero = omega arith
total_suc (n ∷ ns) (suc i) = omega (arith, total_suc ns i)

pub total_more : (ns : List ℕ) (i : ℕ) → total (take (i + 1) ns) ≡ total (take i ns) + get_or ns i 0
total_more ns i = rw add-one (total_suc ns i)
