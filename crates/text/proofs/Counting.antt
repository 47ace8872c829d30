-- How often a byte stands in a string: one less than there are parts.
use mathlib.Core.Path.{◌≡◌, refl}
use mathlib.Core.Bool.{Bool, cond}
use mathlib.Core.List.{[], ◌∷◌}
use Prim.Native.Nat.{ℕ, ◌+◌}
use native.Mathlib.Omega.{arith}
use lib.Dec.{eqb}
use lib.ListN.{length}
use Rattle.std.specs.List.{count_by}
use Rattle.std.proofs.lemmas.List.Sums.{sum_by-cons}
use Rattle.groundwork.proofs.Truth.{by_truth}
use Rattle.theory.specs.Text.{Bytes, on_first, parts_at}
use Rattle.theory.proofs.Reading.Separators.{parts_cons}

-- a byte in front of the first part leaves as many
pub parts_first : (separator b : ℕ) (bs : Bytes) → length (on_first b (parts_at separator bs)) ≡ length (parts_at separator bs)
parts_first separator b bs = let found = parts_cons separator bs in rw found.2

pub parts_counted : (separator : ℕ) (s : Bytes) → count_by (λ b. eqb b separator) s + 1 ≡ length (parts_at separator s)
unfolding parts_at
parts_counted separator [] = refl
parts_counted separator (b ∷ bs) =
    rw (sum_by-cons (λ c. cond (eqb c separator) 1 0))
    (by_truth (λ (same : Bool). cond same 1 0 + count_by (λ c. eqb c separator) bs + 1 ≡ length (cond same ([] ∷ parts_at separator bs) (on_first b (parts_at separator bs)))) (eqb b separator)
    (λ _. omega (arith, parts_counted separator bs))
    (λ _. omega (arith, parts_counted separator bs, parts_first separator b bs)))
