-- The 17 numbers of a form over at most 16 variables are at least 0 exactly if the form is not negative.
use mathlib.Core.Path.{◌≡◌, refl}
use mathlib.Core.Bool.{true}
use mathlib.Core.List.Memᴰ
use mathlib.Core.List.{List, ◌∷◌, ◌++◌, map}
use Prim.Native.Nat.{◌≤◌}
use native.Mathlib.Omega.{arith}
use lib.IntN.{ℤ, pos}
use lib.ListN.{length, length-map, replicate}
use lib.Signed.{non_neg}
use Rattle.theory.specs.Lists.{◌∈◌}
use Rattle.theory.specs.Text.{Bytes}
use Rattle.theory.specs.Forms.{Form}
use Rattle.theory.specs.Packs.{variable_limit}
use Rattle.theory.specs.Residuals.{residual_numbers, is_justified}
use Rattle.theory.specs.Limits.{NonNegative}
use Rattle.groundwork.proofs.Order.{nonneg_test, test_nonneg}
use Rattle.theory.proofs.Reading.Every.{every_first, every_cons, every_member, members_every, every_append, every_taken, every_take, every_replicate}

-- the numbers that are not zeros put after
abbrev own : List Bytes → Form → List ℤ
own xs f = f.constant ∷ map f.coefficient xs

pub justified_nonnegative : (xs : List Bytes) (f : Form) → length xs ≤ variable_limit → is_justified (residual_numbers xs f) ≡ true → NonNegative xs f
unfolding is_justified residual_numbers
justified_nonnegative xs f few h =
    let all = every_taken non_neg 17 (own xs f) (replicate 16 (pos 0)) (omega (arith, length-map xs f.coefficient)) h in
    record {
      constant = nonneg_test f.constant (every_first non_neg f.constant (map f.coefficient xs) all);
      coefficient = λ x m. nonneg_test (f.coefficient x) (every_member non_neg all (Memᴰ.tail (Memᴰ.map f.coefficient m)));
    }

pub nonnegative_justified : (xs : List Bytes) (f : Form) → NonNegative xs f → is_justified (residual_numbers xs f) ≡ true
unfolding is_justified residual_numbers
nonnegative_justified xs f h =
    let zeros = replicate 16 (pos 0) in
    let none_below = every_cons non_neg f.constant (map f.coefficient xs) (test_nonneg f.constant h.constant) (members_every non_neg (map f.coefficient xs) coefficients) in
    every_take non_neg 17 (own xs f ++ zeros) (every_append non_neg (own xs f) zeros none_below (every_replicate non_neg 16 (pos 0) refl))
  where
    coefficients : (z : ℤ) → z ∈ map f.coefficient xs → non_neg z ≡ true
    coefficients z m = let found = Memᴰ.of_map f.coefficient xs m in rw (← found.2) (test_nonneg (f.coefficient found.0) (h.coefficient found.0 found.1))
