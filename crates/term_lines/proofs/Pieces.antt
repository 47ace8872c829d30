-- What the pieces of a clause's lines are on a page: a letter and a name, a symbol with no arguments yet, a fresh variable.
use mathlib.Core.Path.{refl}
use mathlib.Core.List.{[], ◌∷◌, ◌++◌, append_assoc}
use Prim.Native.Nat.{ℕ, ◌+◌}
use native.Mathlib.Omega.{arith}
use lib.ListN.{length}
use Rattle.theory.specs.Text.{Bytes, decimal}
use Rattle.clause_theory.specs.Import.{numbered_variable}
use Rattle.pages.specs.Pages.{PutAt}
use Rattle.pages.proofs.Places.{put_then}

pub front_put : {x page₀ page next last : Bytes} {n to q r s : ℕ} (l : ℕ) → PutAt (l ∷ []) 1 page₀ page to q → PutAt (44 ∷ []) 1 page next q r → PutAt x n next last r s → PutAt (l ∷ 44 ∷ x) (n + 2) page₀ last to s
front_put {x} {n = n} l first second third = put_then (l ∷ 44 ∷ x) (n + 2) refl (omega arith) (put_then (l ∷ 44 ∷ []) 2 refl refl first second) third

pub bare_put : {x page₀ page next last : Bytes} {n to q r s : ℕ} → PutAt x n page₀ page to q → PutAt (47 ∷ []) 1 page next q r → PutAt (48 ∷ []) 1 next last r s → PutAt (x ++ (47 ∷ 48 ∷ [])) (n + 2) page₀ last to s
bare_put {x} {n = n} first second third = put_then (x ++ (47 ∷ 48 ∷ [])) (n + 2) (append_assoc x (47 ∷ []) (48 ∷ [])) (omega arith) (put_then (x ++ (47 ∷ [])) (n + 1) refl refl first second) third

pub numbered_put : {page₀ page last : Bytes} {to q r : ℕ} (n : ℕ) → PutAt (86 ∷ []) 1 page₀ page to q → PutAt (decimal n) (length (decimal n)) page last q r → PutAt (numbered_variable n) (length (decimal n) + 1) page₀ last to r
unfolding numbered_variable
numbered_put n first second = put_then (86 ∷ decimal n) (length (decimal n) + 1) refl (omega arith) first second
