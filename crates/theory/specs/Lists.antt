-- Words on lists, and on values that may be missing, that the other files use.
use Rattle.std.specs.Prelude.{Bool, true, false, cond, ◌&&◌, ◌||◌, ℕ, zero, suc, ◌+◌, ℤ, pos, ◌+ℤ◌, length, drop}
use mathlib.Core.List.{List, [], ◌∷◌, ◌++◌, Memᴰ}
use Rattle.std.proofs.Math.Option.{Option, some, none}

-- a is one of l
infix 50 ◌∈◌
abbrev pub ◌∈◌ : {A : Type 0} → A → List A → Type 0
◌∈◌ a l = Memᴰ a l

-- the test holds of each element
unfoldable pub every {ℓ} : {A : Type ℓ} → (A → Bool) → List A → Bool
every test [] = true
every test (a ∷ rest) = test a && every test rest

-- the test holds of some element
unfoldable pub any {ℓ} : {A : Type ℓ} → (A → Bool) → List A → Bool
any test [] = false
any test (a ∷ rest) = test a || any test rest

-- the elements of which the test holds, in their order
unfoldable pub passing : {A : Type 0} → (A → Bool) → List A → List A
passing test [] = []
passing test (a ∷ rest) = cond (test a) (a ∷ passing test rest) (passing test rest)

unfoldable pub is_empty {ℓ} : {A : Type ℓ} → List A → Bool
is_empty [] = true
is_empty (a ∷ rest) = false

unfoldable pub is_some {ℓ} : {A : Type ℓ} → Option A → Bool
is_some none = false
is_some (some a) = true

-- a list with one element more, at its end
abbrev pub ending : {A : Type 0} → A → List A → List A
ending a l = l ++ (a ∷ [])

unfoldable pub total : List ℕ → ℕ
total [] = 0
total (n ∷ ns) = n + total ns

-- the sum of a number for each of the first n places, from 0
unfoldable pub summed : ℕ → (ℕ → ℤ) → ℤ
summed zero number = pos 0
summed (suc n) number = number 0 +ℤ summed n (λ i. number (suc i))

-- a list laid over the first elements of another, whose rest is unchanged
abbrev pub over : {A : Type 0} → List A → List A → List A
over l rest = l ++ drop (length l) rest
