-- Members of a list whose first element is kept only if it passes a test.
use mathlib.Core.Path.{◌≡◌, refl}
use mathlib.Core.Bool.{Bool, true, false, cond}
use mathlib.Core.Logic.{◌⊎◌, inl, inr}
use mathlib.Core.List.Memᴰ
use mathlib.Core.List.{List, ◌∷◌}
use Rattle.groundwork.proofs.Truth.{never_both}
use Rattle.theory.specs.Lists.{◌∈◌}

module _ {A : Type 0} where
  abbrev pub kept : Bool → A → List A → List A
  kept test first rest = cond test (first ∷ rest) rest

  pub kept_first : {a : A} (test : Bool) (first : A) (rest : List A) → a ≡ first → test ≡ true → a ∈ kept test first rest
  kept_first true first rest is e = Memᴰ.head is
  kept_first false first rest is e = never_both e refl

  pub kept_rest : {a : A} (test : Bool) (first : A) (rest : List A) → a ∈ rest → a ∈ kept test first rest
  kept_rest true first rest m = Memᴰ.tail m
  kept_rest false first rest m = m

  pub kept_cases : {a : A} (test : Bool) (first : A) (rest : List A) → a ∈ kept test first rest → ((a ≡ first) × (test ≡ true)) ⊎ (a ∈ rest)
  kept_cases true first rest (Memᴰ.head e) = inl (e, refl)
  kept_cases true first rest (Memᴰ.tail m) = inr m
  kept_cases false first rest m = inr m
