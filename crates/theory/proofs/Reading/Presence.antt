-- Whether there is a value, and whether a list is empty: the tests, and what they say.
use mathlib.Core.Path.{◌≡◌, refl}
use mathlib.Core.Bool.{true, false}
use mathlib.Core.List.{List, [], ◌∷◌, ◌++◌}
use mathlib.Core.Option.{Option, some, none}
use Rattle.theory.specs.Lists.{is_some, is_empty}
use Rattle.groundwork.proofs.Truth.{never_both}

module _ {A : Type 0} where
  pub some_is : (o : Option A) (a : A) → o ≡ some a → is_some o ≡ true
  unfolding is_some
  some_is o a e = rw e

  pub none_is : (o : Option A) → o ≡ none → is_some o ≡ false
  unfolding is_some
  none_is o e = rw e

  pub is_none_lem : (o : Option A) → is_some o ≡ false → o ≡ none
  unfolding is_some
  is_none_lem none e = refl
  is_none_lem (some a) e = never_both refl e

  pub is_some_lem : (o : Option A) → is_some o ≡ true → (a : A) × (o ≡ some a)
  unfolding is_some
  is_some_lem none e = never_both e refl
  is_some_lem (some a) e = (a, refl)

  pub empty_is : (l : List A) → l ≡ [] → is_empty l ≡ true
  unfolding is_empty
  empty_is l e = rw e

  pub is_empty_lem : (l : List A) → is_empty l ≡ true → l ≡ []
  unfolding is_empty
  is_empty_lem [] e = refl
  is_empty_lem (a ∷ l) e = never_both e refl

  pub filled_is : (l : List A) → (l ≡ [] → ⊥) → is_empty l ≡ false
  unfolding is_empty
  filled_is [] h = absurd (h refl)
  filled_is (a ∷ l) h = refl

  pub end_filled : (l : List A) (a : A) → is_empty (l ++ (a ∷ [])) ≡ false
  unfolding is_empty
  end_filled [] a = refl
  end_filled (b ∷ l) a = refl

  pub is_filled : (l : List A) → is_empty l ≡ false → l ≡ [] → ⊥
  is_filled l e h = never_both (empty_is l h) e
