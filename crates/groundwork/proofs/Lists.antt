-- Laws on lists that the kit lacks: members of a flat_map, at an index; what holds of every member; lists by their end.
-- Members of a map are the kit's `Memᴰ·map` and `Memᴰ·of-map`; `map-append` is the kit's too (mathlib.Core.List).
use mathlib.Core.Path.{◌≡◌, refl, sym, ◌∙◌, ap, subst}
use mathlib.Core.Logic.{◌⊎◌, inl, inr, ⊎_elim}
use mathlib.Core.List.{List, [], ◌∷◌, ◌++◌, map, flat_map, append_assoc, append-nil, drop_last, drop_last-prefix, head-eq_of_cons-eq, tail-eq_of_cons-eq}
use mathlib.Core.List.Memᴰ
use mathlib.Core.List.{Memᴰ}
use Prim.Native.Nat.{ℕ, zero, suc, ◌*◌, ◌≤◌, ◌<◌}
use native.Mathlib.Omega.{arith}
use lib.ListN.{length, get_or, length-append, replicate}

-- ---- flat_map

module _ {ℓ κ} {A : Type ℓ} {B : Type κ} where
  pub flat_map_member : (f : A → List B) {a : A} {b : B} {l : List A} → Memᴰ a l → Memᴰ b (f a) → Memᴰ b (flat_map f l)
  unfolding flat_map
  flat_map_member f {b = b} (Memᴰ.head {xs = xs} e) m = Memᴰ.append_left (flat_map f xs) (subst (λ (y : A). Memᴰ b (f y)) e m)
  flat_map_member f (Memᴰ.tail {x = x} n) m = Memᴰ.append_right (f x) (flat_map_member f n m)

  pub flat_map_append : (f : A → List B) (s t : List A) → flat_map f (s ++ t) ≡ flat_map f s ++ flat_map f t
  unfolding flat_map
  flat_map_append f [] t = refl
  flat_map_append f (x ∷ s) t = ap (λ r. f x ++ r) (flat_map_append f s t) ∙ sym (append_assoc (f x) (flat_map f s) (flat_map f t))

  pub flat_map_end : (f : A → List B) (l : List A) (a : A) → flat_map f (l ++ (a ∷ [])) ≡ flat_map f l ++ f a
  unfolding flat_map
  flat_map_end f l a = flat_map_append f l (a ∷ []) ∙ ap (λ (r : List B). flat_map f l ++ r) (append-nil (f a))

  -- one element for each
  pub flat_map_single : (f : A → B) (l : List A) → flat_map (λ a. f a ∷ []) l ≡ map f l
  unfolding flat_map
  flat_map_single f [] = refl
  flat_map_single f (x ∷ l) = ap (λ r. f x ∷ r) (flat_map_single f l)

  pub length_flat_map : (f : A → List B) (bound : ℕ) (l : List A) → ((a : A) → Memᴰ a l → length (f a) ≤ bound) → length (flat_map f l) ≤ length l * bound
  unfolding flat_map
  length_flat_map f bound [] h = omega arith
  length_flat_map f bound (x ∷ l) h =
      omega (arith, length-append (f x) (flat_map f l), h x (Memᴰ.head refl), length_flat_map f bound l (λ a m. h a (Memᴰ.tail m)))

-- ---- a member and its place

module _ {ℓ} {A : Type ℓ} where
  pub get_d_member : (l : List A) (i : ℕ) (d : A) → i < length l → Memᴰ (get_or l i d) l
  get_d_member [] i d h = absurd (omega arith)
  get_d_member (x ∷ l) zero d h = Memᴰ.head refl
  get_d_member (x ∷ l) (suc i) d h = Memᴰ.tail (get_d_member l i d (omega arith))

  pub member_get_d : {a : A} {l : List A} (d : A) → Memᴰ a l → (i : ℕ) × (i < length l) × (get_or l i d ≡ a)
  member_get_d d (Memᴰ.head e) = (zero, omega arith, sym e)
  member_get_d d (Memᴰ.tail m) = let found = member_get_d d m in (suc found.0, omega (arith, found.1), found.2)

  -- ---- a list split at an element

  pub split_member : {l : List A} (before after : List A) (a : A) → l ≡ before ++ (a ∷ after) → Memᴰ a l
  split_member before after a e = subst (λ (k : List A). Memᴰ a k) (sym e) (Memᴰ.append_right before (Memᴰ.head refl))

  pub member_split : {a : A} {l : List A} → Memᴰ a l → (before : List A) × (after : List A) × (l ≡ before ++ (a ∷ after))
  member_split (Memᴰ.head {xs = xs} e) = ([], xs, ap (λ (b : A). b ∷ xs) (sym e))
  member_split (Memᴰ.tail {x = x} m) = let (before, after, is) = member_split m in (x ∷ before, after, ap (λ (rest : List A). x ∷ rest) is)

  pub split_shorter : {l : List A} (before after : List A) (a : A) → l ≡ before ++ (a ∷ after) → length before < length l
  split_shorter before after a e = omega (arith, ap length e, length-append before (a ∷ after))

  -- ---- one more at the end

  pub member_unempty : {a : A} {l : List A} → Memᴰ a l → l ≡ [] → ⊥
  member_unempty {a} m e = Memᴰ.not-nil (subst (λ (l : List A). Memᴰ a l) e m)

  pub length_end : (l : List A) (a : A) → length (l ++ (a ∷ [])) ≡ suc (length l)
  length_end l a = omega (arith, length-append l (a ∷ []))

  pub end_cases : {a b : A} (l : List A) → Memᴰ a (l ++ (b ∷ [])) → Memᴰ a l ⊎ (a ≡ b)
  end_cases {a} {b} l m = cases (Memᴰ.append_cases l m)
    where
      cases : Memᴰ a l ⊎ Memᴰ a (b ∷ []) → Memᴰ a l ⊎ (a ≡ b)
      cases (inl inside) = inl inside
      cases (inr last) = inr (Memᴰ.eq_of_singleton last)

  -- where an element of a longer list stands: at the end, or in the list itself
  pub end_split : (l before after : List A) (a b : A) → l ++ (b ∷ []) ≡ before ++ (a ∷ after) → ((before ≡ l) × (a ≡ b)) ⊎ ((rest : List A) × (l ≡ before ++ (a ∷ rest)))
  end_split [] [] after a b e = inl (refl, sym (head-eq_of_cons-eq e))
  end_split [] (x ∷ before) after a b e = absurd (member_unempty (Memᴰ.append_right before (Memᴰ.head refl)) (sym (tail-eq_of_cons-eq e)))
  end_split (y ∷ l) [] after a b e = inr (l, ap (λ (z : A). z ∷ l) (head-eq_of_cons-eq e))
  end_split (y ∷ l) (x ∷ before) after a b e = further (end_split l before after a b (tail-eq_of_cons-eq e))
    where
      further : ((before ≡ l) × (a ≡ b)) ⊎ ((rest : List A) × (l ≡ before ++ (a ∷ rest))) → ((x ∷ before ≡ y ∷ l) × (a ≡ b)) ⊎ ((rest : List A) × (y ∷ l ≡ x ∷ before ++ (a ∷ rest)))
      further (inl same) = inl (λ i. sym (head-eq_of_cons-eq e) i ∷ same.0 i, same.1)
      further (inr found) = inr (found.0, λ i. head-eq_of_cons-eq e i ∷ found.1 i)

  -- ---- all but the last

  pub drop_last_end : (l : List A) (a : A) → drop_last (l ++ (a ∷ [])) ≡ l
  drop_last_end [] a = refl
  drop_last_end (x ∷ []) a = refl
  drop_last_end (x ∷ y ∷ l) a = ap (λ (r : List A). x ∷ r) (drop_last_end (y ∷ l) a)

  pub drop_last_member : {a : A} (l : List A) → Memᴰ a (drop_last l) → Memᴰ a l
  drop_last_member {a} l m = let found = drop_last-prefix l in subst (λ (k : List A). Memᴰ a k) found.1 (Memᴰ.append_left found.0 m)

  -- ---- growing

  -- what holds of no elements, and stays true when the next one of a list comes, holds of the list
  pub grown : (P : List A → Type 0) (l : List A) → ((before after : List A) (a : A) → l ≡ before ++ (a ∷ after) → P before → P (before ++ (a ∷ []))) → P [] → P l
  grown P l next none = from [] l refl none
    where
      from : (before after : List A) → l ≡ before ++ after → P before → P l
      from before [] e h = subst P (sym (e ∙ append-nil before)) h
      from before (a ∷ after) e h = from (before ++ (a ∷ [])) after (e ∙ sym (append_assoc before (a ∷ []) after)) (next before after a e h)

-- ---- what holds of every member

module _ {ℓ} {A : Type ℓ} (P : A → Type 0) where
  pub all_cons : {b : A} {l : List A} → P b → ((a : A) → Memᴰ a l → P a) → (a : A) → Memᴰ a (b ∷ l) → P a
  all_cons first rest a (Memᴰ.head e) = subst P (sym e) first
  all_cons first rest a (Memᴰ.tail m) = rest a m

  pub all_append : (l k : List A) → ((a : A) → Memᴰ a l → P a) → ((a : A) → Memᴰ a k → P a) → (a : A) → Memᴰ a (l ++ k) → P a
  all_append l k left right a m = ⊎_elim (left a) (right a) (Memᴰ.append_cases l m)

  pub all_end : (l : List A) (b : A) → ((a : A) → Memᴰ a l → P a) → P b → (a : A) → Memᴰ a (l ++ (b ∷ [])) → P a
  all_end l b inside last = all_append l (b ∷ []) inside (all_cons last (λ a m. absurd (Memᴰ.not-nil m)))

-- a list of one element over and over has it at every place, and as its default after the end
pub same_everywhere : {A : Type 0} (a : A) (n i : ℕ) → get_or (replicate n a) i a ≡ a
same_everywhere a zero i = refl
same_everywhere a (suc n) zero = refl
same_everywhere a (suc n) (suc i) = same_everywhere a n i
