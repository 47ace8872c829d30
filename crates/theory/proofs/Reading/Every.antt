-- A test of every member of a list, and of some member: what it says of each member, and of parts of the list.
use mathlib.Core.Path.{◌≡◌, refl, sym, ◌∙◌, ap}
use mathlib.Core.Bool.{Bool, true, false, ◌&&◌, ◌||◌, or-false, or_assoc}
use mathlib.Core.List.Memᴰ
use mathlib.Core.List.{List, [], ◌∷◌, ◌++◌}
use Prim.Native.Nat.{ℕ, zero, suc, ◌≤◌}
use native.Mathlib.Omega.{arith}
use lib.ListN.{length, take, replicate}
use Rattle.theory.specs.Lists.{every, any, ◌∈◌}
use Rattle.groundwork.proofs.Truth.{by_truth, never_both, and_left, and_right, and_both, or_left, or_right, or_not_left, or_not_right, or_neither}

module _ {A : Type 0} (test : A → Bool) where
  pub every_first : (a : A) (l : List A) → every test (a ∷ l) ≡ true → test a ≡ true
  unfolding every
  every_first a l h = and_left (test a) (every test l) h

  pub every_rest : (a : A) (l : List A) → every test (a ∷ l) ≡ true → every test l ≡ true
  unfolding every
  every_rest a l h = and_right (test a) (every test l) h

  pub every_cons : (a : A) (l : List A) → test a ≡ true → every test l ≡ true → every test (a ∷ l) ≡ true
  unfolding every
  every_cons a l h k = and_both (test a) (every test l) h k

  pub every_member : {a : A} {l : List A} → every test l ≡ true → a ∈ l → test a ≡ true
  every_member h (Memᴰ.head {x = x} {xs = l} e) = ap test e ∙ every_first x l h
  every_member h (Memᴰ.tail {x = x} {xs = l} m) = every_member (every_rest x l h) m

  pub members_every : (l : List A) → ((a : A) → a ∈ l → test a ≡ true) → every test l ≡ true
  unfolding every
  members_every [] h = refl
  members_every (a ∷ l) h = every_cons a l (h a (Memᴰ.head refl)) (members_every l λ b m. h b (Memᴰ.tail m))

  -- a class within another
  pub every_within : (wider : A → Bool) → ((a : A) → test a ≡ true → wider a ≡ true) → (l : List A) → every test l ≡ true → every wider l ≡ true
  unfolding every
  every_within wider within [] h = refl
  every_within wider within (a ∷ l) h =
      and_both (wider a) (every wider l) (within a (every_first a l h)) (every_within wider within l (every_rest a l h))

  -- ---- parts of the list

  pub every_append : (l k : List A) → every test l ≡ true → every test k ≡ true → every test (l ++ k) ≡ true
  every_append [] k h g = g
  every_append (a ∷ l) k h g = every_cons a (l ++ k) (every_first a l h) (every_append l k (every_rest a l h) g)

  -- the first n of some members and more, where the members are at most n
  pub every_taken : (n : ℕ) (l more : List A) → length l ≤ n → every test (take n (l ++ more)) ≡ true → every test l ≡ true
  unfolding every
  every_taken n [] more short h = refl
  every_taken zero (a ∷ l) more short h = absurd (omega arith)
  every_taken (suc n) (a ∷ l) more short h =
      every_cons a l (every_first a (take n (l ++ more)) h) (every_taken n l more (omega arith) (every_rest a (take n (l ++ more)) h))

  pub every_take : (n : ℕ) (l : List A) → every test l ≡ true → every test (take n l) ≡ true
  unfolding every
  every_take zero l h = refl
  every_take (suc n) [] h = refl
  every_take (suc n) (a ∷ l) h = every_cons a (take n l) (every_first a l h) (every_take n l (every_rest a l h))

  pub every_replicate : (n : ℕ) (a : A) → test a ≡ true → every test (replicate n a) ≡ true
  unfolding every
  every_replicate zero a h = refl
  every_replicate (suc n) a h = every_cons a (replicate n a) h (every_replicate n a h)

  -- not of every member: there is one of which it does not hold
  pub some_failing : (l : List A) → every test l ≡ false → (a : A) × (a ∈ l) × (test a ≡ false)
  unfolding every
  some_failing [] h = never_both refl h
  some_failing (a ∷ l) h =
      by_truth (λ (b : Bool). (b && every test l) ≡ false → (c : A) × (c ∈ (a ∷ l)) × (test c ≡ false)) (test a)
      (λ here h. let (c, m, fails) = some_failing l h in (c, Memᴰ.tail m, fails))
      (λ fails h. (a, Memᴰ.head refl, fails))
      h

  -- ---- of some member

  pub none_member : {a : A} {l : List A} → any test l ≡ false → a ∈ l → test a ≡ false
  unfolding any
  none_member h (Memᴰ.head {x = x} {xs = l} e) = ap test e ∙ or_not_left (test x) (any test l) h
  none_member h (Memᴰ.tail {x = x} {xs = l} m) = none_member (or_not_right (test x) (any test l) h) m

  pub members_none : (l : List A) → ((a : A) → a ∈ l → test a ≡ false) → any test l ≡ false
  unfolding any
  members_none [] h = refl
  members_none (a ∷ l) h = or_neither (test a) (any test l) (h a (Memᴰ.head refl)) (members_none l λ b m. h b (Memᴰ.tail m))

  pub any_found : (l : List A) → any test l ≡ true → (a : A) × (a ∈ l) × (test a ≡ true)
  unfolding any
  any_found [] h = never_both h refl
  any_found (a ∷ l) h =
      by_truth (λ (b : Bool). (b || any test l) ≡ true → (c : A) × (c ∈ (a ∷ l)) × (test c ≡ true)) (test a)
      (λ here h. (a, Memᴰ.head refl, here))
      (λ other h. let (c, m, here) = any_found l h in (c, Memᴰ.tail m, here))
      h

  pub any_member : {a : A} {l : List A} → test a ≡ true → a ∈ l → any test l ≡ true
  unfolding any
  any_member h (Memᴰ.head {x = x} {xs = l} e) = or_left (test x) (any test l) (ap test (sym e) ∙ h)
  any_member h (Memᴰ.tail {x = x} {xs = l} m) = or_right (test x) (any test l) (any_member h m)

  -- one member more, at the end
  pub any_end : (l : List A) (a : A) → any test (l ++ (a ∷ [])) ≡ (any test l || test a)
  unfolding any
  any_end [] a = or-false (test a)
  any_end (b ∷ l) a = ap (λ (c : Bool). test b || c) (any_end l a) ∙ sym (or_assoc (test b) (any test l) (test a))
