-- The three things that `reservation` may say of a pack and a query, in words. Exactly one of them holds, and it says that one.
use mathlib.Core.Path.{◌≡◌, refl, sym, ap, subst, subst₂}
use mathlib.Core.Logic.{◌↔◌}
use mathlib.Core.List.Memᴰ
use mathlib.Core.List.{List, [], ◌∷◌}
use Prim.Native.Nat.{ℕ}
use Prim.Native.Char.{code}
use native.Mathlib.Omega.{arith}
use lib.IntN.{ℤ, pos}
use lib.Signed.{◌≤ℤ◌, ◌<ℤ◌, lt_z_yes, lt_z_no, clash_ℤ}
use Rattle.groundwork.proofs.Truth.{true_from, holds_from, fails_from, by_truth}
use Rattle.theory.specs.Lists.{◌∈◌}
use Rattle.theory.specs.Packs.{Claim, Pack, claims_on}
use Rattle.theory.specs.Reserve.{Query, query_key, numerator, Fields, fields, Usable, usable_from, impossibles, smallest, bounded, impossible_or, reservation}
use Rattle.theory.specs.SmallestBound.{numerator_of, IsBound, UsableClaim, BoundGiven, ImpossibleBy, NoneUsable}
use Rattle.theory.proofs.Reserving.ClaimWords.{usable_told, usable_passes, numerator_told, bound_told, bound_only}
use Rattle.theory.proofs.Reserving.UsableClaims.{entry, usable_listed, listed_usable, is_impossible, Ascending, ascending_rest, ascending_first, usable_ascending, impossible_listed, listed_impossible, impossible_ascending, smallest_is}

-- which of the three some fields say
pub data Says (p : Pack) (q : Query) : Fields → Type 0 where
  bound : {b n : ℕ} → BoundGiven p q b n → Says p q (fields (code "B") b n)
  impossible : {n : ℕ} → ImpossibleBy p q n → Says p q (fields (code "I") 0 n)
  no_bound : NoneUsable p q → Says p q (fields (code "N") 0 0)

-- ---- one of them holds

-- a list of the usable claims, in their order
record Lists (p : Pack) (q : Query) (us : List Usable) : Type 0 where
  usable : (u : Usable) → u ∈ us → UsableClaim p q u.number u.claim
  listed : (n : ℕ) (c : Claim) → UsableClaim p q n c → entry n c ∈ us
  ascending : Ascending 1 us

usables : (p : Pack) (q : Query) → Lists p q (usable_from 1 q (claims_on (query_key q) p.claims))
usables p q =
    let cs = claims_on (query_key q) p.claims in
    record {
      usable = λ u m. let found = listed_usable q 1 cs u m in record { numbered = found.0; is_usable = usable_told q u.claim found.1 };
      listed = λ n c h. usable_listed q 1 cs n c h.numbered (usable_passes q c h.is_usable);
      ascending = usable_ascending q 1 cs;
    }

module _ (p : Pack) (q : Query) where
  says_bound : (us : List Usable) → Lists p q us → ((m : ℕ) (c : Claim) → UsableClaim p q m c → pos 0 ≤ℤ numerator_of q c) → Says p q (bounded q us)
  unfolding bounded
  says_bound [] l possible = no_bound (record { none = λ m c h. Memᴰ.not-nil (l.listed m c h) })
  says_bound (u ∷ us) l possible =
      let best = smallest q u us in
      let is = smallest_is q u us (ascending_rest l.ascending) in
      bound (record {
        claim = best.claim;
        usable = l.usable best is.member;
        is_bound = bound_told q best.claim (l.usable best is.member).is_usable (possible best.number best.claim (l.usable best is.member));
        possible = possible;
        least = λ m c h b given. omega (arith, (is.precedes (entry m c) (l.listed m c h)).least, bound_only q c h.is_usable b given);
        lowest = λ m c h given. (is.precedes (entry m c) (l.listed m c h)).lowest (bound_only q c h.is_usable _ given);
      })

  says_listed : (us : List Usable) → Lists p q us → Says p q (impossible_or (bounded q us) (impossibles q us))
  unfolding impossible_or
  says_listed us l = go (impossibles q us) refl
    where
      go : (found : List Usable) → impossibles q us ≡ found → Says p q (impossible_or (bounded q us) found)
      go [] e =
          says_bound us l (λ m c h.
          subst (λ (z : ℤ). pos 0 ≤ℤ z) (numerator_told q c) (by_truth (λ _. pos 0 ≤ℤ numerator q c) (is_impossible q c)
          (λ i. absurd (Memᴰ.not-nil (subst (λ found. entry m c ∈ found) e (impossible_listed q (entry m c) (l.listed m c h) i))))
          (λ i. lt_z_no (fails_from _ i))))
      go (u ∷ rest) e =
          let member = listed_impossible q us u (subst (λ found. u ∈ found) (sym e) (Memᴰ.head refl)) in
          let ascending = subst (Ascending 1) e (impossible_ascending q l.ascending) in
          impossible (record {
            claim = u.claim;
            usable = l.usable u member.0;
            negative = subst (λ (z : ℤ). z <ℤ pos 0) (numerator_told q u.claim) (lt_z_yes (holds_from _ member.1));
            lowest = λ m c h i. ascending_first ascending (subst (λ found. entry m c ∈ found) e (impossible_listed q (entry m c) (l.listed m c h) (rw (numerator_told q c) (true_from _ i.lt))));
          })

  pub reservation_says : Says p q (reservation p q)
  unfolding reservation
  reservation_says = says_listed _ (usables p q)

  -- ---- and only one

  bound_alone : {b n c m : ℕ} → BoundGiven p q b n → BoundGiven p q c m → fields (code "B") b n ≡ fields (code "B") c m
  bound_alone {b} {n} {c} {m} h k =
      let same : b ≡ c = omega (arith, h.least m k.claim k.usable c k.is_bound, k.least n h.claim h.usable b h.is_bound) in
      let number : n ≡ m = omega (arith, h.lowest m k.claim k.usable (subst (IsBound q k.claim) (sym same) k.is_bound), k.lowest n h.claim h.usable (subst (IsBound q h.claim) same h.is_bound)) in
      cc

  impossible_alone : {n m : ℕ} → ImpossibleBy p q n → ImpossibleBy p q m → n ≡ m
  impossible_alone {n} {m} h k = omega (arith, h.lowest m k.claim k.usable k.negative, k.lowest n h.claim h.usable h.negative)

  bound_possible : {b n m : ℕ} → BoundGiven p q b n → ImpossibleBy p q m → ⊥
  bound_possible {m = m} h k = clash_ℤ k.negative (h.possible m k.claim k.usable)

  says_one : {x y : Fields} → Says p q x → Says p q y → x ≡ y
  says_one (bound h) (bound k) = bound_alone h k
  says_one (bound h) (impossible k) = absurd (bound_possible h k)
  says_one (bound h) (no_bound k) = absurd (k.none _ _ h.usable)
  says_one (impossible h) (bound k) = absurd (bound_possible k h)
  says_one (impossible h) (impossible k) = ap (fields (code "I") 0) (impossible_alone h k)
  says_one (impossible h) (no_bound k) = absurd (k.none _ _ h.usable)
  says_one (no_bound h) (bound k) = absurd (h.none _ _ k.usable)
  says_one (no_bound h) (impossible k) = absurd (h.none _ _ k.usable)
  says_one (no_bound h) (no_bound k) = refl

  -- ---- by the fields

  same_letter : {x y : Fields} → x ≡ y → x.letter ≡ y.letter
  same_letter e = ap (λ (x : Fields). x.letter) e

  bound_from_lem : {b n : ℕ} {x : Fields} → Says p q x → x ≡ fields (code "B") b n → BoundGiven p q b n
  bound_from_lem (bound h) e = subst₂ (BoundGiven p q) (ap (λ (x : Fields). x.middle) e) (ap (λ (x : Fields). x.claim) e) h
  bound_from_lem (impossible h) e = absurd (omega (arith, same_letter e))
  bound_from_lem (no_bound h) e = absurd (omega (arith, same_letter e))

  impossible_from : {n : ℕ} {x : Fields} → Says p q x → x ≡ fields (code "I") 0 n → ImpossibleBy p q n
  impossible_from (bound h) e = absurd (omega (arith, same_letter e))
  impossible_from (impossible h) e = subst (ImpossibleBy p q) (ap (λ (x : Fields). x.claim) e) h
  impossible_from (no_bound h) e = absurd (omega (arith, same_letter e))

  none_from : {x : Fields} → Says p q x → x ≡ fields (code "N") 0 0 → NoneUsable p q
  none_from (bound h) e = absurd (omega (arith, same_letter e))
  none_from (impossible h) e = absurd (omega (arith, same_letter e))
  none_from (no_bound h) e = h

  -- an answer with the letter of "impossible" has no middle field
  pub impossible_letter : {x : Fields} → Says p q x → x.letter ≡ code "I" → x ≡ fields (code "I") 0 x.claim
  impossible_letter (bound h) e = absurd (omega arith)
  impossible_letter (impossible h) e = refl
  impossible_letter (no_bound h) e = absurd (omega arith)

  pub bound_exactly : (b n : ℕ) → (reservation p q ≡ fields (code "B") b n) ↔ BoundGiven p q b n
  bound_exactly b n = (bound_from_lem reservation_says, λ h. says_one reservation_says (bound h))

  pub impossible_exactly : (n : ℕ) → (reservation p q ≡ fields (code "I") 0 n) ↔ ImpossibleBy p q n
  impossible_exactly n = (impossible_from reservation_says, λ h. says_one reservation_says (impossible h))

  pub none_exactly : (reservation p q ≡ fields (code "N") 0 0) ↔ NoneUsable p q
  none_exactly = (none_from reservation_says, λ h. says_one reservation_says (no_bound h))
