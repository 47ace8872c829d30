-- The usable claims of a list with their numbers: which they are, which of them are impossible, and which has the smallest bound.
use mathlib.Core.Path.{◌≡◌, refl, sym, subst}
use mathlib.Core.Bool.{Bool, true, false, cond}
use mathlib.Core.Logic.{◌⊎◌, inl, inr}
use mathlib.Core.List.Memᴰ
use mathlib.Core.List.{List, [], ◌∷◌}
use Prim.Native.Nat.{ℕ, suc, ◌+◌, ◌-◌, ◌≤◌, ◌<◌}
use native.Mathlib.Nat.{le_refl, le_trans}
use native.Mathlib.Omega.{arith}
use lib.Dec.{eqb, ltb}
use lib.IntN.{pos}
use lib.Signed.{lt_z}
use Rattle.groundwork.proofs.Lists.{get_d_member, all_cons}
use Rattle.groundwork.proofs.Truth.{by_truth, ltb-lt, ltb-ge, eqb-equal, eqb-unequal}
use Rattle.theory.specs.Lists.{◌∈◌}
use Rattle.theory.specs.Packs.{Claim, no_claim}
use Rattle.theory.specs.Reserve.{Query, is_usable, numerator, bound_by, Usable, usable_from, impossibles, smallest}
use Rattle.theory.specs.SmallestBound.{NumberedFrom}
use Rattle.theory.proofs.Reading.Kept.{kept, kept_first, kept_rest, kept_cases}

-- ---- which they are

pub numbered_member : {k : ℕ} {cs : List Claim} {n : ℕ} {c : Claim} → NumberedFrom k cs n c → c ∈ cs
numbered_member {k} {cs} {n} h = subst (λ d. d ∈ cs) h.is (get_d_member cs (n - k) no_claim (omega (arith, h.low, h.high)))

-- a claim with its number
abbrev pub entry : ℕ → Claim → Usable
entry n c = record { number = n; claim = c }

numbered_first : (k : ℕ) (c : Claim) (cs : List Claim) → NumberedFrom k (c ∷ cs) k c
numbered_first k c cs = let place : k - k ≡ 0 = omega arith in record { low = omega arith; high = omega arith; is = rw place }

numbered_after : (k : ℕ) (d : Claim) (cs : List Claim) (n : ℕ) (c : Claim) → NumberedFrom (k + 1) cs n c → NumberedFrom k (d ∷ cs) n c
numbered_after k d cs n c h =
    let place : n - k ≡ suc (n - (k + 1)) = omega (arith, h.low) in
    record { low = omega (arith, h.low); high = omega (arith, h.high); is = rw place h.is }

numbered_cases : (k : ℕ) (d : Claim) (cs : List Claim) (n : ℕ) (c : Claim) → NumberedFrom k (d ∷ cs) n c → ((n ≡ k) × (c ≡ d)) ⊎ NumberedFrom (k + 1) cs n c
numbered_cases k d cs n c h =
    by_truth (λ _. ((n ≡ k) × (c ≡ d)) ⊎ NumberedFrom (k + 1) cs n c) (eqb n k)
    (λ same. let place : n - k ≡ 0 = omega (arith, eqb-equal n k same) in inl (eqb-equal n k same, sym (rw place at h.is)))
    (λ other.
    let above : k < n = omega (arith, h.low, eqb-unequal n k other) in
    let place : n - k ≡ suc (n - (k + 1)) = omega arith in
    inr (record { low = omega arith; high = omega (arith, h.high); is = rw place at h.is }))

module _ (q : Query) where
  pub usable_listed : (k : ℕ) (cs : List Claim) (n : ℕ) (c : Claim) → NumberedFrom k cs n c → is_usable q c ≡ true → entry n c ∈ usable_from k q cs
  unfolding usable_from
  usable_listed k [] n c h e = absurd (omega (arith, h.low, h.high))
  usable_listed k (d ∷ cs) n c h e = step (λ below. usable_listed (k + 1) cs n c below e) (numbered_cases k d cs n c h)
    where
      step : (NumberedFrom (k + 1) cs n c → entry n c ∈ usable_from (k + 1) q cs) → ((n ≡ k) × (c ≡ d)) ⊎ NumberedFrom (k + 1) cs n c → entry n c ∈ usable_from k q (d ∷ cs)
      step listed (inl here) = kept_first (is_usable q d) (entry k d) _ (cc (here.0, here.1)) (rw here.1 at e)
      step listed (inr there) = kept_rest (is_usable q d) (entry k d) _ (listed there)

  pub listed_usable : (k : ℕ) (cs : List Claim) (u : Usable) → u ∈ usable_from k q cs → NumberedFrom k cs u.number u.claim × (is_usable q u.claim ≡ true)
  unfolding usable_from
  listed_usable k [] u m = absurd (Memᴰ.not-nil m)
  listed_usable k (d ∷ cs) u m = step (listed_usable (k + 1) cs u) (kept_cases (is_usable q d) (entry k d) _ m)
    where
      Wanted : List Claim → ℕ → Usable → Type 0
      Wanted l from v = NumberedFrom from l v.number v.claim × (is_usable q v.claim ≡ true)

      step : (u ∈ usable_from (k + 1) q cs → Wanted cs (k + 1) u) → ((u ≡ entry k d) × (is_usable q d ≡ true)) ⊎ (u ∈ usable_from (k + 1) q cs) → Wanted (d ∷ cs) k u
      step below (inl here) = subst (Wanted (d ∷ cs) k) (sym here.0) (numbered_first k d cs, here.1)
      step below (inr there) = let found = below there in (numbered_after k d cs u.number u.claim found.0, found.1)

-- ---- their order

-- their numbers go up, from k or more
pub data Ascending : ℕ → List Usable → Type 0 where
  end : {k : ℕ} → Ascending k []
  next : {k : ℕ} {u : Usable} {us : List Usable} → k ≤ u.number → Ascending (u.number + 1) us → Ascending k (u ∷ us)

ascending_below : {j k : ℕ} {us : List Usable} → j ≤ k → Ascending k us → Ascending j us
ascending_below h end = end
ascending_below h (next l a) = next (le_trans h l) a

ascending_low : {k : ℕ} {u : Usable} {us : List Usable} → Ascending k us → u ∈ us → k ≤ u.number
ascending_low end m = elim m [ ]
ascending_low (next l a) (Memᴰ.head e) = rw e l
ascending_low {u = u} (next l a) (Memᴰ.tail m) = let above = ascending_low a m in omega arith

pub ascending_rest : {k : ℕ} {u : Usable} {us : List Usable} → Ascending k (u ∷ us) → Ascending (u.number + 1) us
ascending_rest (next l a) = a

pub ascending_first : {k : ℕ} {u v : Usable} {us : List Usable} → Ascending k (u ∷ us) → v ∈ (u ∷ us) → u.number ≤ v.number
ascending_first (next {u = u} l a) m = ascending_low (next (le_refl u.number) a) m

ascending_kept : {k : ℕ} (test : Bool) (u : Usable) (us : List Usable) → k ≤ u.number → Ascending (u.number + 1) us → Ascending k (kept test u us)
ascending_kept true u us h a = next h a
ascending_kept false u us h a = ascending_below (omega arith) a

pub usable_ascending : (q : Query) (k : ℕ) (cs : List Claim) → Ascending k (usable_from k q cs)
unfolding usable_from
usable_ascending q k [] = end
usable_ascending q k (c ∷ cs) = ascending_kept (is_usable q c) (entry k c) _ (omega arith) (usable_ascending q (k + 1) cs)

-- ---- the impossible ones

-- the numerator is below 0
abbrev pub is_impossible : Query → Claim → Bool
is_impossible q c = lt_z (numerator q c) (pos 0)

module _ (q : Query) where
  pub impossible_listed : (u : Usable) {us : List Usable} → u ∈ us → is_impossible q u.claim ≡ true → u ∈ impossibles q us
  unfolding impossibles
  impossible_listed u (Memᴰ.head {x = v} e) i = kept_first _ v _ e (rw e at i)
  impossible_listed u (Memᴰ.tail {x = v} m) i = kept_rest (is_impossible q v.claim) v _ (impossible_listed u m i)

  pub listed_impossible : (us : List Usable) (u : Usable) → u ∈ impossibles q us → (u ∈ us) × (is_impossible q u.claim ≡ true)
  unfolding impossibles
  listed_impossible [] u m = absurd (Memᴰ.not-nil m)
  listed_impossible (v ∷ us) u m = step (listed_impossible us u) (kept_cases _ v _ m)
    where
      step : (u ∈ impossibles q us → (u ∈ us) × (is_impossible q u.claim ≡ true)) → ((u ≡ v) × (is_impossible q v.claim ≡ true)) ⊎ (u ∈ impossibles q us)
          → (u ∈ (v ∷ us)) × (is_impossible q u.claim ≡ true)
      step below (inl here) = (Memᴰ.head here.0, rw here.0 here.1)
      step below (inr there) = let found = below there in (Memᴰ.tail found.0, found.1)

  pub impossible_ascending : {k : ℕ} {us : List Usable} → Ascending k us → Ascending k (impossibles q us)
  unfolding impossibles
  impossible_ascending end = end
  impossible_ascending (next {u = u} l a) = ascending_kept (is_impossible q u.claim) u _ l (impossible_ascending a)

-- ---- the smallest bound

module _ (q : Query) where
  -- s has a smaller bound than u; or the same, and no larger number
  pub record Precedes (s u : Usable) : Type 0 where
    pub least : bound_by q s.claim ≤ bound_by q u.claim
    pub lowest : bound_by q u.claim ≡ bound_by q s.claim → s.number ≤ u.number

  precedes_refl : (u : Usable) → Precedes u u
  precedes_refl u = record { least = omega arith; lowest = λ e. omega arith }

  precedes_trans : {s u w : Usable} → Precedes s u → Precedes u w → Precedes s w
  precedes_trans {s} {u} {w} h k = record { least = omega (arith, h.least, k.least); lowest = lowest }
    where
      lowest : bound_by q w.claim ≡ bound_by q s.claim → s.number ≤ w.number
      lowest e = omega (arith, h.lowest (omega (arith, h.least, k.least)), k.lowest (omega (arith, h.least, k.least)))

  precedes_larger : (s u : Usable) → ltb (bound_by q s.claim) (bound_by q u.claim) ≡ true → Precedes s u
  precedes_larger s u e = let h = ltb-lt (bound_by q s.claim) (bound_by q u.claim) e in record { least = omega arith; lowest = λ same. absurd (omega arith) }

  precedes_later : (s u : Usable) → s.number + 1 ≤ u.number → ltb (bound_by q u.claim) (bound_by q s.claim) ≡ false → Precedes s u
  precedes_later s u l e = record { least = ltb-ge (bound_by q u.claim) (bound_by q s.claim) e; lowest = λ same. omega arith }

  pub record Smallest (us : List Usable) (s : Usable) : Type 0 where
    pub member : s ∈ us
    pub precedes : (u : Usable) → u ∈ us → Precedes s u

  -- one more, which another of them precedes
  smallest_in_front : {u v s : Usable} {us : List Usable} → Precedes v u → Smallest (v ∷ us) s → Smallest (u ∷ v ∷ us) s
  smallest_in_front {v = v} h b =
      record { member = Memᴰ.tail b.member; precedes = all_cons (Precedes _) (precedes_trans (b.precedes v (Memᴰ.head refl)) h) b.precedes }

  smallest_second : {u v s : Usable} {us : List Usable} → Precedes u v → Smallest (u ∷ us) s → Smallest (u ∷ v ∷ us) s
  smallest_second {u} {v} {s} {us} h b = record {
    member = past b.member;
    precedes =
        let first = b.precedes u (Memᴰ.head refl) in
        all_cons (Precedes _) first (all_cons (Precedes _) (precedes_trans first h) (λ w m. b.precedes w (Memᴰ.tail m)));
  }
    where
      past : s ∈ (u ∷ us) → s ∈ (u ∷ v ∷ us)
      past (Memᴰ.head e) = Memᴰ.head e
      past (Memᴰ.tail m) = Memᴰ.tail (Memᴰ.tail m)

  pub smallest_is : (u : Usable) (us : List Usable) → Ascending (u.number + 1) us → Smallest (u ∷ us) (smallest q u us)
  unfolding smallest
  smallest_is u [] a = record { member = Memᴰ.head refl; precedes = all_cons (Precedes _) (precedes_refl u) (λ w m. absurd (Memᴰ.not-nil m)) }
  smallest_is u (v ∷ us) (next l a) =
      by_truth (λ t. Smallest (u ∷ v ∷ us) (smallest q (cond t v u) us)) (ltb (bound_by q v.claim) (bound_by q u.claim))
      (λ smaller. smallest_in_front (precedes_larger v u smaller) (smallest_is v us a))
      (λ other. smallest_second (precedes_later u v l other) (smallest_is u us (ascending_below (omega arith) a)))
