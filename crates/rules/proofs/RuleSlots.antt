-- The slots of a rule's claims on its subgoals, with one subgoal more: those that there were, and the claims on the new one.
use mathlib.Core.Path.{◌≡◌, refl, sym, ◌∙◌, ap}
use mathlib.Core.List.{List, [], ◌∷◌, ◌++◌, map, append_assoc, append-nil}
use Prim.Native.Nat.{ℕ, ◌+◌, ◌-◌, ◌≤◌, ◌<◌}
use native.Mathlib.Nat.{zero-add}
use native.Mathlib.Omega.{arith}
use lib.Dec.{eqb, ltb}
use lib.IntN.{ℤ}
use lib.ListN.{length, get_or, length-append, length-map, get_or-append, get_or-map}
use lib.Seq.{get_or-append_seam, get_or-append-add}
use Rattle.groundwork.proofs.Lists.{flat_map_end, length_end}
use Rattle.groundwork.proofs.Truth.{by_truth, eqb-equal, eqb-unequal, ltb-lt, ltb-ge}
use Rattle.theory.specs.Terms.{arity}
use Rattle.theory.specs.Sizes.{Measure}
use Rattle.theory.specs.Forms.{zero_form, plus, constant_form}
use Rattle.theory.specs.Packs.{Claim, Atom, atom_key, claims_on, claims_on_all, no_claim}
use Rattle.theory.specs.Residuals.{weighted, claim_form, subgoal_forms}
use Rattle.tables.specs.declared.Slot.{Slot}
use Rattle.tables.specs.Tables.{slot_at, slots_of, SafeSlots, ClaimAt, no_atom, SlotStands}
use Rattle.tables.proofs.SlotCounts.{slots_of_same, slots_of_most, slots_of_others}
use Rattle.rules.specs.Ends.{SlotsAdded}

-- what holds of the places below a, and of the next b, holds below a + b
pub below_sum : (P : ℕ → Type 0) (a b : ℕ) → ((k : ℕ) → k < a → P k) → ((j : ℕ) → j < b → P (a + j)) → (k : ℕ) → k < a + b → P k
below_sum P a b first next k inside = by_truth (λ t. P k) (ltb k a)
    (λ h. first k (ltb-lt k a h))
    (λ h.
    let beyond = ltb-ge k a h in
    let is : a + (k - a) ≡ k = omega arith in
    rw is at (next (k - a) (omega arith)))

-- ---- the claims and the forms of one subgoal more

pub claims_more : (cs : List Claim) (subgoals : List Atom) (a : Atom) → claims_on_all cs (subgoals ++ (a ∷ [])) ≡ claims_on_all cs subgoals ++ claims_on (atom_key a) cs
claims_more cs subgoals a = flat_map_end (λ (b : Atom). claims_on (atom_key b) cs) subgoals a

module _ (m : Measure) (cs : List Claim) where
  forms_more : (subgoals : List Atom) (a : Atom) → subgoal_forms m cs (subgoals ++ (a ∷ [])) ≡ subgoal_forms m cs subgoals ++ map (claim_form m a) (claims_on (atom_key a) cs)
  unfolding subgoal_forms
  forms_more [] a = append-nil _
  forms_more (b ∷ subgoals) a = ap (λ fs. map (claim_form m b) (claims_on (atom_key b) cs) ++ fs) (forms_more subgoals a) ∙ sym (append_assoc (map (claim_form m b) (claims_on (atom_key b) cs)) _ _)

  length_forms : (subgoals : List Atom) → length (subgoal_forms m cs subgoals) ≡ length (claims_on_all cs subgoals)
  unfolding subgoal_forms mathlib.Core.List.flat_map
  length_forms [] = refl
  length_forms (a ∷ subgoals) = omega (arith, length-append (map (claim_form m a) (claims_on (atom_key a) cs)) (subgoal_forms m cs subgoals), length-map (claims_on (atom_key a) cs) (claim_form m a), length-append (claims_on (atom_key a) cs) (claims_on_all cs subgoals), length_forms subgoals)

form_at : (m : Measure) (a : Atom) (cs : List Claim) (j : ℕ) → get_or (map (claim_form m a) cs) j zero_form ≡ claim_form m a (get_or cs j no_claim)
unfolding claim_form weighted plus constant_form zero_form no_claim
form_at m a cs j = get_or-map (claim_form m a) cs j no_claim

-- ---- the slots

module _ {m : Measure} (claims : List ℤ) (slots₀ slots : List Slot) (cs : List Claim) (subgoals : List Atom) (a : Atom) where
  pub slot_before : (k : ℕ) → k < length (claims_on_all cs subgoals) → slot_at slots k ≡ slot_at slots₀ k
      → SlotStands m claims slots₀ cs subgoals k → SlotStands m claims slots cs (subgoals ++ (a ∷ [])) k
  slot_before k inside same stands =
      let claim : get_or (claims_on_all cs (subgoals ++ (a ∷ []))) k no_claim ≡ get_or (claims_on_all cs subgoals) k no_claim = rw (claims_more cs subgoals a) (get_or-append (claims_on_all cs subgoals) (claims_on (atom_key a) cs) no_claim k inside) in
      let form : get_or (subgoal_forms m cs (subgoals ++ (a ∷ []))) k zero_form ≡ get_or (subgoal_forms m cs subgoals) k zero_form = rw (forms_more m cs subgoals a) (get_or-append (subgoal_forms m cs subgoals) _ zero_form k (omega (arith, length_forms m cs subgoals))) in
      let subgoal = get_or-append subgoals (a ∷ []) no_atom (slot_at slots₀ k).subgoal stands.subgoal in
      record {
        claim = rw (same, claim) stands.claim;
        subgoal = rw same (omega (arith, stands.subgoal, length_end subgoals a));
        form = rw (same, claim, subgoal) (form ∙ stands.form);
        full = rw (same, claim, subgoal) stands.full;
      }

  pub slot_after : (k j : ℕ) → k ≡ length (claims_on_all cs subgoals) + j → ClaimAt claims (slot_at slots k).place (get_or (claims_on (atom_key a) cs) j no_claim)
      → (slot_at slots k).subgoal ≡ length subgoals → length (get_or (claims_on (atom_key a) cs) j no_claim).coefficients ≡ arity a.terms → SlotStands m claims slots cs (subgoals ++ (a ∷ [])) k
  slot_after k j is stands of full =
      let claim : get_or (claims_on_all cs (subgoals ++ (a ∷ []))) k no_claim ≡ get_or (claims_on (atom_key a) cs) j no_claim = rw (claims_more cs subgoals a, is) (get_or-append-add (claims_on_all cs subgoals) (claims_on (atom_key a) cs) j no_claim) in
      let forms = map (claim_form m a) (claims_on (atom_key a) cs) in
      let form : get_or (subgoal_forms m cs (subgoals ++ (a ∷ []))) k zero_form ≡ get_or forms j zero_form = rw (forms_more m cs subgoals a, is, ← length_forms m cs subgoals) (get_or-append-add (subgoal_forms m cs subgoals) forms j zero_form) in
      let subgoal = get_or-append_seam subgoals a [] no_atom in
      record {
        claim = rw claim stands;
        subgoal = omega (arith, length_end subgoals a);
        form = rw (of, claim, subgoal) (form ∙ form_at m a (claims_on (atom_key a) cs) j);
        full = rw (of, claim, subgoal) full;
      }

-- ---- their ranges

module _ (slots₀ slots : List Slot) (from predicate count subgoal : ℕ) (place : predicate < 32) (few : count ≤ 16) (safe : SafeSlots slots₀ from subgoal) (laid : SlotsAdded slots₀ from predicate count subgoal slots) where
  added_of : (j : ℕ) → j < count → (slot_at slots (from + j)).subgoal ≡ subgoal
  added_of j here = ap (λ (slot : Slot). slot.subgoal) (laid.added j here)

  before_of : (k : ℕ) → k < from → (slot_at slots k).subgoal ≡ (slot_at slots₀ k).subgoal
  before_of k here = ap (λ (slot : Slot). slot.subgoal) (laid.before k here)

  -- the slots that there were are all of earlier subgoals
  few_of : (i : ℕ) → slots_of slots i (from + count) ≤ 16
  unfolding slots_of
  few_of i = by_truth (λ b. slots_of slots i (from + count) ≤ 16) (eqb i subgoal)
      (λ h.
      let none = slots_of_others slots₀ i 0 from (λ k here e. omega (arith, safe.subgoal (0 + k) (omega arith), eqb-equal i subgoal h)) in
      omega (arith, slots_of_most slots i from count, slots_of_same slots i slots₀ from before_of, ap (slots_of slots₀ i) (zero-add from)))
      (λ h.
      let others = slots_of_others slots i from count (λ j here e. eqb-unequal i subgoal h (sym e ∙ added_of j here)) in
      omega (arith, slots_of_same slots i slots₀ from before_of, safe.few i))

  pub slots_safe : SafeSlots slots (from + count) (subgoal + 1)
  slots_safe = record {
    place = below_sum (λ k. (slot_at slots k).place + 9 ≤ 4608) from count (λ k here. rw (laid.before k here) (safe.place k here)) (λ j here. rw (laid.added j here) (omega arith));
    subgoal = below_sum (λ k. (slot_at slots k).subgoal < subgoal + 1) from count (λ k here. rw (before_of k here) (omega (arith, safe.subgoal k here))) (λ j here. rw (added_of j here) (omega arith));
    few = few_of;
  }
