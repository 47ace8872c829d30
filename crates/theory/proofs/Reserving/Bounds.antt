-- What a usable claim says of a fact with a query's known sizes.
use mathlib.Core.Path.{◌≡◌, refl, sym, ◌∙◌, subst}
use mathlib.Core.Bool.{true}
use mathlib.Core.List.{List, [], ◌∷◌}
use mathlib.Core.Option.{Option, some, none, some-ne-none}
use Prim.Native.Nat.{ℕ, zero, suc, ◌/◌, ◌≤◌}
use native.Mathlib.Omega.{arith}
use lib.IntN.{ℤ, pos, negsuc, nat_abs, ◌+ℤ◌, ◌-ℤ◌, ◌*ℤ◌, +ℤ_assoc, +ℤ_comm}
use lib.ListN.{length, get_or}
use lib.Signed.{◌≤ℤ◌, le_z, lt_z, le_z_yes, ≤ℤ_refl}
use Rattle.groundwork.proofs.Truth.{ltb-lt, holds_from, and_left, and_right}
use Rattle.groundwork.proofs.Difference.{to-diff, by-naturals, by_diff₂, by_diff₃}
use Rattle.groundwork.proofs.Order.{≤ℤ_trans, +ℤ_mono, nonneg_rest, nonneg_pos, mul_nonneg, floor_bound, never_below}
use Rattle.theory.specs.Terms.{arity}
use Rattle.theory.specs.Sizes.{Measure, argument_sizes}
use Rattle.theory.specs.Packs.{Claim, Atom}
use Rattle.theory.specs.Reserve.{Query, size_given, unknowns_at_most_zero, known_part, asked_number, is_usable, numerator, bound_by, size_at}
use Rattle.theory.specs.Facts.{weighted_sizes, Meets}
use Rattle.theory.proofs.Soundness.Sizes.{length_sizes}

-- ---- sums over the arguments

-- for each argument a number, what is known of its size, and its size
data Sized : List ℤ → List (Option ℕ) → List ℕ → Type 0 where
  end : Sized [] [] []
  known : {c : ℤ} {s : ℕ} {cs : List ℤ} {qs : List (Option ℕ)} {ss : List ℕ} → Sized cs qs ss → Sized (c ∷ cs) (some s ∷ qs) (s ∷ ss)
  unknown : {c : ℤ} {s : ℕ} {cs : List ℤ} {qs : List (Option ℕ)} {ss : List ℕ} → Sized cs qs ss → Sized (c ∷ cs) (none ∷ qs) (s ∷ ss)

sized : (cs : List ℤ) (qs : List (Option ℕ)) (ss : List ℕ) → length cs ≡ length qs → length ss ≡ length qs
    → ((i s : ℕ) → get_or qs i none ≡ some s → get_or ss i 0 ≡ s)
    → Sized cs qs ss
sized [] [] [] h k agree = end
sized [] [] (s ∷ ss) h k agree = absurd (omega arith)
sized [] (o ∷ qs) ss h k agree = absurd (omega arith)
sized (c ∷ cs) [] ss h k agree = absurd (omega arith)
sized (c ∷ cs) (o ∷ qs) [] h k agree = absurd (omega arith)
sized (c ∷ cs) (some t ∷ qs) (s ∷ ss) h k agree =
    subst (λ (r : ℕ). Sized (c ∷ cs) (some t ∷ qs) (r ∷ ss)) (sym (agree 0 t refl)) (known (sized cs qs ss (omega arith) (omega arith) (λ i. agree (suc i))))
sized (c ∷ cs) (none ∷ qs) (s ∷ ss) h k agree = unknown (sized cs qs ss (omega arith) (omega arith) (λ i. agree (suc i)))

product_at_most : (c : ℤ) (s : ℕ) → c ≤ℤ pos 0 → (c *ℤ pos s) ≤ℤ pos 0
product_at_most c s h = step c (pos s) (mul_nonneg (pos 0 -ℤ c) (pos s) (nonneg_rest c (pos 0) h) (nonneg_pos s))
  where
    step : (x y : ℤ) → pos 0 ≤ℤ ((pos 0 -ℤ x) *ℤ y) → (x *ℤ y) ≤ℤ pos 0
    step = by_diff₂ _ λ p n q m. simp to-diff (omega by-naturals)

-- a summand that is at most 0
add_at_most : (x w k : ℤ) → x ≤ℤ pos 0 → w ≤ℤ k → (x +ℤ w) ≤ℤ k
add_at_most = by_diff₃ _ λ p n q m r o. simp to-diff (omega by-naturals)

-- an unknown size counts for nothing or less
at_most_known : {cs : List ℤ} {qs : List (Option ℕ)} {ss : List ℕ} → Sized cs qs ss → unknowns_at_most_zero cs qs ≡ true
    → weighted_sizes cs ss ≤ℤ known_part cs qs
unfolding unknowns_at_most_zero weighted_sizes known_part
at_most_known end e = ≤ℤ_refl (pos 0)
at_most_known (known {c = c} {s = s} sz) e = +ℤ_mono (≤ℤ_refl (c *ℤ pos s)) (at_most_known sz e)
at_most_known (unknown {c = c} {s = s} sz) e =
    add_at_most _ _ _ (product_at_most c s (le_z_yes (holds_from _ (and_left (le_z c (pos 0)) _ e)))) (at_most_known sz (and_right (le_z c (pos 0)) _ e))

-- and so does every unknown size but the one at a place, which counts as it is
at_most_with : (place : ℕ) {cs : List ℤ} {qs : List (Option ℕ)} {ss : List ℕ} → Sized cs qs ss → unknowns_at_most_zero cs qs ≡ true → get_or qs place none ≡ none
    → weighted_sizes cs ss ≤ℤ (known_part cs qs +ℤ get_or cs place (pos 0) *ℤ pos (get_or ss place 0))
unfolding unknowns_at_most_zero weighted_sizes known_part
at_most_with place end e u = simp to-diff (omega by-naturals)
at_most_with zero (known {s = s} sz) e u = absurd (some-ne-none s u)
at_most_with zero (unknown {c = c} {s = s} {cs = cs} {qs = qs} sz) e u =
    rw (+ℤ_comm (known_part cs qs) (c *ℤ pos s)) (+ℤ_mono (≤ℤ_refl (c *ℤ pos s)) (at_most_known sz (and_right (le_z c (pos 0)) _ e)))
at_most_with (suc place) (known {c = c} {s = s} {cs = cs} {qs = qs} {ss = ss} sz) e u =
    rw (+ℤ_assoc (c *ℤ pos s) (known_part cs qs) (get_or cs place (pos 0) *ℤ pos (get_or ss place 0))) (+ℤ_mono (≤ℤ_refl (c *ℤ pos s)) (at_most_with place sz e u))
at_most_with (suc place) (unknown {c = c} {s = s} sz) e u =
    add_at_most _ _ _ (product_at_most c s (le_z_yes (holds_from _ (and_left (le_z c (pos 0)) _ e)))) (at_most_with place sz (and_right (le_z c (pos 0)) _ e) u)

-- ---- what a usable claim says

-- a claim usable for a query, and a fact with the query's known sizes that meets it
pub record Bounding (m : Measure) (q : Query) (c : Claim) (f : Atom) : Type 0 where
  pub usable : is_usable q c ≡ true
  pub coefficients : length c.coefficients ≡ length q.sizes
  pub terms : arity f.terms ≡ length q.sizes
  pub unknown : size_given q.asked q ≡ none
  pub known : (i s : ℕ) → size_given i q ≡ some s → size_at m i f ≡ s
  pub meets : Meets m f c

-- a is below 0, and z plus a times s at least 0: then z is at least 0, and s at most z divided by minus a
floor_left : (z a : ℤ) (s : ℕ) → lt_z a (pos 0) ≡ true → pos 0 ≤ℤ (z +ℤ a *ℤ pos s) → (pos 0 ≤ℤ z) × (s ≤ nat_abs z / nat_abs a)
floor_left z (pos m) s e h = absurd (omega (arith, ltb-lt m 0 e))
floor_left (pos n) (negsuc k) s e h = (nonneg_pos n, (floor_bound n k s).0 h)
floor_left (negsuc n) (negsuc k) s e h = absurd (never_below n s k h)

module _ (m : Measure) (q : Query) (c : Claim) (f : Atom) (b : Bounding m q c f) where
  -- what the claim leaves for the asked size
  asked_left : pos 0 ≤ℤ (numerator q c +ℤ asked_number q c *ℤ pos (size_at m q.asked f))
  unfolding is_usable numerator
  asked_left =
      rw (+ℤ_assoc c.constant)
      (≤ℤ_trans b.meets.holds (+ℤ_mono (≤ℤ_refl c.constant) (at_most_with q.asked arguments (and_right (lt_z (asked_number q c) (pos 0)) _ b.usable) b.unknown)))
    where
      arguments : Sized c.coefficients q.sizes (argument_sizes m f.terms)
      arguments = sized _ _ _ b.coefficients (length_sizes m f.terms ∙ b.terms) b.known

  both : (pos 0 ≤ℤ numerator q c) × (size_at m q.asked f ≤ bound_by q c)
  unfolding is_usable bound_by
  both = floor_left (numerator q c) (asked_number q c) (size_at m q.asked f) (and_left _ _ b.usable) asked_left

  -- so a usable claim whose numerator is below 0 is met by no such fact
  pub numerator_nonneg : pos 0 ≤ℤ numerator q c
  numerator_nonneg = both.0

  pub asked_bounded : size_at m q.asked f ≤ bound_by q c
  asked_bounded = both.1
