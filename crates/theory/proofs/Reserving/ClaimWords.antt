-- The tests and numbers of a usable claim, in words: by the places of the arguments.
use mathlib.Core.Path.{◌≡◌, refl, ◌∙◌, ap}
use mathlib.Core.Bool.{true}
use mathlib.Core.Logic.{◌↔◌}
use mathlib.Core.List.{List, [], ◌∷◌}
use mathlib.Core.Option
use mathlib.Core.Option.{Option, some, none, some-ne-none}
use Prim.Native.Nat.{ℕ, zero, suc, ◌+◌, ◌*◌, ◌/◌, ◌≤◌, ◌<◌}
use native.Mathlib.Nat.{le_refl, le-div_iff_mul-le}
use native.Mathlib.Omega.{arith, not-le}
use lib.IntN.{ℤ, pos, negsuc, neg_ℤ, nat_abs, ◌+ℤ◌, ◌*ℤ◌}
use lib.ListN.{length, get_or}
use lib.Signed.{◌≤ℤ◌, ◌<ℤ◌, le_z, lt_z, le_z_yes, lt_z_yes, clash_ℤ}
use Rattle.groundwork.proofs.Truth.{true_from, holds_from, ltb-lt, lt-ltb, and_left, and_right, and_both, leb-le, le-leb}
use Rattle.groundwork.proofs.Difference.{to-diff, by_diff, by_diff₂, diff_eq}
use Rattle.groundwork.proofs.Order.{nonneg_pos}
use Rattle.theory.specs.Lists.{summed}
use Rattle.theory.specs.Packs.{Claim}
use Rattle.theory.specs.Reserve.{Query, unknowns_at_most_zero, known_part, asked_number, is_usable, numerator, bound_by}
use Rattle.theory.specs.SmallestBound.{IsUsable, numerator_of, IsBound}

-- ---- usable

-- the number of every unknown argument is at most 0, by its place
abbrev UnknownsLow : List ℤ → List (Option ℕ) → Type 0
UnknownsLow cs sizes = (i : ℕ) → i < length sizes → get_or sizes i none ≡ none → get_or cs i (pos 0) ≤ℤ pos 0

unknowns_told : (cs : List ℤ) (sizes : List (Option ℕ)) → unknowns_at_most_zero cs sizes ≡ true → UnknownsLow cs sizes
unfolding unknowns_at_most_zero
unknowns_told [] sizes e i h u = nonneg_pos 0
unknowns_told (c ∷ cs) [] e i h u = absurd (omega arith)
unknowns_told (c ∷ cs) (none ∷ sizes) e zero h u = le_z_yes (holds_from _ (and_left (le_z c (pos 0)) _ e))
unknowns_told (c ∷ cs) (none ∷ sizes) e (suc i) h u = unknowns_told cs sizes (and_right (le_z c (pos 0)) _ e) i (omega arith) u
unknowns_told (c ∷ cs) (some s ∷ sizes) e zero h u = absurd (some-ne-none s u)
unknowns_told (c ∷ cs) (some s ∷ sizes) e (suc i) h u = unknowns_told cs sizes e i (omega arith) u

unknowns_pass : (cs : List ℤ) (sizes : List (Option ℕ)) → UnknownsLow cs sizes → unknowns_at_most_zero cs sizes ≡ true
unfolding unknowns_at_most_zero
unknowns_pass [] sizes low = refl
unknowns_pass (c ∷ cs) [] low = refl
unknowns_pass (c ∷ cs) (none ∷ sizes) low = and_both (le_z c (pos 0)) _ (true_from _ (low 0 (omega arith) refl).le) (unknowns_pass cs sizes (λ i h u. low (suc i) (omega arith) u))
unknowns_pass (c ∷ cs) (some s ∷ sizes) low = unknowns_pass cs sizes (λ i h u. low (suc i) (omega arith) u)

-- ---- the numerator

-- a summand that is a product with 0
zero_times : (n : ℕ) (w : ℤ) → w ≡ pos 0 *ℤ pos n +ℤ w
zero_times k = by_diff _ λ p n. simp to-diff (diff_eq _ _ _ _ (omega arith))

times_zero : (c w : ℤ) → w ≡ c *ℤ pos 0 +ℤ w
times_zero = by_diff₂ _ λ p n q m. simp to-diff (diff_eq _ _ _ _ (omega arith))

-- no numbers: every summand is 0
nothing_summed : (sizes : List (Option ℕ)) → pos 0 ≡ summed (length sizes) (λ i. pos 0 *ℤ pos (Option.get_or (get_or sizes i none) 0))
unfolding summed
nothing_summed [] = refl
nothing_summed (o ∷ sizes) = nothing_summed sizes ∙ zero_times (Option.get_or o 0) _

known_summed : (cs : List ℤ) (sizes : List (Option ℕ)) → known_part cs sizes ≡ summed (length sizes) (λ i. get_or cs i (pos 0) *ℤ pos (Option.get_or (get_or sizes i none) 0))
unfolding known_part summed
known_summed [] sizes = nothing_summed sizes
known_summed (c ∷ cs) [] = refl
known_summed (c ∷ cs) (none ∷ sizes) = known_summed cs sizes ∙ times_zero c _
known_summed (c ∷ cs) (some s ∷ sizes) = ap (λ (z : ℤ). c *ℤ pos s +ℤ z) (known_summed cs sizes)

-- ---- the bound

-- of a numerator n and minus an asked number, k + 1: their quotient, and no other number, lies between its products
module _ (n k : ℕ) where
  floor : (s : ℕ) → (s ≤ n / suc k) ↔ (s * suc k ≤ n)
  floor s = let above : 0 < suc k = omega arith in let iff = le-div_iff_mul-le {k = suc k} {x = s} {y = n} above in (iff.0, iff.1)

  quotient_next : n < (n / suc k + 1) * suc k
  quotient_next = not-le ((n / suc k + 1) * suc k) n (λ h. let more = (floor (n / suc k + 1)).1 h in omega arith)

  quotient_only : (b : ℕ) → b * suc k ≤ n → n < (b + 1) * suc k → n / suc k ≡ b
  quotient_only b low high =
      let at_least_lem = (floor b).1 low in
      let not_more = not-le (b + 1) (n / suc k) (λ h. let more = (floor (b + 1)).0 h in omega arith) in
      omega arith

-- the same of integers: z is at least 0, and a below
abbrev Between : ℤ → ℤ → ℕ → Type 0
Between z a b = ((neg_ℤ a *ℤ pos b) ≤ℤ z) × (z <ℤ (neg_ℤ a *ℤ pos (b + 1)))

between_quotient : (z a : ℤ) → a <ℤ pos 0 → pos 0 ≤ℤ z → Between z a (nat_abs z / nat_abs a)
between_quotient z (pos m) below possible = clash_ℤ below (nonneg_pos m)
between_quotient (negsuc n) (negsuc k) below possible = absurd possible.le
between_quotient (pos n) (negsuc k) below possible = (
  le_z_yes (holds_from _ (le-leb (suc k * (n / suc k)) n (omega (arith, (floor n k (n / suc k)).0 (le_refl (n / suc k)))))),
  lt_z_yes (holds_from _ (lt-ltb n (suc k * (n / suc k + 1)) (omega (arith, quotient_next n k)))),
)

between_only : (z a : ℤ) → a <ℤ pos 0 → (b : ℕ) → Between z a b → nat_abs z / nat_abs a ≡ b
between_only z (pos m) below b between = clash_ℤ below (nonneg_pos m)
between_only (negsuc n) (negsuc k) below b between = absurd between.0.le
between_only (pos n) (negsuc k) below b (fits, next) =
    quotient_only n k b (omega (arith, leb-le (suc k * b) n (true_from _ fits.le))) (omega (arith, ltb-lt n (suc k * (b + 1)) (true_from _ next.lt)))

module _ (q : Query) (c : Claim) where
  pub usable_told : is_usable q c ≡ true → IsUsable q c
  unfolding is_usable
  usable_told e = record {
    asked = lt_z_yes (holds_from _ (and_left (lt_z (asked_number q c) (pos 0)) _ e));
    unknown = unknowns_told c.coefficients q.sizes (and_right (lt_z (asked_number q c) (pos 0)) _ e);
  }

  pub usable_passes : IsUsable q c → is_usable q c ≡ true
  unfolding is_usable
  usable_passes u = and_both (lt_z (asked_number q c) (pos 0)) _ (true_from _ u.asked.lt) (unknowns_pass c.coefficients q.sizes u.unknown)

  pub numerator_told : numerator q c ≡ numerator_of q c
  unfolding numerator
  numerator_told = ap (λ (z : ℤ). c.constant +ℤ z) (known_summed c.coefficients q.sizes)

  pub bound_told : IsUsable q c → pos 0 ≤ℤ numerator_of q c → IsBound q c (bound_by q c)
  unfolding bound_by
  bound_told u possible = rw numerator_told (let between = between_quotient (numerator_of q c) (asked_number q c) u.asked possible in record { fits = between.0; next = between.1 })

  pub bound_only : IsUsable q c → (b : ℕ) → IsBound q c b → bound_by q c ≡ b
  unfolding bound_by
  bound_only u b is = rw numerator_told (between_only (numerator_of q c) (asked_number q c) u.asked b (is.fits, is.next))
