-- A form's numbers by place, over a rule's variables: how they go through sums, claims, multipliers and the residual.
use mathlib.Core.Path.{◌≡◌, refl, sym, ◌∙◌, ap, ap₂}
use mathlib.Core.List.{List, [], ◌∷◌, ◌++◌, map}
use Prim.Native.Nat.{ℕ, zero, suc, ◌≤◌, ◌<◌}
use native.Mathlib.Omega.{arith}
use lib.IntN.{ℤ, pos, negsuc, ◌+ℤ◌, ◌-ℤ◌, ◌*ℤ◌, zero-*ℤ, *ℤ-zero}
use lib.ListN.{length, get_or, replicate, length-map, length-append, get_or-map, get_or-eq_default}
use lib.Seq.{get_or-take, length-take-le}
use Rattle.groundwork.proofs.Lists.{same_everywhere}
use Rattle.groundwork.proofs.Ring.{neg_as_times}
use Rattle.theory.specs.Text.{Bytes}
use Rattle.theory.specs.Terms.{Terms, nil, cons, arity}
use Rattle.theory.specs.Sizes.{Measure}
use Rattle.theory.specs.Forms.{Form, zero_form, plus, times, minus, constant_form, form_of}
use Rattle.theory.specs.Packs.{Claim, Atom}
use Rattle.theory.specs.Residuals.{weighted as weighted_form, claim_form, combined, residual_numbers}
use Rattle.tables.specs.Tables.{argument}
use Rattle.residuals.proofs.WeightedSums.{sum_below, sum_same, sum_none, sum_first, own, weighted_sum}

-- at place 0 the constant, at place i + 1 the coefficient of the variable at place i, zeros after the last
abbrev pub form_number : List Bytes → Form → ℕ → ℤ
form_number xs f i = get_or (f.constant ∷ map f.coefficient xs) i (pos 0)

pub coefficient_at : (h : Bytes → ℤ) (xs : List Bytes) (i : ℕ) → i < length xs → get_or (map h xs) i (pos 0) ≡ h (get_or xs i [])
coefficient_at h [] i less = absurd (omega arith)
coefficient_at h (x ∷ xs) zero less = refl
coefficient_at h (x ∷ xs) (suc i) less = coefficient_at h xs i (omega arith)

pub coefficient_beyond : (h : Bytes → ℤ) (xs : List Bytes) (i : ℕ) → length xs ≤ i → get_or (map h xs) i (pos 0) ≡ pos 0
coefficient_beyond h xs i more = get_or-eq_default (map h xs) (pos 0) (omega (arith, length-map xs h))

-- ---- sums and multiples

-- an operation on two forms, variable by variable, that takes zeros to zero
by_place : (op : ℤ → ℤ → ℤ) → op (pos 0) (pos 0) ≡ pos 0 → (f g : Bytes → ℤ) (xs : List Bytes) (i : ℕ)
    → get_or (map (λ x. op (f x) (g x)) xs) i (pos 0) ≡ op (get_or (map f xs) i (pos 0)) (get_or (map g xs) i (pos 0))
by_place op zeros f g [] i = sym zeros
by_place op zeros f g (x ∷ xs) zero = refl
by_place op zeros f g (x ∷ xs) (suc i) = by_place op zeros f g xs i

module _ (xs : List Bytes) where
  number_plus : (f g : Form) (i : ℕ) → form_number xs (plus f g) i ≡ form_number xs f i +ℤ form_number xs g i
  unfolding plus
  number_plus f g zero = refl
  number_plus f g (suc i) = by_place ◌+ℤ◌ refl f.coefficient g.coefficient xs i

  number_times : (k : ℤ) (f : Form) (i : ℕ) → form_number xs (times k f) i ≡ k *ℤ form_number xs f i
  unfolding times
  number_times k f zero = refl
  number_times k f (suc i) = by_place (λ a b. k *ℤ a) (*ℤ-zero k) f.coefficient f.coefficient xs i

  pub number_minus : (f g : Form) (i : ℕ) → form_number xs (minus f g) i ≡ form_number xs f i -ℤ form_number xs g i
  unfolding minus
  number_minus f g i =
      number_plus f (times (negsuc 0) g) i ∙ ap (λ z. form_number xs f i +ℤ z) (number_times (negsuc 0) g i ∙ sym (neg_as_times (form_number xs g i)))

  -- a form that has a constant alone
  number_constant : (c : ℤ) (i : ℕ) → form_number xs (constant_form c) i ≡ own c i
  unfolding constant_form
  number_constant c zero = refl
  number_constant c (suc i) = get_or-map (λ x. pos 0) xs i []

  number_zero : (i : ℕ) → form_number xs zero_form i ≡ pos 0
  unfolding zero_form constant_form
  number_zero zero = refl
  number_zero (suc i) = number_constant (pos 0) (suc i)

  -- ---- a claim with an atom's sizes put in

  number_weighted : (m : Measure) (row : ℕ → ℤ) (i : ℕ) (cs : List ℤ) (ts : Terms) (n : ℕ) → length cs ≡ arity ts → length cs ≤ n
      → ((k : ℕ) → k < arity ts → row k ≡ form_number xs (form_of m (argument ts k)) i)
      → sum_below (λ k. get_or cs k (pos 0) *ℤ row k) n ≡ form_number xs (weighted_form m cs ts) i
  unfolding weighted_form argument arity
  number_weighted m row i [] ts n full few rows = sum_none _ n (λ k less. zero-*ℤ (row k)) ∙ sym (number_zero i)
  number_weighted m row i (c ∷ cs) nil n full few rows = absurd (omega arith)
  number_weighted m row i (c ∷ cs) (cons t ts) zero full few rows = absurd (omega arith)
  number_weighted m row i (c ∷ cs) (cons t ts) (suc n) full few rows =
      let first = ap (λ z. c *ℤ z) (rows 0 (omega arith)) ∙ sym (number_times c (form_of m t) i) in
      let rest = number_weighted m (λ k. row (suc k)) i cs ts n (omega arith) (omega arith) (λ k less. rows (suc k) (omega arith)) in
      sum_first (λ k. get_or (c ∷ cs) k (pos 0) *ℤ row k) n ∙ (ap₂ ◌+ℤ◌ first rest ∙ sym (number_plus (times c (form_of m t)) (weighted_form m cs ts) i))

  pub number_claim : (m : Measure) (weight row : ℕ → ℤ) (i : ℕ) (a : Atom) (c : Claim) → length c.coefficients ≡ arity a.terms → arity a.terms ≤ 8
      → weight 0 ≡ c.constant → ((k : ℕ) → k < 8 → weight (suc k) ≡ get_or c.coefficients k (pos 0))
      → ((k : ℕ) → k < arity a.terms → row k ≡ form_number xs (form_of m (argument a.terms k)) i)
      → weighted_sum weight row i ≡ form_number xs (claim_form m a c) i
  unfolding claim_form
  number_claim m weight row i a c full few constant coefficient rows =
      let first = ap (λ z. own z i) constant ∙ sym (number_constant c.constant i) in
      let rest = sum_same _ _ 8 (λ k less. ap (λ z. z *ℤ row k) (coefficient k less)) ∙ number_weighted m row i c.coefficients a.terms 8 full (omega arith) rows in
      ap₂ ◌+ℤ◌ first rest ∙ sym (number_plus (constant_form c.constant) (weighted_form m c.coefficients a.terms) i)

  -- ---- multipliers

  pub number_combined : (ms : List ℕ) (fs : List Form) (i : ℕ) → form_number xs (combined ms fs) i ≡ sum_below (λ k. pos (get_or ms k 0) *ℤ form_number xs (get_or fs k zero_form) i) (length ms)
  unfolding combined
  number_combined [] fs i = number_zero i ∙ sym (sum_none _ 0 (λ k less. absurd (omega arith)))
  number_combined (m ∷ ms) [] i = number_zero i ∙ sym (sum_none _ (length (m ∷ ms)) (λ k less. ap (λ z. pos (get_or (m ∷ ms) k 0) *ℤ z) (number_zero i) ∙ *ℤ-zero (pos (get_or (m ∷ ms) k 0))))
  number_combined (m ∷ ms) (f ∷ fs) i =
      number_plus (times (pos m) f) (combined ms fs) i
      ∙ (ap₂ ◌+ℤ◌ (number_times (pos m) f i) (number_combined ms fs i)
      ∙ sym (sum_first (λ k. pos (get_or (m ∷ ms) k 0) *ℤ form_number xs (get_or (f ∷ fs) k zero_form) i) (length ms)))

-- ---- the residual's numbers as they are listed

zeros_after : (l : List ℤ) (n i : ℕ) → get_or (l ++ replicate n (pos 0)) i (pos 0) ≡ get_or l i (pos 0)
zeros_after [] n i = same_everywhere (pos 0) n i
zeros_after (z ∷ l) n zero = refl
zeros_after (z ∷ l) n (suc i) = zeros_after l n i

pub residual_length : (xs : List Bytes) (f : Form) → length (residual_numbers xs f) ≡ 17
unfolding residual_numbers
residual_length xs f =
    let all = f.constant ∷ map f.coefficient xs in
    length-take-le 17 (all ++ replicate 16 (pos 0)) (omega (arith, length-append all (replicate 16 (pos 0))))

pub residual_number : (xs : List Bytes) (f : Form) (i : ℕ) → i < 17 → get_or (residual_numbers xs f) i (pos 0) ≡ form_number xs f i
unfolding residual_numbers
residual_number xs f i less =
    let all = f.constant ∷ map f.coefficient xs in
    get_or-take 17 (all ++ replicate 16 (pos 0)) i (pos 0) less ∙ zeros_after all 16 i
