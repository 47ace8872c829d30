-- What a claim, a residual and its numbers are, in words: by the places of arguments and multipliers, at all sizes of the variables.
-- Proves the records of specs/ResidualsTold.
use mathlib.Core.Path.{◌≡◌, refl, sym, ◌∙◌, ap, ap₂, subst}
use mathlib.Core.List.Memᴰ
use mathlib.Core.List.{List, [], ◌∷◌, ◌++◌, map, flat_map, map-append, map-map}
use Prim.Native.Nat.{ℕ, zero, suc, ◌+◌, ◌-◌, ◌≤◌}
use native.Mathlib.Omega.{arith}
use lib.IntN.{ℤ, pos, ◌+ℤ◌, ◌-ℤ◌, ◌*ℤ◌}
use lib.ListN.{length, get_or, take, replicate, length-append, length-map, length-replicate}
use lib.Seq.{length-take-le}
use Rattle.groundwork.proofs.Lists.{all_append}
use Rattle.groundwork.proofs.Difference.{diff_eq, to-diff, by_diff}
use Rattle.theory.specs.Lists.{◌∈◌, summed}
use Rattle.theory.specs.Text.{Bytes}
use Rattle.theory.specs.Terms.{all_variables}
use Rattle.theory.specs.Sizes.{Measure, sizes_where, argument_sizes}
use Rattle.theory.specs.Forms.{Form, Once, times, value_at}
use Rattle.theory.specs.Packs.{Claim, Atom, no_claim, atom_key, claims_on, variable_limit}
use Rattle.theory.specs.Residuals.{claim_form, subgoal_forms, combined, residual, rule_variables, area_needed, residual_numbers}
use Rattle.theory.specs.Facts.{weighted_sizes}
use Rattle.theory.specs.ResidualsTold.{value_of, ClaimTold, Owed, owed, owed_by, none_owed, ResidualTold, NumbersTold}
use Rattle.theory.proofs.Judging.Variables.{rule_variables_once, head_variable, subgoal_variable}
use Rattle.theory.proofs.Soundness.FormValues.{value_plus, value_times, value_minus, value_zero}
use Rattle.theory.proofs.Soundness.Sizes.{claim_where}

-- ---- sums over places

-- no summand counts
summed_none : (n : ℕ) (number : ℕ → ℤ) → ((i : ℕ) → number i ≡ pos 0) → summed n number ≡ pos 0
unfolding summed
summed_none zero number none = refl
summed_none (suc n) number none = rw (none 0, summed_none n (λ i. number (suc i)) (λ i. none (suc i)))

times_none : (z : ℤ) → z *ℤ pos 0 ≡ pos 0
times_none = by_diff _ λ p n. simp to-diff (diff_eq _ _ _ _ (omega arith))

weighted_by_place : (cs : List ℤ) (sizes : List ℕ) → weighted_sizes cs sizes ≡ summed (length cs) (λ i. get_or cs i (pos 0) *ℤ pos (get_or sizes i 0))
unfolding weighted_sizes summed
weighted_by_place [] sizes = refl
weighted_by_place (c ∷ cs) [] = sym (summed_none (length (c ∷ cs)) (λ i. get_or (c ∷ cs) i (pos 0) *ℤ pos 0) (λ i. times_none (get_or (c ∷ cs) i (pos 0))))
weighted_by_place (c ∷ cs) (s ∷ sizes) = ap (λ z. c *ℤ pos s +ℤ z) (weighted_by_place cs sizes)

pub claim_told : (m : Measure) (f : Atom) (c : Claim) → ClaimTold m f c
claim_told m f c = record { is = ap (λ z. c.constant +ℤ z) (weighted_by_place c.coefficients (argument_sizes m f.terms)) }

-- ---- residuals

module _ (m : Measure) where
  abbrev owed_form : Owed → Form
  owed_form o = claim_form m o.subgoal o.claim

  owed_forms : (claims : List Claim) (subgoals : List Atom) → subgoal_forms m claims subgoals ≡ map owed_form (owed_by claims subgoals)
  unfolding subgoal_forms flat_map
  owed_forms claims [] = refl
  owed_forms claims (a ∷ subgoals) =
      let here = claims_on (atom_key a) claims in
      rw (map-append owed_form (map (owed a) here) (owed_by claims subgoals), map-map owed_form (owed a) here, owed_forms claims subgoals)

  module _ (sizes : Bytes → ℕ) (xs : List Bytes) (once : Once xs) where
    -- an atom's variables are among these
    abbrev Within : Atom → Type 0
    Within a = (x : Bytes) → x ∈ all_variables a.terms → x ∈ xs

    abbrev owed_value : Owed → ℤ
    owed_value o = value_of o.claim (sizes_where m sizes o.subgoal.terms)

    form_value : (a : Atom) (c : Claim) → Within a → value_at sizes xs (claim_form m a c) ≡ value_of c (sizes_where m sizes a.terms)
    form_value a c within = claim_where m sizes xs once a c within ∙ ap (λ z. c.constant +ℤ z) (weighted_by_place c.coefficients (sizes_where m sizes a.terms))

    owed_values : (ms : List ℕ) (os : List Owed) → ((o : Owed) → o ∈ os → Within o.subgoal)
        → value_at sizes xs (combined ms (map owed_form os)) ≡ summed (length ms) (λ i. pos (get_or ms i 0) *ℤ owed_value (get_or os i none_owed))
    unfolding combined summed no_claim
    owed_values [] os within = value_zero sizes xs
    owed_values (k ∷ ms) [] within = value_zero sizes xs ∙ sym (summed_none (length (k ∷ ms)) (λ i. pos (get_or (k ∷ ms) i 0) *ℤ pos 0) (λ i. times_none (pos (get_or (k ∷ ms) i 0))))
    owed_values (k ∷ ms) (o ∷ os) within =
        rw (value_plus sizes xs (times (pos k) (owed_form o)) (combined ms (map owed_form os)), value_times sizes xs (pos k) (owed_form o), form_value o.subgoal o.claim (within o (Memᴰ.head refl)), owed_values ms os (λ p n. within p (Memᴰ.tail n)))

-- each is of some subgoal
of_each : (P : Owed → Type 0) (claims : List Claim) (subgoals : List Atom) → ((a : Atom) → a ∈ subgoals → (c : Claim) → P (owed a c)) → (o : Owed) → o ∈ owed_by claims subgoals → P o
unfolding flat_map
of_each P claims [] each o n = absurd (Memᴰ.not-nil n)
of_each P claims (a ∷ subgoals) each o n =
    all_append P (map (owed a) (claims_on (atom_key a) claims)) (owed_by claims subgoals)
    (λ q k. let found = Memᴰ.of_map (owed a) (claims_on (atom_key a) claims) k in subst P found.2 (each a (Memᴰ.head refl) found.0))
    (of_each P claims subgoals (λ b k. each b (Memᴰ.tail k)))
    o n

pub residual_told : (m : Measure) (claims : List Claim) (head : Atom) (subgoals : List Atom) (claim : Claim) (ms : List ℕ) → ResidualTold m claims head subgoals claim ms
unfolding residual
residual_told m claims head subgoals claim ms =
    let xs = rule_variables head subgoals in
    let once = rule_variables_once head subgoals in
    let at_head : (sizes : Bytes → ℕ) → value_at sizes xs (claim_form m head claim) ≡ value_of claim (sizes_where m sizes head.terms) = λ sizes. form_value m sizes xs once head claim (head_variable head subgoals) in
    record {
      head_form = at_head;
      residual = λ sizes.
          value_minus sizes xs (claim_form m head claim) (combined ms (subgoal_forms m claims subgoals))
          ∙ ap₂ (λ y z. y -ℤ z) (at_head sizes)
          (ap (λ (fs : List Form). value_at sizes xs (combined ms fs)) (owed_forms m claims subgoals)
          ∙ owed_values m sizes xs once ms (owed_by claims subgoals) (of_each (λ o. Within m sizes xs once o.subgoal) claims subgoals (λ a n c. subgoal_variable head subgoals a n)));
    }

-- ---- the area's numbers

-- zeros fill up to a length
take_filled : (n r k : ℕ) (l : List ℤ) → n ≡ length l + r → r ≤ k → take n (l ++ replicate k (pos 0)) ≡ l ++ replicate r (pos 0)
take_filled zero zero k [] is enough = refl
take_filled zero (suc r) k [] is enough = absurd (omega arith)
take_filled (suc n) zero k [] is enough = absurd (omega arith)
take_filled (suc n) (suc r) zero [] is enough = absurd (omega arith)
take_filled (suc n) (suc r) (suc k) [] is enough = ap (λ rest. pos 0 ∷ rest) (take_filled n r k [] (omega arith) (omega arith))
take_filled zero r k (z ∷ l) is enough = absurd (omega arith)
take_filled (suc n) r k (z ∷ l) is enough = ap (λ rest. z ∷ rest) (take_filled n r k l (omega arith) enough)

pub numbers_told : (xs : List Bytes) (f : Form) → NumbersTold xs f
unfolding residual_numbers
numbers_told xs f = record {
  are = λ few. ap (λ (rest : List ℤ). f.constant ∷ rest) (take_filled 16 (16 - length xs) 16 (map f.coefficient xs) (omega (arith, length-map xs f.coefficient)) (omega arith));
  count = length-take-le area_needed (f.constant ∷ map f.coefficient xs ++ replicate variable_limit (pos 0)) (omega (arith, length-append (map f.coefficient xs) (replicate 16 (pos 0)), length-map xs f.coefficient, length-replicate 16 (pos 0)));
}
