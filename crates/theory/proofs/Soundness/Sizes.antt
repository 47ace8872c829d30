-- Size and substitution: the size of a term under a substitution is the term's form at the sizes substituted.
use mathlib.Core.Path.{◌≡◌, refl, sym, ◌∙◌, ap, ap₂}
use mathlib.Core.Bool.{Bool, true, false, cond}
use mathlib.Core.List.{List, [], ◌∷◌, ◌++◌, flatten}
use mathlib.Core.List.Memᴰ
use mathlib.Core.Logic.{⊎_elim}
use Prim.Native.Nat.{ℕ, suc, ◌+◌}
use native.Mathlib.Omega.{arith}
use lib.IntN.{ℤ, pos, ◌+ℤ◌}
use lib.ListN.{length}
use Rattle.groundwork.proofs.Truth.{by_truth}
use Rattle.theory.specs.Lists.{◌∈◌, total}
use Rattle.theory.specs.Text.{Bytes, same}
use Rattle.theory.specs.Terms.{Term, Terms, variable, symbol, nil, cons, arity, variables, all_variables, AllGround, IsGround, Substitution, under, all_under}
use Rattle.theory.specs.Sizes.{Measure, flagged, size, argument_sizes, counted, arguments_counted, occurrences, constant_of, constants_of, size_where, sizes_where}
use Rattle.theory.specs.Forms.{Form, plus, constant_form, form_of, value_at}
use Rattle.theory.specs.Packs.{Claim, Atom, atom_key, key}
use Rattle.theory.specs.Residuals.{weighted, claim_form}
use Rattle.theory.specs.Facts.{weighted_sizes}
use Rattle.theory.specs.Derivations.{atom_under}
use Rattle.theory.proofs.Reading.Bytes.{same_refl, same_equal}
use Rattle.theory.proofs.Judging.Variables.{Once, once_none, once_more}
use Rattle.theory.proofs.Soundness.FormValues.{form_path, nothing_plus, value_plus, value_times, value_without, value_constant, value_zero}

pub length_sizes : (m : Measure) (ts : Terms) → length (argument_sizes m ts) ≡ arity ts
unfolding constants_of arity
length_sizes m nil = refl
length_sizes m (cons t ts) = ap suc (length_sizes m ts)

-- ---- substitution keeps arities, and leaves no variable

pub arity_under : (σ : Substitution) (ts : Terms) → arity (all_under σ ts) ≡ arity ts
unfolding arity all_under
arity_under σ nil = refl
arity_under σ (cons t ts) = ap suc (arity_under σ ts)

pub key_under : (σ : Substitution) (a : Atom) → atom_key (atom_under σ a) ≡ atom_key a
key_under σ a = ap (key a.name) (arity_under σ a.terms)

mutual
  unfolding under all_under variables all_variables

  pub ground_under : (σ : Substitution) (t : Term) → IsGround (under σ t)
  ground_under σ (variable x) = σ.ground x
  ground_under σ (symbol f ts) = all_ground_under σ ts

  pub all_ground_under : (σ : Substitution) (ts : Terms) → AllGround (all_under σ ts)
  all_ground_under σ nil = refl
  all_ground_under σ (cons t ts) = ap₂ (λ xs ys. xs ++ ys) (ground_under σ t) (all_ground_under σ ts)

-- ---- what counts in a term stands in it

mutual
  unfolding counted variables flagged flatten

  pub counted_variable : (m : Measure) (t : Term) {x : Bytes} → x ∈ counted m t → x ∈ variables t
  counted_variable m (variable y) n = n
  counted_variable m (symbol f ts) n = flagged_variable m ts (m f (arity ts)).flags n

  flagged_variable : (m : Measure) (ts : Terms) (flags : List Bool) {x : Bytes} → x ∈ flatten (flagged flags (arguments_counted m ts)) → x ∈ all_variables ts
  flagged_variable m nil [] n = absurd (Memᴰ.not-nil n)
  flagged_variable m nil (flag ∷ flags) n = absurd (Memᴰ.not-nil n)
  flagged_variable m (cons t ts) [] n = absurd (Memᴰ.not-nil n)
  flagged_variable m (cons t ts) (true ∷ flags) n = ⊎_elim (λ k. Memᴰ.append_left (all_variables ts) (counted_variable m t k)) (λ k. Memᴰ.append_right (variables t) (flagged_variable m ts flags k)) (Memᴰ.append_cases (counted m t) n)
  flagged_variable m (cons t ts) (false ∷ flags) n = Memᴰ.append_right (variables t) (flagged_variable m ts flags n)

-- ---- forms of terms

pub occurrences_append : (x : Bytes) (xs ys : List Bytes) → occurrences x (xs ++ ys) ≡ occurrences x xs + occurrences x ys
unfolding occurrences
occurrences_append x [] ys = omega arith
occurrences_append x (y ∷ xs) ys =
    by_truth (λ b. cond b (suc (occurrences x (xs ++ ys))) (occurrences x (xs ++ ys)) ≡ cond b (suc (occurrences x xs)) (occurrences x xs) + occurrences x ys)
    (same x y) (λ h. omega (arith, occurrences_append x xs ys)) (λ h. occurrences_append x xs ys)

-- the sizes of the flagged ones of some terms together, as a form
abbrev flagged_form : Measure → List Bool → Terms → Form
flagged_form m flags ts = record { constant = pos (total (flagged flags (argument_sizes m ts))); coefficient = λ x. pos (occurrences x (flatten (flagged flags (arguments_counted m ts)))) }

symbol_form : (m : Measure) (f : Bytes) (ts : Terms) → form_of m (symbol f ts) ≡ plus (constant_form (pos (m f (arity ts)).constant)) (flagged_form m (m f (arity ts)).flags ts)
unfolding form_of plus constant_form constant_of counted
symbol_form m f ts = form_path refl (λ x. ap pos (omega arith))

first_form : (m : Measure) (flags : List Bool) (t : Term) (ts : Terms) → flagged_form m (true ∷ flags) (cons t ts) ≡ plus (form_of m t) (flagged_form m flags ts)
unfolding form_of plus constant_of counted flagged total flatten
first_form m flags t ts = form_path refl (λ x. ap pos (occurrences_append x (counted m t) (flatten (flagged flags (arguments_counted m ts)))))

-- ---- the size of a term under a substitution

-- a form that counts one variable once, among variables that stand there once each: that variable's size
module _ (size_of : Bytes → ℕ) (f : Form) (y : Bytes) (empty : f.constant ≡ pos 0) (one : f.coefficient y ≡ pos 1) (others : (x : Bytes) → (x ≡ y → ⊥) → f.coefficient x ≡ pos 0) where
  only_value : {xs : List Bytes} → Once xs → y ∈ xs → value_at size_of xs f ≡ pos (size_of y)
  unfolding value_at
  only_value once_none m = absurd (Memᴰ.not-nil m)
  only_value (once_more {x = x} {xs = xs} apart rest) m =
      ⊎_elim
      (λ (e : y ≡ x).
      rw (← e, one, value_without size_of xs f (λ z n. others z (λ h. apart (Memᴰ.cast (sym e ∙ sym h) n))), empty) (ap pos (omega arith)))
      (λ (n : y ∈ xs). rw (others x (λ h. apart (Memᴰ.cast h n))) (nothing_plus (size_of x) _ ∙ only_value rest n))
      (Memᴰ.cases_cons m)

variable_value : (m : Measure) (size_of : Bytes → ℕ) {xs : List Bytes} (y : Bytes) → Once xs → y ∈ xs → value_at size_of xs (form_of m (variable y)) ≡ pos (size_of y)
unfolding form_of constant_of occurrences counted
variable_value m size_of y =
    only_value size_of (form_of m (variable y)) y refl (rw (same_refl y))
    (λ x differ. by_truth (λ b. pos (cond b 1 0) ≡ pos 0) (same x y) (λ h. absurd (differ (same_equal x y h))) (λ h. refl))

-- the form's value is the size at the sizes of the variables, once for every arity and number of variables
module _ (m : Measure) (sizes : Bytes → ℕ) (xs : List Bytes) (once : Once xs) where
  mutual
    unfolding size_where constant_of counted arity variables occurrences flagged total flatten

    pub size_where_lem : (t : Term) → ((x : Bytes) → x ∈ variables t → x ∈ xs) → value_at sizes xs (form_of m t) ≡ pos (size_where m sizes t)
    size_where_lem (variable y) within = variable_value m sizes y once (within y (Memᴰ.head refl))
    size_where_lem (symbol f ts) within = rw (symbol_form m f ts, value_plus, value_constant, flagged_where ts (m f (arity ts)).flags within)

    flagged_where : (ts : Terms) (flags : List Bool) → ((x : Bytes) → x ∈ all_variables ts → x ∈ xs) → value_at sizes xs (flagged_form m flags ts) ≡ pos (total (flagged flags (sizes_where m sizes ts)))
    flagged_where nil [] within = value_without _ xs (flagged_form m [] nil) (λ x n. refl)
    flagged_where nil (flag ∷ flags) within = value_without _ xs (flagged_form m (flag ∷ flags) nil) (λ x n. refl)
    flagged_where (cons t ts) [] within = value_without _ xs (flagged_form m [] (cons t ts)) (λ x n. refl)
    flagged_where (cons t ts) (true ∷ flags) within =
        rw (first_form m flags t ts, value_plus, size_where_lem t (λ x n. within x (Memᴰ.append_left (all_variables ts) n)), flagged_where ts flags (λ x n. within x (Memᴰ.append_right (variables t) n)))
    flagged_where (cons t ts) (false ∷ flags) within = flagged_where ts flags (λ x n. within x (Memᴰ.append_right (variables t) n))

  weighted_where : (cs : List ℤ) (ts : Terms) → ((x : Bytes) → x ∈ all_variables ts → x ∈ xs) → value_at sizes xs (weighted m cs ts) ≡ weighted_sizes cs (sizes_where m sizes ts)
  unfolding weighted weighted_sizes sizes_where all_variables
  weighted_where [] ts within = value_zero _ xs
  weighted_where (c ∷ cs) nil within = value_zero _ xs
  weighted_where (c ∷ cs) (cons t ts) within =
      rw (value_plus, value_times, size_where_lem t (λ x n. within x (Memᴰ.append_left (all_variables ts) n)), weighted_where cs ts (λ x n. within x (Memᴰ.append_right (variables t) n)))

  -- a claim with an atom's sizes put in: the claim's value at the sizes of the atom's terms
  pub claim_where : (a : Atom) (c : Claim) → ((x : Bytes) → x ∈ all_variables a.terms → x ∈ xs) → value_at sizes xs (claim_form m a c) ≡ c.constant +ℤ weighted_sizes c.coefficients (sizes_where m sizes a.terms)
  unfolding claim_form
  claim_where a c within = rw (value_plus, value_constant, weighted_where c.coefficients a.terms within)

-- ---- under a substitution each variable has the size of what is substituted

module _ (m : Measure) (σ : Substitution) where
  mutual
    unfolding size_where constant_of under

    where_under : (t : Term) → size_where m (λ x. size m (σ.for x)) t ≡ size m (under σ t)
    where_under (variable x) = refl
    where_under (symbol f ts) = rw (all_where_under ts, arity_under σ ts)

    all_where_under : (ts : Terms) → sizes_where m (λ x. size m (σ.for x)) ts ≡ argument_sizes m (all_under σ ts)
    all_where_under nil = refl
    all_where_under (cons t ts) = rw (where_under t, all_where_under ts)

  module _ (xs : List Bytes) (once : Once xs) where
    pub size_under : (t : Term) → ((x : Bytes) → x ∈ variables t → x ∈ xs) → value_at (λ x. size m (σ.for x)) xs (form_of m t) ≡ pos (size m (under σ t))
    size_under t within = size_where_lem m _ xs once t within ∙ ap pos (where_under t)

    pub claim_under : (a : Atom) (c : Claim) → ((x : Bytes) → x ∈ all_variables a.terms → x ∈ xs) → value_at (λ x. size m (σ.for x)) xs (claim_form m a c) ≡ c.constant +ℤ weighted_sizes c.coefficients (argument_sizes m (all_under σ a.terms))
    claim_under a c within = claim_where m _ xs once a c within ∙ ap (λ (sizes : List ℕ). c.constant +ℤ weighted_sizes c.coefficients sizes) (all_where_under a.terms)
