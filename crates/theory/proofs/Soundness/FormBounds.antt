-- How large the numbers of forms are, by the tokens of terms, the numbers of claims and the multipliers.
use mathlib.Core.Path.{refl}
use mathlib.Core.Bool.{Bool, true, false, cond}
use mathlib.Core.List.Memᴰ
use mathlib.Core.List.{List, [], ◌∷◌, flatten}
use Prim.Native.Nat.{ℕ, suc, ◌+◌, ◌*◌, ◌≤◌}
use native.Mathlib.Omega.{arith}
use native.Mathlib.Nat.{mul-le-mul, mul-le-mul_left, mul-le-mul_right, le_trans}
use lib.IntN.{ℤ, pos, negsuc, nat_abs, ◌+ℤ◌, ◌*ℤ◌}
use lib.ListN.{length, length-append}
use Rattle.groundwork.proofs.Truth.{by_truth}
use Rattle.groundwork.proofs.Magnitude.{nat_abs_add, nat_abs_mul}
use Rattle.theory.specs.Lists.{◌∈◌, total}
use Rattle.theory.specs.Text.{Bytes, same}
use Rattle.theory.specs.Terms.{Term, Terms, variable, symbol, nil, cons, arity, tokens, all_tokens, WellFormed, AllWellFormed}
use Rattle.theory.specs.Sizes.{Measure, structural, flagged, size, argument_sizes, counted, arguments_counted, occurrences, constant_of}
use Rattle.theory.specs.Forms.{Form, zero_form, plus, times, minus, constant_form, form_of}
use Rattle.theory.specs.Packs.{Claim, Atom}
use Rattle.theory.specs.Residuals.{weighted, claim_form, subgoal_forms, combined, residual}
use Rattle.theory.proofs.Reading.TermLengths.{token_count}

-- no number of the form is larger, whatever its sign
pub record Within (bound : ℕ) (f : Form) : Type 0 where
  pub constant : nat_abs f.constant ≤ bound
  pub coefficient : (x : Bytes) → nat_abs (f.coefficient x) ≤ bound

pub within_more : {a b : ℕ} {f : Form} → a ≤ b → Within a f → Within b f
within_more {a} {b} {f} h w = record { constant = omega (arith, w.constant); coefficient = λ x. omega (arith, w.coefficient x) }

-- ---- the operations

sum_bound : (a b : ℕ) (y z : ℤ) → nat_abs y ≤ a → nat_abs z ≤ b → nat_abs (y +ℤ z) ≤ a + b
sum_bound a b y z h k = omega (arith, nat_abs_add y z)

product_bound : (a b : ℕ) (y z : ℤ) → nat_abs y ≤ a → nat_abs z ≤ b → nat_abs (y *ℤ z) ≤ a * b
product_bound a b y z h k = rw (nat_abs_mul y z) (mul-le-mul h k)

pub within_zero : (bound : ℕ) → Within bound zero_form
unfolding zero_form
within_zero bound = record { constant = omega arith; coefficient = λ x. omega arith }

pub within_constant : {bound : ℕ} (c : ℤ) → nat_abs c ≤ bound → Within bound (constant_form c)
unfolding constant_form
within_constant c h = record { constant = h; coefficient = λ x. omega arith }

pub within_plus : {a b : ℕ} (f g : Form) → Within a f → Within b g → Within (a + b) (plus f g)
unfolding plus
within_plus {a} {b} f g v w = record { constant = sum_bound a b f.constant g.constant v.constant w.constant; coefficient = λ x. sum_bound a b (f.coefficient x) (g.coefficient x) (v.coefficient x) (w.coefficient x) }

pub within_times : {a b : ℕ} (k : ℤ) (f : Form) → nat_abs k ≤ a → Within b f → Within (a * b) (times k f)
unfolding times
within_times {a} {b} k f h w = record { constant = product_bound a b k f.constant h w.constant; coefficient = λ x. product_bound a b k (f.coefficient x) h (w.coefficient x) }

pub within_minus : {a b : ℕ} (f g : Form) → Within a f → Within b g → Within (a + b) (minus f g)
unfolding minus
within_minus {a} {b} f g v w =
    within_more {a = a + 1 * b} (omega arith) (within_plus f (times (negsuc 0) g) v (within_times (negsuc 0) g (omega arith) w))

-- ---- a term, a claim with an atom's sizes put in

pub occurrences_count : (x : Bytes) (ys : List Bytes) → occurrences x ys ≤ length ys
unfolding occurrences
occurrences_count x [] = omega arith
occurrences_count x (y ∷ ys) =
    by_truth (λ b. cond b (suc (occurrences x ys)) (occurrences x ys) ≤ suc (length ys)) (same x y) (λ h. omega (arith, occurrences_count x ys)) (λ h. omega (arith, occurrences_count x ys))

-- The measure counts at most a number for each symbol of a well-formed term.
pub record Moderate (share : ℕ) (m : Measure) : Type 0 where
  pub positive : 1 ≤ share
  pub small : (f : Bytes) (k : ℕ) → k ≤ 9 → (m f k).constant ≤ share

pub structural_moderate : Moderate 9 structural
unfolding structural
structural_moderate = record { positive = omega arith; small = λ f k h. h }

module _ (share : ℕ) (m : Measure) (moderate : Moderate share m) where
  mutual
    unfolding constant_of counted tokens flagged total arity

    pub size_of_tokens : (t : Term) → WellFormed t → size m t ≤ share * length (tokens t)
    size_of_tokens (variable x) h = omega arith
    size_of_tokens (symbol f ts) h = omega (arith, moderate.small f (arity ts) h.1, sizes_of_tokens ts (m f (arity ts)).flags h.2)

    sizes_of_tokens : (ts : Terms) (flags : List Bool) → AllWellFormed ts → total (flagged flags (argument_sizes m ts)) ≤ share * token_count ts
    sizes_of_tokens nil [] h = omega arith
    sizes_of_tokens nil (flag ∷ flags) h = omega arith
    sizes_of_tokens (cons t ts) [] h = omega arith
    sizes_of_tokens (cons t ts) (true ∷ flags) h =
        rw (length-append (tokens t) (all_tokens ts)) (omega (arith, size_of_tokens t h.0, sizes_of_tokens ts flags h.1))
    sizes_of_tokens (cons t ts) (false ∷ flags) h = le_trans (sizes_of_tokens ts flags h.1) (mul-le-mul_left share (omega (arith, length-append (tokens t) (all_tokens ts))))

  mutual
    unfolding counted tokens flagged flatten

    counted_of_tokens : (t : Term) → length (counted m t) ≤ length (tokens t)
    counted_of_tokens (variable x) = omega arith
    counted_of_tokens (symbol f ts) = omega (arith, all_counted_of_tokens ts (m f (arity ts)).flags)

    all_counted_of_tokens : (ts : Terms) (flags : List Bool) → length (flatten (flagged flags (arguments_counted m ts))) ≤ token_count ts
    all_counted_of_tokens nil [] = omega arith
    all_counted_of_tokens nil (flag ∷ flags) = omega arith
    all_counted_of_tokens (cons t ts) [] = omega arith
    all_counted_of_tokens (cons t ts) (true ∷ flags) =
        omega (arith, counted_of_tokens t, all_counted_of_tokens ts flags, length-append (tokens t) (all_tokens ts), length-append (counted m t) (flatten (flagged flags (arguments_counted m ts))))
    all_counted_of_tokens (cons t ts) (false ∷ flags) = le_trans (all_counted_of_tokens ts flags) (omega (arith, length-append (tokens t) (all_tokens ts)))

  within_term : (t : Term) → WellFormed t → Within (share * length (tokens t)) (form_of m t)
  unfolding form_of
  within_term t h = record {
    constant = size_of_tokens t h;
    coefficient = λ x. omega (arith, occurrences_count x (counted m t), counted_of_tokens t, mul-le-mul_right (length (tokens t)) moderate.positive);
  }

  within_weighted : (number : ℕ) (cs : List ℤ) (ts : Terms) → AllWellFormed ts → ((c : ℤ) → c ∈ cs → nat_abs c ≤ number) → Within (number * (share * token_count ts)) (weighted m cs ts)
  unfolding weighted tokens
  within_weighted number [] ts formed small = within_zero _
  within_weighted number (c ∷ cs) nil formed small = within_zero _
  within_weighted number (c ∷ cs) (cons t ts) formed small =
      let first = within_times c (form_of m t) (small c (Memᴰ.head refl)) (within_term t formed.0) in
      let others = within_weighted number cs ts formed.1 (λ d l. small d (Memᴰ.tail l)) in
      rw (length-append (tokens t) (all_tokens ts)) (within_more (omega arith) (within_plus _ _ first others))

  -- of a claim whose numbers have a bound, and an atom whose tokens have one
  pub within_claim : (number few : ℕ) (a : Atom) (c : Claim) → nat_abs c.constant ≤ number → ((z : ℤ) → z ∈ c.coefficients → nat_abs z ≤ number)
      → AllWellFormed a.terms → token_count a.terms ≤ few → Within (number + number * (share * few)) (claim_form m a c)
  unfolding claim_form
  within_claim number few a c constant coefficients formed short =
      within_plus _ _ (within_constant c.constant constant)
      (within_more (mul-le-mul_left number (mul-le-mul_left share short)) (within_weighted number c.coefficients a.terms formed coefficients))

-- ---- forms with multipliers, added up

pub within_combined : (number bound : ℕ) (ms : List ℕ) (fs : List Form) → ((m : ℕ) → m ∈ ms → m ≤ number) → ((f : Form) → f ∈ fs → Within bound f) → Within (length ms * (number * bound)) (combined ms fs)
unfolding combined
within_combined number bound [] fs small within = within_zero _
within_combined number bound (m ∷ ms) [] small within = within_zero _
within_combined number bound (m ∷ ms) (f ∷ fs) small within =
    let first = within_times (pos m) f (small m (Memᴰ.head refl)) (within f (Memᴰ.head refl)) in
    let others = within_combined number bound ms fs (λ k l. small k (Memᴰ.tail l)) (λ g l. within g (Memᴰ.tail l)) in
    within_more (omega arith) (within_plus _ _ first others)

pub within_residual : (number bound : ℕ) (m : Measure) (claims : List Claim) (head : Atom) (subgoals : List Atom) (c : Claim) (ms : List ℕ)
    → Within bound (claim_form m head c) → ((k : ℕ) → k ∈ ms → k ≤ number) → ((f : Form) → f ∈ subgoal_forms m claims subgoals → Within bound f)
    → Within (bound + length ms * (number * bound)) (residual m claims head subgoals c ms)
unfolding residual
within_residual number bound m claims head subgoals c ms first small others = within_minus _ _ first (within_combined number bound ms _ small others)
