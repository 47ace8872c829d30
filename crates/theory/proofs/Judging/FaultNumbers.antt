-- The numbers of faults: none is over 24, and 13 is only that of a line of multipliers that may stand.
use mathlib.Core.Path.{◌≡◌, refl, sym}
use mathlib.Core.Bool.{Bool, true, false, cond, not, ◌||◌}
use mathlib.Core.List.{List, [], ◌∷◌}
use Prim.Native.Nat.{ℕ, ◌<◌}
use native.Mathlib.Omega.{arith}
use lib.Dec.{eqb}
use Rattle.groundwork.proofs.Truth.{by_truth, eqb-unequal, not-false, or_not_left, or_not_right}
use Rattle.theory.specs.Text.{Bytes, fields_of}
use Rattle.theory.specs.Packs.{Pack}
use Rattle.theory.specs.declared.Letter.{Letter}
use Rattle.theory.specs.declared.Letter.TheVariants.{P, C, G, H, B, M, E, NoLetter}
use Rattle.theory.specs.Written.{line_letter, Written}
use Rattle.theory.specs.Faults.{Test, test, first_given, is_unfit, Manner, predicate_tests, claim_tests, atom_tests, fact_tests, head_tests, subgoal_tests, multiplier_tests, end_tests, tests, fault}
use Rattle.theory.proofs.Judging.Tests.{◌then◌}

-- no test has a number as high
abbrev pub Below : ℕ → List Test → Type 0
Below n [] = Unit {0}
Below n (t ∷ ts) = (t.number < n) × Below n ts

pub first_below : (n : ℕ) (ts : List Test) → 0 < n → Below n ts → first_given ts < n
unfolding first_given
first_below n [] h b = h
first_below n (t ∷ ts) h b = by_truth (λ (c : Bool). cond c t.number (first_given ts) < n) t.finds (λ e. b.0) (λ e. first_below n ts h b.1)

tests_below : (m : Manner) (letter : Letter) (fields : List Bytes) (p : Pack) → Below 25 (tests m letter fields p)
unfolding tests predicate_tests claim_tests atom_tests fact_tests head_tests subgoal_tests multiplier_tests end_tests
tests_below m P fields p = omega arith
tests_below m C fields p = omega arith
tests_below m G fields p = omega arith
tests_below m H fields p = omega arith
tests_below m B fields p = omega arith
tests_below m M fields p = omega arith
tests_below m E fields p = omega arith
tests_below m NoLetter fields p = tt

pub fault_small : (m : Manner) (w : Written) (l : Bytes) → fault m w l < 25
unfolding fault
fault_small m w l = first_below 25 _ (omega arith) (omega arith then omega arith then tests_below m (line_letter l) (fields_of l) w.pack)

-- ---- 13

-- a fault past 5: the line may stand, and its own letter's tests find it
pub record OfLetter (m : Manner) (w : Written) (l : Bytes) (n : ℕ) : Type 0 where
  pub unended : w.ended ≡ false
  pub stands : m.allows w.pack (line_letter l) ≡ true
  pub found : first_given (tests m (line_letter l) (fields_of l) w.pack) ≡ n

-- the first test of some is passed over
pub passed_over : (k n : ℕ) (b : Bool) (ts : List Test) → (k ≡ n → ⊥) → first_given (test k b ∷ ts) ≡ n → (b ≡ false) × (first_given ts ≡ n)
unfolding first_given
passed_over k n true ts other e = absurd (other e)
passed_over k n false ts other e = (refl, e)

pub past_place : (m : Manner) (w : Written) (l : Bytes) (n : ℕ) → fault m w l ≡ n → (n ≡ 4 → ⊥) → (n ≡ 5 → ⊥) → OfLetter m w l n
unfolding fault
past_place m w l n e notFour notFive =
    let rest = (passed_over 4 n (is_unfit l) _ (λ h. notFour (sym h)) e).1 in
    let (placed, found) = passed_over 5 n (w.ended || not (m.allows w.pack (line_letter l))) _ (λ h. notFive (sym h)) rest in
    record {
      unended = or_not_left w.ended _ placed;
      stands = not-false (m.allows w.pack (line_letter l)) (or_not_right w.ended _ placed);
      found = found;
    }

-- no test has this number
abbrev Without : ℕ → List Test → Type 0
Without n [] = Unit {0}
Without n (t ∷ ts) = (eqb t.number n ≡ false) × Without n ts

first_other : (n : ℕ) (ts : List Test) → 0 < n → Without n ts → first_given ts ≡ n → ⊥
unfolding first_given
first_other n [] h others e = omega arith
first_other n (t ∷ ts) h others e =
    by_truth (λ (c : Bool). cond c t.number (first_given ts) ≡ n → ⊥) t.finds (λ found e. eqb-unequal t.number n others.0 e) (λ missed e. first_other n ts h others.1 e) e

-- lines of other letters have no 13
pub thirteen_is_m : (m : Manner) (letter : Letter) (fields : List Bytes) (p : Pack) → first_given (tests m letter fields p) ≡ 13 → letter ≡ M
unfolding tests predicate_tests claim_tests atom_tests fact_tests head_tests subgoal_tests end_tests
thirteen_is_m m P fields p e = absurd (first_other 13 (predicate_tests fields p) (omega arith) (refl then refl then refl then refl then refl then tt) e)
thirteen_is_m m C fields p e = absurd (first_other 13 (claim_tests fields p) (omega arith) (refl then refl then refl then refl then tt) e)
thirteen_is_m m G fields p e = absurd (first_other 13 (fact_tests fields p) (omega arith) (refl then refl then refl then refl then refl then refl then tt) e)
thirteen_is_m m H fields p e = absurd (first_other 13 (head_tests fields p) (omega arith) (refl then refl then refl then refl then tt) e)
thirteen_is_m m B fields p e = absurd (first_other 13 (subgoal_tests fields p) (omega arith) (refl then refl then refl then refl then tt) e)
thirteen_is_m m M fields p e = refl
thirteen_is_m m E fields p e = absurd (first_other 13 (end_tests m fields p) (omega arith) (refl then refl then tt) e)
thirteen_is_m m NoLetter fields p e = absurd (first_other 13 (tests m NoLetter fields p) (omega arith) tt e)
