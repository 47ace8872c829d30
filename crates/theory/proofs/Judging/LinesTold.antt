-- Which numbers apply to a line, in words. Proves LineTold and LetterTold of specs/LinesTold.
use mathlib.Core.Path.{◌≡◌, refl, sym, ◌∙◌, ap}
use mathlib.Core.Bool.{Bool, true, false, cond, not, ◌&&◌, ◌||◌, or-false}
use mathlib.Core.Logic.{⊎_elim, ◌↔◌}
use mathlib.Core.List.Memᴰ
use mathlib.Core.List.{List, [], ◌∷◌, nil≢cons}
use Prim.Native.Nat.{ℕ}
use native.Mathlib.Omega.{arith}
use lib.Dec.{eqb}
use lib.ListN.{get_or}
use Rattle.groundwork.proofs.Truth.{by_truth, never_both, and_both, or_left, or_right, eqb-equal, equal-eqb}
use Rattle.theory.specs.Lists.{◌∈◌}
use Rattle.theory.specs.Text.{Bytes, fields_of}
use Rattle.theory.specs.Packs.{Pack}
use Rattle.theory.specs.declared.Letter.{Letter}
use Rattle.theory.specs.declared.Letter.TheVariants.{P, C, G, H, B, M, E, NoLetter}
use Rattle.theory.specs.Written.{line_letter, Written}
use Rattle.theory.specs.Faults.{Test, first_given, is_unfit, may_stand, whole, predicate_tests, claim_tests, atom_tests, fact_tests, head_tests, subgoal_tests, multiplier_tests, end_tests, tests, line_tests, fault}
use Rattle.theory.specs.LinesTold.{found, applying, LineTold}
use Rattle.theory.proofs.Judging.Fitness.{unfit_exactly}
use Rattle.theory.proofs.Judging.LineReading.{tests_numbered}
use Rattle.theory.proofs.Judging.Tests.{◌then◌, Numbered}

-- ---- the numbers found

-- a test with this number finds its fault
abbrev pub is_found : ℕ → List Test → Bool
is_found n [] = false
is_found n (t ∷ ts) = (eqb t.number n && t.finds) || is_found n ts

module _ (n : ℕ) where
  found_test : (ts : List Test) → n ∈ found ts → is_found n ts ≡ true
  unfolding found
  found_test [] m = absurd (Memᴰ.not-nil m)
  found_test (t ∷ ts) m =
      by_truth (λ (b : Bool). n ∈ cond b (t.number ∷ found ts) (found ts) → ((eqb t.number n && b) || is_found n ts) ≡ true) t.finds
      (λ e m. ⊎_elim (λ (is : n ≡ t.number). or_left (eqb t.number n && true) (is_found n ts) (and_both (eqb t.number n) true (equal-eqb t.number n (sym is)) refl)) (λ (later : n ∈ found ts). or_right (eqb t.number n && true) (is_found n ts) (found_test ts later)) (Memᴰ.cases_cons m))
      (λ e m. or_right (eqb t.number n && false) (is_found n ts) (found_test ts m))
      m

  test_found : (ts : List Test) → is_found n ts ≡ true → n ∈ found ts
  unfolding found
  test_found [] e = never_both e refl
  test_found (t ∷ ts) e = go t.finds (eqb t.number n) refl (test_found ts) e
    where
      go : (finds same : Bool) → eqb t.number n ≡ same → (is_found n ts ≡ true → n ∈ found ts) → ((same && finds) || is_found n ts) ≡ true → n ∈ cond finds (t.number ∷ found ts) (found ts)
      go true true is below e = Memᴰ.head (sym (eqb-equal t.number n is))
      go true false is below e = Memᴰ.tail (below e)
      go false true is below e = below e
      go false false is below e = below e

-- ---- the first of them

first_of_found : (ts : List Test) (n : ℕ) (rest : List ℕ) → found ts ≡ n ∷ rest → first_given ts ≡ n
unfolding found first_given
first_of_found [] n rest e = absurd (nil≢cons e)
first_of_found (t ∷ ts) n rest e = go t.finds (first_of_found ts n rest) e
  where
    go : (finds : Bool) → (found ts ≡ n ∷ rest → first_given ts ≡ n) → cond finds (t.number ∷ found ts) (found ts) ≡ n ∷ rest → cond finds t.number (first_given ts) ≡ n
    go true below e = ap (λ (l : List ℕ). get_or l 0 0) e
    go false below e = below e

none_found : (ts : List Test) → Numbered ts → (found ts ≡ []) ↔ (first_given ts ≡ 0)
unfolding found first_given
none_found [] numbered = (λ e. refl, λ e. refl)
none_found (t ∷ ts) numbered = go t.finds (none_found ts numbered.1)
  where
    go : (finds : Bool) → (found ts ≡ []) ↔ (first_given ts ≡ 0) → (cond finds (t.number ∷ found ts) (found ts) ≡ []) ↔ (cond finds t.number (first_given ts) ≡ 0)
    go true below = (λ e. absurd (nil≢cons (sym e)), λ e. absurd (omega (arith, numbered.0)))
    go false below = below

-- ---- of every line

-- no letter's own tests have the number 4 or 5
no_four : (letter : Letter) (fields : List Bytes) (p : Pack) → is_found 4 (tests whole letter fields p) ≡ false
unfolding tests predicate_tests claim_tests atom_tests fact_tests head_tests subgoal_tests multiplier_tests end_tests
no_four P fields p = refl
no_four C fields p = refl
no_four G fields p = refl
no_four H fields p = refl
no_four B fields p = refl
no_four M fields p = refl
no_four E fields p = refl
no_four NoLetter fields p = refl

no_five : (letter : Letter) (fields : List Bytes) (p : Pack) → is_found 5 (tests whole letter fields p) ≡ false
unfolding tests predicate_tests claim_tests atom_tests fact_tests head_tests subgoal_tests multiplier_tests end_tests
no_five P fields p = refl
no_five C fields p = refl
no_five G fields p = refl
no_five H fields p = refl
no_five B fields p = refl
no_five M fields p = refl
no_five E fields p = refl
no_five NoLetter fields p = refl

module _ (w : Written) (l : Bytes) where
  -- what a number's own test says is what it is to apply
  pub told : (n : ℕ) (b : Bool) {Words : Type 0} → is_found n (line_tests whole w l) ≡ b → (b ≡ true) ↔ Words → (n ∈ applying w l) ↔ Words
  told n b is words = (λ m. words.0 (sym is ∙ found_test n (line_tests whole w l) m), λ h. test_found n (line_tests whole w l) (is ∙ words.1 h))

  -- what 5 says: after an `E`, or where the letter may not stand
  pub five_is : is_found 5 (line_tests whole w l) ≡ (w.ended || not (may_stand w.pack (line_letter l)))
  five_is = ap (λ (b : Bool). (w.ended || not (may_stand w.pack (line_letter l))) || b) (no_five (line_letter l) (fields_of l) w.pack) ∙ or-false _

  pub line_told : LineTold w l
  unfolding fault
  line_told = record {
    none = none_found (line_tests whole w l) (omega arith then omega arith then tests_numbered whole (line_letter l) (fields_of l) w.pack);
    first = first_of_found (line_tests whole w l);
    unfit = told 4 (is_unfit l) (ap (λ (b : Bool). is_unfit l || b) (no_four (line_letter l) (fields_of l) w.pack) ∙ or-false (is_unfit l)) (unfit_exactly l);
    after_end = λ e. test_found 5 (line_tests whole w l) (five_is ∙ or_left _ _ e);
  }
