-- Judging but for 24: it never gives 24; where judging gives no 24 either, both are the same, and where it does, judging but
-- for 24 goes past that line.
use mathlib.Core.Path.{◌≡◌, refl, sym, ◌∙◌, ap, subst}
use mathlib.Core.Bool.{Bool, true, false, cond, not, ◌&&◌, ◌||◌, or-true}
use mathlib.Core.List.{List, [], ◌∷◌}
use Prim.Native.Nat.{ℕ, ◌+◌, ◌<◌}
use native.Mathlib.Omega.{arith}
use lib.Dec.{eqb, ltb}
use lib.ListN.{length}
use Rattle.groundwork.proofs.Truth.{by_truth, eqb-equal}
use Rattle.theory.specs.Lists.{any}
use Rattle.theory.specs.Text.{Bytes, fields_of, lines_of}
use Rattle.theory.specs.Packs.{Pack, text_limit}
use Rattle.theory.specs.declared.Letter.{Letter}
use Rattle.theory.specs.declared.Letter.TheVariants.{P, C, G, H, B, M, E, NoLetter}
use Rattle.theory.specs.Written.{line_letter, Written, nothing, write}
use Rattle.theory.specs.Faults.{Test, test, first_given, is_unfit, is_headless, Manner, but_for_heads, predicate_tests, claim_tests, atom_tests, fact_tests, head_tests, subgoal_tests, multiplier_tests, end_tests, tests, fault}
use Rattle.theory.specs.Check.{Judgement, numbers, plain, multiplier_lines, refused, judge, is_finished, judgement_of}
use Rattle.theory.specs.Promises.{GoesPast, ends, unfit, misplaced}
use Rattle.theory.proofs.Judging.FaultNumbers.{Below, first_below, passed_over}
use Rattle.theory.proofs.Judging.LineWriting.{write_as}
use Rattle.theory.proofs.Judging.JudgedRuns.{refused_number}

-- a test in front of some that agree unless they give n
first_agrees : (n : ℕ) (t : Test) (ts us : List Test) → ((first_given ts ≡ n → ⊥) → first_given us ≡ first_given ts) → (first_given (t ∷ ts) ≡ n → ⊥) → first_given (t ∷ us) ≡ first_given (t ∷ ts)
unfolding first_given
first_agrees n t ts us agree other =
    by_truth (λ (b : Bool). (cond b t.number (first_given ts) ≡ n → ⊥) → cond b t.number (first_given us) ≡ cond b t.number (first_given ts)) t.finds (λ e o. refl) (λ e o. agree o) other

-- the last test, left out
last_agrees : (n : ℕ) (b : Bool) → (first_given (test n b ∷ []) ≡ n → ⊥) → first_given (test n false ∷ []) ≡ first_given (test n b ∷ [])
unfolding first_given
last_agrees n true other = absurd (other refl)
last_agrees n false other = refl

-- ---- 24 is that of an `E` line

below_24 : (ts : List Test) → Below 24 ts → first_given ts ≡ 24 → ⊥
below_24 ts low e = omega (arith, first_below 24 ts (omega arith) low, e)

is_end_lem : (m : Manner) (letter : Letter) (fields : List Bytes) (p : Pack) → first_given (tests m letter fields p) ≡ 24 → letter ≡ E
unfolding tests predicate_tests claim_tests atom_tests fact_tests head_tests subgoal_tests multiplier_tests first_given
is_end_lem m P fields p e = absurd (below_24 (predicate_tests fields p) (omega arith) e)
is_end_lem m C fields p e = absurd (below_24 (claim_tests fields p) (omega arith) e)
is_end_lem m G fields p e = absurd (below_24 (fact_tests fields p) (omega arith) e)
is_end_lem m H fields p e = absurd (below_24 (head_tests fields p) (omega arith) e)
is_end_lem m B fields p e = absurd (below_24 (subgoal_tests fields p) (omega arith) e)
is_end_lem m M fields p e = absurd (below_24 (multiplier_tests fields p) (omega arith) e)
is_end_lem m E fields p e = refl
is_end_lem m NoLetter fields p e = absurd (omega (arith, e))

-- after it nothing may stand, whatever the manner
ended_fault : (m : Manner) (w : Written) (l : Bytes) → w.ended ≡ true → fault m w l ≡ cond (is_unfit l) 4 5
unfolding fault first_given
ended_fault m w l e = rw e

ended_past : (m : Manner) (w : Written) (k : ℕ) (ls : List Bytes) → w.ended ≡ true → GoesPast k (judge m w k ls)
unfolding judge refused
ended_past m w k [] e = rw e ends
ended_past m w k (l ∷ ls) e =
    rw (ended_fault m w l e)
    (by_truth (λ (b : Bool). GoesPast k (cond (eqb (cond b 4 5) 0) (judge m (write w l) (k + 1) ls) (refused w (k + 1) l (cond b 4 5)))) (is_unfit l) (λ t. unfit) (λ t. misplaced))

module _ (m : Manner) where
  -- ---- a line

  tests_agree : (letter : Letter) (fields : List Bytes) (p : Pack) → (first_given (tests m letter fields p) ≡ 24 → ⊥) → first_given (tests (but_for_heads m) letter fields p) ≡ first_given (tests m letter fields p)
  unfolding tests end_tests
  tests_agree P fields p other = refl
  tests_agree C fields p other = refl
  tests_agree G fields p other = refl
  tests_agree H fields p other = refl
  tests_agree B fields p other = refl
  tests_agree M fields p other = refl
  tests_agree E fields p other = first_agrees 24 _ _ _ (last_agrees 24 (m.refuses_headless && any (is_headless p) p.predicates)) other
  tests_agree NoLetter fields p other = refl

  fault_agrees : (w : Written) (l : Bytes) → (fault m w l ≡ 24 → ⊥) → fault (but_for_heads m) w l ≡ fault m w l
  unfolding fault
  fault_agrees w l other = first_agrees 24 _ _ _ (first_agrees 24 _ _ _ (tests_agree (line_letter l) (fields_of l) w.pack)) other

  no_test_24 : (letter : Letter) (fields : List Bytes) (p : Pack) → first_given (tests (but_for_heads m) letter fields p) ≡ 24 → ⊥
  unfolding tests end_tests first_given
  no_test_24 letter fields p e = at_end_lem (subst (λ (x : Letter). first_given (tests (but_for_heads m) x fields p) ≡ 24) (is_end_lem (but_for_heads m) letter fields p e) e)
    where
      at_end_lem : first_given (tests (but_for_heads m) E fields p) ≡ 24 → ⊥
      at_end_lem e = let last = (passed_over 9 24 (not (eqb (length fields) 1)) (test 24 false ∷ []) (λ h. omega arith) e).1 in omega (arith, last)

  no_fault_24 : (w : Written) (l : Bytes) → fault (but_for_heads m) w l ≡ 24 → ⊥
  unfolding fault
  no_fault_24 w l e = no_test_24 (line_letter l) (fields_of l) w.pack (passed_over 5 24 _ _ (λ h. omega arith) (passed_over 4 24 _ _ (λ h. omega arith) e).1).1

  -- the tests before 24 have passed
  end_clear : (w : Written) (l : Bytes) → fault m w l ≡ 24 → (is_unfit l ≡ false) × ((w.ended || not (m.allows w.pack (line_letter l))) ≡ false) × (line_letter l ≡ E) × (not (eqb (length (fields_of l)) 1) ≡ false)
  unfolding fault tests end_tests
  end_clear w l e =
      let (fit, rest) = passed_over 4 24 (is_unfit l) _ (λ h. omega arith) e in
      let (placed, found) = passed_over 5 24 (w.ended || not (m.allows w.pack (line_letter l))) _ (λ h. omega arith) rest in
      let isE = is_end_lem m (line_letter l) (fields_of l) w.pack found in
      (fit, placed, isE, (passed_over 9 24 (not (eqb (length (fields_of l)) 1)) _ (λ h. omega arith) (rw isE at found)).0)

  end_passes : (w : Written) (l : Bytes) → fault m w l ≡ 24 → fault (but_for_heads m) w l ≡ 0
  unfolding fault tests end_tests first_given
  end_passes w l e = let (fit, placed, isE, counted) = end_clear w l e in rw (fit, placed, isE, counted)

  end_ends : (w : Written) (l : Bytes) → fault m w l ≡ 24 → (write w l).ended ≡ true
  end_ends w l e = ap (λ (v : Written). v.ended) (write_as E w l (end_clear w l e).2) ∙ or-true w.ended

  -- ---- lines

  lines_agree : (w : Written) (k : ℕ) (ls : List Bytes) → ((judge m w k ls).returned.number ≡ 24 → ⊥) → judge (but_for_heads m) w k ls ≡ judge m w k ls
  unfolding judge
  lines_agree w k [] other = refl
  lines_agree w k (l ∷ ls) other =
      by_truth (λ (b : Bool). ((cond b (judge m (write w l) (k + 1) ls) (refused w (k + 1) l (fault m w l))).returned.number ≡ 24 → ⊥)
      → judge (but_for_heads m) w k (l ∷ ls) ≡ cond b (judge m (write w l) (k + 1) ls) (refused w (k + 1) l (fault m w l))) (eqb (fault m w l) 0)
      (λ fine o. rw (fault_agrees w l (λ e. omega (arith, eqb-equal (fault m w l) 0 fine, e)), fine) (lines_agree (write w l) (k + 1) ls o))
      (λ faulty o. rw (fault_agrees w l (λ e. o (refused_number w (k + 1) l (fault m w l) ∙ e)), faulty))
      other

  no_line_24 : (w : Written) (k : ℕ) (ls : List Bytes) → (judge (but_for_heads m) w k ls).returned.number ≡ 24 → ⊥
  unfolding judge
  no_line_24 w k [] e = by_truth (λ (b : Bool). (cond b (plain (numbers 0 k (length w.pack.rules) (multiplier_lines w.pack.rules))) (plain (numbers 6 0 0 0))).returned.number ≡ 24 → ⊥) w.ended (λ t e. omega arith) (λ t e. omega arith) e
  no_line_24 w k (l ∷ ls) e =
      by_truth (λ (b : Bool). (cond b (judge (but_for_heads m) (write w l) (k + 1) ls) (refused w (k + 1) l (fault (but_for_heads m) w l))).returned.number ≡ 24 → ⊥) (eqb (fault (but_for_heads m) w l) 0)
      (λ fine e. no_line_24 (write w l) (k + 1) ls e)
      (λ faulty e. no_fault_24 w l (sym (refused_number w (k + 1) l (fault (but_for_heads m) w l)) ∙ e))
      e

  lines_past : (w : Written) (k : ℕ) (ls : List Bytes) → (judge m w k ls).returned.number ≡ 24 → GoesPast (judge m w k ls).returned.line (judge (but_for_heads m) w k ls)
  unfolding judge refused
  lines_past w k [] e = absurd (no_line_24 w k [] e)
  lines_past w k (l ∷ ls) e =
      by_truth (λ (b : Bool). (cond b (judge m (write w l) (k + 1) ls) (refused w (k + 1) l (fault m w l))).returned.number ≡ 24
      → GoesPast (cond b (judge m (write w l) (k + 1) ls) (refused w (k + 1) l (fault m w l))).returned.line (judge (but_for_heads m) w k (l ∷ ls))) (eqb (fault m w l) 0)
      (λ fine e. rw (fault_agrees w l (λ n. omega (arith, eqb-equal (fault m w l) 0 fine, n)), fine) (lines_past (write w l) (k + 1) ls e))
      (λ faulty e. let n = sym (refused_number w (k + 1) l (fault m w l)) ∙ e in rw (n, end_passes w l n) (ended_past (but_for_heads m) (write w l) (k + 1) ls (end_ends w l n)))
      e

  -- ---- a text

  -- its lines are judged, or it is refused with 2 or 3 in any manner
  by_text : (text : Bytes) (Q : Judgement → Judgement → Type 0) → Q (judge (but_for_heads m) nothing 0 (lines_of text)) (judge m nothing 0 (lines_of text))
      → ((n : ℕ) → n < 4 → Q (plain (numbers n 0 0 0)) (plain (numbers n 0 0 0))) → Q (judgement_of (but_for_heads m) text) (judgement_of m text)
  unfolding judgement_of
  by_text text Q judged early =
      by_truth (λ (long : Bool). Q (cond long (plain (numbers 2 0 0 0)) (cond (is_finished text) (judge (but_for_heads m) nothing 0 (lines_of text)) (plain (numbers 3 0 0 0))))
      (cond long (plain (numbers 2 0 0 0)) (cond (is_finished text) (judge m nothing 0 (lines_of text)) (plain (numbers 3 0 0 0))))) (ltb text_limit (length text))
      (λ e. early 2 (omega arith))
      (λ e. by_truth (λ (finished : Bool). Q (cond finished (judge (but_for_heads m) nothing 0 (lines_of text)) (plain (numbers 3 0 0 0))) (cond finished (judge m nothing 0 (lines_of text)) (plain (numbers 3 0 0 0)))) (is_finished text)
      (λ f. judged) (λ f. early 3 (omega arith)))

  pub judgements_agree : (text : Bytes) → ((judgement_of m text).returned.number ≡ 24 → ⊥) → judgement_of (but_for_heads m) text ≡ judgement_of m text
  judgements_agree text other = by_text text (λ j k. (k.returned.number ≡ 24 → ⊥) → j ≡ k) (lines_agree nothing 0 (lines_of text)) (λ n few o. refl) other

  pub no_judgement_24 : (text : Bytes) → (judgement_of (but_for_heads m) text).returned.number ≡ 24 → ⊥
  no_judgement_24 text e = by_text text (λ j k. j.returned.number ≡ 24 → ⊥) (no_line_24 nothing 0 (lines_of text)) (λ n few e. omega arith) e

  pub goes_past : (text : Bytes) → (judgement_of m text).returned.number ≡ 24 → GoesPast (judgement_of m text).returned.line (judgement_of (but_for_heads m) text)
  goes_past text e = by_text text (λ j k. k.returned.number ≡ 24 → GoesPast k.returned.line j) (lines_past nothing 0 (lines_of text)) (λ n few e. absurd (omega arith)) e
