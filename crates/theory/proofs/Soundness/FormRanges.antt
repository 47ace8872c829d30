-- All forms of a line of multipliers that is judged, justified or not, have room in 64 bits.
use mathlib.Core.Path.{◌≡◌, refl, sym, subst, ◌∙◌}
use mathlib.Core.Logic.{◌⊎◌, ⊎_elim}
use mathlib.Core.Bool.{true, false}
use mathlib.Core.List.Memᴰ
use mathlib.Core.List.{List, map}
use Prim.Native.Nat.{ℕ, ◌+◌, ◌*◌, ◌≤◌}
use native.Mathlib.Omega.{arith}
use native.Mathlib.Nat.{le_trans}
use lib.IntN.{ℤ, pos}
use lib.ListN.{length, take, drop, length-take, take-append-drop}
use Rattle.groundwork.proofs.Truth.{not-true}
use Rattle.groundwork.proofs.Lists.{flat_map_member, length_flat_map, get_d_member}
use Rattle.theory.specs.Lists.{◌∈◌}
use Rattle.theory.specs.Text.{Bytes, fields_of}
use Rattle.theory.specs.Terms.{AllWellFormed}
use Rattle.theory.specs.Forms.{Form}
use Rattle.theory.specs.Packs.{Claim, Atom, Rule, Pack, measure_in, line_limit, claim_limit, subgoal_limit, number_limit, no_claim, atom_key, claims_on, head_line, subgoal_line, claim_line, fact_line, predicate_line, rule_lines, line, from_rules, from_facts, from_claims, from_predicates, opening}
use Rattle.theory.specs.declared.Letter.TheVariants.{M}
use Rattle.theory.specs.Written.{line_letter, Written, nothing, write_all, multipliers_from}
use Rattle.theory.specs.Residuals.{claim_form, subgoal_forms}
use Rattle.theory.specs.Faults.{whole, fault, no_rule, last_rule, head_claims, claim_due, may_stand, multiplier_tests, tests, is_complete}
use Rattle.theory.specs.Limits.{MultipliersFit}
use Rattle.theory.specs.Outcomes.{AllFine}
use Rattle.theory.specs.Ranges.{InRange, FormsInRange, FormsFit}
use Rattle.theory.proofs.Reading.TermLengths.{token_count, atom_line_length}
use Rattle.theory.proofs.Judging.Keys.{on_member}
use Rattle.theory.proofs.Judging.LastRule.{last_member}
use Rattle.theory.proofs.Judging.Completeness.{rule_from_incomplete, due_from_incomplete}
use Rattle.theory.proofs.Judging.Begun.{Begun}
use Rattle.theory.proofs.Judging.FaultNumbers.{OfLetter, past_place, passed_over}
use Rattle.theory.proofs.Judging.FineRuns.{ReachedShort, reached_short}
use Rattle.theory.proofs.Judging.MultiplierLines.{multipliers_fit}
use Rattle.theory.proofs.Soundness.SubgoalForms.{of_subgoal_lem}
use Rattle.theory.proofs.Soundness.FormBounds.{Within, within_more, within_times, within_combined, within_residual, structural_moderate, within_claim}

-- of a claim's form: its numbers times what the tokens of a line count
abbrev claim_form_limit : ℕ
claim_form_limit = number_limit + number_limit * (9 * line_limit)

-- of a residual's numbers: about 1.2 times 10 to the 14th
abbrev residual_limit : ℕ
residual_limit = claim_form_limit + subgoal_limit * claim_limit * (number_limit * claim_form_limit)

in_range_lem : {f : Form} → Within residual_limit f → InRange f
in_range_lem w = record { constant = omega (arith, w.constant); coefficient = λ x. omega (arith, w.coefficient x) }

small_range : {f : Form} → Within claim_form_limit f → InRange f
small_range w = in_range_lem (within_more (omega arith) w)

take_member : {A : Type 0} {a : A} (i : ℕ) (l : List A) → a ∈ take i l → a ∈ l
take_member {A} {a} i l m = subst (λ (k : List A). a ∈ k) (take-append-drop i l) (Memᴰ.append_left (drop i l) m)

-- a rule of a pack that lines have written so far
module _ (p : Pack) (so : ReachedShort p) (r : Rule) (is_rule : r ∈ p.rules) where
  begun : Begun (opening p) r
  begun = so.reached.rules r is_rule

  rule_line : (fields : List Bytes) → fields ∈ rule_lines r → length (line fields) ≤ line_limit
  unfolding from_predicates from_claims from_facts from_rules
  rule_line fields n = so.short fields (Memᴰ.append_right (map predicate_line p.predicates) (Memᴰ.append_right (map claim_line p.claims) (Memᴰ.append_right (map fact_line p.facts) (flat_map_member rule_lines is_rule n))))

  -- an atom's symbols and variables are no more than the bytes of its line
  head_tokens : token_count r.head.terms ≤ line_limit
  unfolding rule_lines head_line
  head_tokens = le_trans (atom_line_length _ r.head) (rule_line _ (Memᴰ.head refl))

  subgoal_tokens : (a : Atom) → a ∈ r.subgoals → token_count a.terms ≤ line_limit
  unfolding rule_lines subgoal_line
  subgoal_tokens a n = le_trans (atom_line_length _ a) (rule_line _ (Memᴰ.tail (Memᴰ.append_left _ (Memᴰ.map subgoal_line n))))

  claim_within : (a : Atom) → AllWellFormed a.terms → token_count a.terms ≤ line_limit → (c : Claim) → c ∈ p.claims → (cs : List ℤ) → ((z : ℤ) → z ∈ cs → z ∈ c.coefficients)
      → Within claim_form_limit (claim_form (measure_in p) a (record { name = c.name; constant = c.constant; coefficients = cs }))
  claim_within a formed few c m cs part =
      let claim = so.reached.claims c m in
      within_claim 9 (measure_in p) structural_moderate number_limit line_limit a _ claim.constant (λ z n. claim.coefficients z (part z n)) formed few

  form_within : (f : Form) → f ∈ subgoal_forms (measure_in p) p.claims r.subgoals → Within claim_form_limit f
  form_within f n =
      let found = of_subgoal_lem (measure_in p) p.claims r.subgoals f n in
      let a = found.subgoal in
      let claimed = (on_member (atom_key a) p.claims found.claim found.is_claim).0 in
      rw found.is (claim_within a (begun.subgoals a found.is_subgoal).formed (subgoal_tokens a found.is_subgoal) found.claim claimed found.claim.coefficients (λ z k. k))

  module _ (c : Claim) (is_claim : c ∈ p.claims) (ms : List ℕ) (fit : MultipliersFit p.claims r.subgoals ms) where
    few : length ms ≤ subgoal_limit * claim_limit
    few =
        let claims = length_flat_map (λ (a : Atom). claims_on (atom_key a) p.claims) claim_limit r.subgoals (λ a n. so.reached.few_claims (atom_key a)) in
        omega (arith, claims, begun.few_subgoals, fit.full)

    some_few : (i : ℕ) → length (take i ms) ≤ subgoal_limit * claim_limit
    some_few i = omega (arith, few, length-take i ms)

    small : (i : ℕ) (k : ℕ) → k ∈ take i ms → k ≤ number_limit
    small i k n = fit.small k (take_member i ms n)

    pub forms_in_range : FormsInRange p r c ms
    forms_in_range = record {
      head = λ i. small_range (claim_within r.head begun.head.formed head_tokens c is_claim (take i c.coefficients) (λ z n. take_member i _ n));
      subgoals = λ a m d n i.
          small_range (claim_within a (begun.subgoals a m).formed (subgoal_tokens a m) d (on_member (atom_key a) p.claims d n).0 (take i d.coefficients) (λ z k. take_member i _ k));
      multiples = λ f n k l. in_range_lem (within_more (omega arith) (within_times (pos k) f (fit.small k l) (form_within f n)));
      sums = λ i. in_range_lem (within_more (omega (arith, some_few i)) (within_combined number_limit claim_form_limit (take i ms) _ (small i) form_within));
      left = λ i.
          in_range_lem (within_more (omega (arith, some_few i)) (within_residual number_limit claim_form_limit (measure_in p) p.claims r.head r.subgoals c (take i ms)
          (claim_within r.head begun.head.formed head_tokens c is_claim c.coefficients (λ z n. n)) (small i) form_within));
    }

-- ---- from the bytes

-- a line of multipliers whose fault is none, or 13
module _ (before : List Bytes) (l : Bytes) (fine : AllFine whole nothing before) (is_m : line_letter l ≡ M) (n : ℕ) (has : fault whole (write_all nothing before) l ≡ n) (judged : (n ≡ 0) ⊎ (n ≡ 13)) where
  abbrev w : Written
  w = write_all nothing before

  apart : (k : ℕ) → (0 ≡ k → ⊥) → (13 ≡ k → ⊥) → n ≡ k → ⊥
  apart k notZero notLast is = ⊎_elim (λ z. notZero (sym z ∙ is)) (λ z. notLast (sym z ∙ is)) judged

  place : OfLetter whole w l n
  place = past_place whole w l n has (apart 4 (λ h. omega arith) (λ h. omega arith)) (apart 5 (λ h. omega arith) (λ h. omega arith))

  due : is_complete w.pack ≡ false
  unfolding may_stand
  due = not-true _ (rw is_m at place.stands)

  fits : MultipliersFit w.pack.claims (last_rule w.pack).subgoals (multipliers_from (fields_of l))
  unfolding tests multiplier_tests
  fits =
      let (counted, rest) = passed_over 9 n _ _ (λ h. apart 9 (λ k. omega arith) (λ k. omega arith) (sym h)) (rw is_m at place.found) in
      multipliers_fit w.pack (fields_of l) counted (passed_over 10 n _ _ (λ h. apart 10 (λ k. omega arith) (λ k. omega arith) (sym h)) rest).0

  judged_range : FormsInRange w.pack (last_rule w.pack) (claim_due w.pack) (multipliers_from (fields_of l))
  judged_range =
      let p = w.pack in
      let claimed = (on_member (atom_key (last_rule p).head) p.claims (claim_due p) (get_d_member (head_claims p) (length (last_rule p).multipliers) no_claim (due_from_incomplete p due))).0 in
      forms_in_range p (reached_short true before fine place.unended) (last_rule p) (last_member no_rule p.rules (rule_from_incomplete p due)) (claim_due p) claimed (multipliers_from (fields_of l)) fits

pub forms_fit : (text : Bytes) → FormsFit text
forms_fit text = record { in_range = λ before l after are fine is_m judged. judged_range before l fine is_m _ refl judged }
