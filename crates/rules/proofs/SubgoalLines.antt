-- `B` lines: their terms, and the subgoal that they add.
use mathlib.Core.Path.{◌≡◌, refl, sym, ◌∙◌, ap}
use mathlib.Core.Bool.{true, not, ◌||◌, cond}
use mathlib.Core.List.{List, [], ◌∷◌, ◌++◌, append-nil}
use Prim.Native.Nat.{ℕ, suc, ◌+◌, ◌≤◌, ◌<◌}
use native.Mathlib.Omega.{arith}
use borrow.Author.Count.{below_more}
use lib.Dec.{leb, ltb}
use lib.ListN.{length, drop, length-append}
use Rattle.std.specs.Prelude.{Result, Ok, Err}
use Rattle.groundwork.proofs.Lists.{get_d_member, length_end}
use Rattle.groundwork.proofs.Truth.{by_truth, not-true, and_left, leb-gt}
use Rattle.theory.specs.Lists.{◌∈◌, is_empty, ending}
use Rattle.theory.specs.Text.{Bytes, fields_of}
use Rattle.theory.specs.Terms.{all_variables}
use Rattle.theory.specs.Sizes.{Measure}
use Rattle.theory.specs.Packs.{Atom, Rule, Pack, measure_in, on_subgoals, on_rules, atom_key, claims_on, claims_on_all, subgoal_limit}
use Rattle.theory.specs.declared.Letter.TheVariants.{B}
use Rattle.theory.specs.Written.{Written, on_last, atom_from, terms_from, add}
use Rattle.theory.specs.Residuals.{numbered, atoms_variables, rule_variables}
use Rattle.theory.specs.Faults.{Manner, no_rule, first_given, is_term, last_rule, may_stand, subgoal_tests, tests, fault}
use Rattle.theory.proofs.Judging.Keys.{on_arity}
use Rattle.theory.proofs.Judging.LastRule.{last_changed}
use Rattle.theory.proofs.Judging.LineWriting.{writes_letter}
use Rattle.theory.proofs.Judging.RuleCounts.{length_on_last, multiplier_lines_subgoal}
use Rattle.theory.proofs.Judging.RuleVariables.{variables_of_more}
use Rattle.theory.proofs.Judging.Variables.{head_variable, subgoal_variable}
use Rattle.theory.proofs.Reading.Places.{each_and_last, places_every}
use Rattle.theory.proofs.Reading.Presence.{is_filled}
use Rattle.words.specs.declared.Words.{Words}
use Rattle.tables.specs.declared.Slot.{Slot}
use Rattle.tables.specs.declared.Signature.{Signature}
use Rattle.tables.specs.declared.State.{State}
use Rattle.tables.specs.declared.Opened.{Opened}
use Rattle.tables.specs.declared.Fault.{Fault}
use Rattle.tables.specs.declared.Fault.TheVariants.{CountLimit}
use Rattle.tables.specs.Faults.{number_of, closing_number}
use Rattle.tables.specs.Tables.{signature_at, Tables, tables, SafeRows, AtomStands, no_atom, subgoal_at, SlotStands, RuleStands, Holds, Safe}
use Rattle.tables.specs.Lines.{OldPredicate, Passed, at, ClosedFor}
use Rattle.tables.proofs.Outcomes.{line_number}
use Rattle.tables.proofs.PredicateSets.{set_changed}
use Rattle.atoms.specs.Fields.{subgoal_atom, FieldTerm}
use Rattle.atoms.proofs.StatedAtoms.{subgoal_next}
use Rattle.atoms.proofs.TermFields.{t_read}
use Rattle.atoms.proofs.TermRows.{atom_over_more, terms_begin, term_field}
use Rattle.atoms.proofs.AtomLines.{atom_ended, atom_fault, few_terms, Finished, finished}
use Rattle.rules.specs.Subgoals.{ProgressSubgoal}
use Rattle.rules.specs.Ends.{with_subgoal, is_past, SlotsAdded, ClosesB}
use Rattle.rules.proofs.Ends.{limits_kept, limit_broken}
use Rattle.rules.proofs.RuleSlots.{below_sum, claims_more, slot_before, slot_after, slots_safe}

-- a rule is there
ruleful : (p : Pack) → may_stand p B ≡ true → p.rules ≡ [] → ⊥
unfolding may_stand
ruleful p stands = is_filled p.rules (not-true (is_empty p.rules) (and_left (not (is_empty p.rules)) (is_empty (last_rule p).multipliers) stands))

pub b_begin : (line : Bytes) {t : Tables} {s : State} {w : Written} → Holds t s w → may_stand w.pack B ≡ true → ProgressSubgoal line w s t 0 s.variables t.variables t.rows
b_begin line {t} {s} {w} holds stands =
    let rule = holds.last (ruleful w.pack stands) in
    record {
      terms = λ room. terms_begin (measure_in w.pack) (suc s.subgoals) (rule_variables (last_rule w.pack).head (last_rule w.pack).subgoals) (drop 2 (fields_of line)) t.rows rule.holds_variables rule.variables;
      good = λ i h. absurd (omega arith);
    }

pub b_field : {line : Bytes} {t : Tables} {s : State} {w : Written} {index many : ℕ} {variables₀ variables : List Words} {rows₁ rows : List ℕ} {r : Result ℕ Fault} {n : ℕ} → index < 8
    → index < length (drop 2 (fields_of line)) → length rows₁ ≡ 1224 → ProgressSubgoal line w s t index many variables₀ rows₁
    → FieldTerm (measure_in w.pack) (subgoal_atom s.subgoals) index (at (drop 2 (fields_of line)) index) many variables₀ rows₁ r variables rows → r ≡ Ok n → ProgressSubgoal line w s t (suc index) n variables rows
b_field {line = line} {s = s} {index = index} place inside size before done fine = record {
  terms = λ room. term_field (omega arith) place inside size (before.terms room) (rw (subgoal_next s.subgoals room) at done) fine;
  good = λ i h. below_more (λ j. is_term (at (drop 2 (fields_of line)) j) ≡ true) index before.good (t_read done fine).0 i (omega arith);
}

pub b_fault : {manner : Manner} {m : Measure} {line : Bytes} {s : State} {w : Written} {o : Opened} {atom index many : ℕ} {variables₀ variables : List Words} {rows₀ rows : List ℕ} {r : Result ℕ Fault} {f : Fault} → Passed manner B line s w o → index < length (drop 2 (fields_of line))
    → FieldTerm m atom index (at (drop 2 (fields_of line)) index) many variables₀ rows₀ r variables rows → r ≡ Err f → fault manner w line ≡ number_of f
unfolding tests subgoal_tests
b_fault {line = line} {w = w} passed inside done bad = passed.left ∙ atom_fault B _ [] _ (fields_of line) w.pack inside done bad

-- ---- the line's end

-- the last rule and the subgoal that the line adds to it; the rule's variables without it and with it
module _ (line : Bytes) (w : Written) where
  abbrev rule : Rule
  rule = last_rule w.pack

  abbrev added : Atom
  added = atom_from (fields_of line)

  abbrev before : List Bytes
  before = rule_variables rule.head rule.subgoals

  abbrev all : List Bytes
  all = rule_variables rule.head (rule.subgoals ++ (added ∷ []))

  variables_of_subgoal : all ≡ numbered before (all_variables (terms_from (drop 2 (fields_of line))))
  unfolding atoms_variables atom_from
  variables_of_subgoal = variables_of_more rule.head rule.subgoals (added ∷ []) ∙ ap (numbered before) (append-nil (all_variables (terms_from (drop 2 (fields_of line)))))

  -- the line's fault is what closing it answers
  subgoal_answer : (subgoals many : ℕ) (next : State) (r : Result State Fault) → subgoals ≡ length rule.subgoals → (subgoals < 8 → ltb 16 many ≡ ltb 16 (length all))
      → r ≡ cond (is_past subgoal_limit subgoals many) (Err CountLimit) (Ok next) → cond (leb 8 (length rule.subgoals) || ltb 16 (length all)) 12 0 ≡ closing_number r
  subgoal_answer subgoals many next r count past answer =
      rw (← count)
      (by_truth (λ b. closing_number r ≡ cond (b || ltb 16 many) 12 0 → cond (b || ltb 16 (length all)) 12 0 ≡ closing_number r) (leb 8 subgoals)
      (λ h e. sym e)
      (λ h e. rw (← past (leb-gt 8 subgoals h)) (sym e))
      (line_number CountLimit next (is_past subgoal_limit subgoals many) answer))

  -- ---- what the line leaves

  module _ {t : Tables} {s : State} {o : Opened} {many : ℕ} {variables : List Words} {rows : List ℕ} {slots : List Slot} (holds : Holds t s w) (named : OldPredicate (atom_key added) 2 line w o) (stands : RuleStands t s w.pack rule) (few : many ≤ 16)
      (terms : Finished (measure_in w.pack) (suc s.subgoals) (drop 2 (fields_of line)) all many variables t.rows rows) (laid : SlotsAdded t.slots s.slots o.predicate (signature_at t.signatures o.predicate).claims s.subgoals slots) where
    abbrev filled : Tables
    filled = tables t.signatures t.claims variables rows slots

    abbrev count : ℕ
    count = (signature_at t.signatures o.predicate).claims

    -- the rows of the other atoms
    atom_kept : (atom : ℕ) (a : Atom) → atom < suc s.subgoals → ((x : Bytes) → x ∈ all_variables a.terms → x ∈ before) → AtomStands (measure_in w.pack) t.rows atom before a.terms → AtomStands (measure_in w.pack) rows atom all a.terms
    atom_kept atom a earlier within stand =
        rw variables_of_subgoal
        (atom_over_more before (all_variables (terms_from (drop 2 (fields_of line)))) (rw variables_of_subgoal at (terms.holds few).once) (rw variables_of_subgoal at (terms.holds few).few)
        t.rows rows atom (suc s.subgoals) a.terms earlier terms.before within stand)

    subgoal_rows_lem : (i : ℕ) → i < length (rule.subgoals ++ (added ∷ [])) → AtomStands (measure_in w.pack) rows (suc i) all (subgoal_at (rule.subgoals ++ (added ∷ [])) i).terms
    unfolding atom_from
    subgoal_rows_lem =
        each_and_last (λ a i. AtomStands (measure_in w.pack) rows (suc i) all a.terms) rule.subgoals added no_atom
        (λ i here. atom_kept (suc i) (subgoal_at rule.subgoals i) (omega (arith, stands.subgoals)) (subgoal_variable rule.head rule.subgoals (subgoal_at rule.subgoals i) (get_d_member rule.subgoals i no_atom here)) (stands.subgoal_rows i here))
        (rw (← stands.subgoals) (terms.stands few))

    claims_counted : count ≡ length (claims_on (atom_key added) w.pack.claims)
    claims_counted = holds.claims.count o.predicate named.below ∙ ap (λ k. length (claims_on k w.pack.claims)) named.is

    slots_counted : s.slots + count ≡ length (claims_on_all w.pack.claims (rule.subgoals ++ (added ∷ [])))
    slots_counted = omega (arith, stands.slots, claims_counted, ap length (claims_more w.pack.claims rule.subgoals added), length-append (claims_on_all w.pack.claims rule.subgoals) (claims_on (atom_key added) w.pack.claims))

    slot_added : (j : ℕ) → j < count → SlotStands (measure_in w.pack) t.claims slots w.pack.claims (rule.subgoals ++ (added ∷ [])) (s.slots + j)
    unfolding atom_from
    slot_added j inside =
        let here = rw (holds.claims.count o.predicate named.below) at inside in
        slot_after t.claims t.slots slots w.pack.claims rule.subgoals added (s.slots + j) j (omega (arith, stands.slots))
        (rw (laid.added j inside, ← named.is) (holds.claims.at o.predicate j named.below here))
        (ap (λ (slot : Slot). slot.subgoal) (laid.added j inside) ∙ stands.subgoals)
        (on_arity (atom_key added) w.pack.claims j (rw claims_counted at inside))

    slot_stands : (k : ℕ) → k < s.slots + count → SlotStands (measure_in w.pack) t.claims slots w.pack.claims (rule.subgoals ++ (added ∷ [])) k
    slot_stands = below_sum (SlotStands (measure_in w.pack) t.claims slots w.pack.claims (rule.subgoals ++ (added ∷ []))) s.slots count
        (λ k here. slot_before t.claims t.slots slots w.pack.claims rule.subgoals added k (omega (arith, stands.slots)) (laid.before k here) (stands.slot k here))
        slot_added

    subgoal_stands : RuleStands filled (with_subgoal (s.slots + count) many s) (on_rules (on_last (on_subgoals (ending added))) w.pack) (on_subgoals (ending added) rule)
    subgoal_stands = record {
      head = stands.head;
      head_key = stands.head_key;
      subgoals = omega (arith, stands.subgoals, length_end rule.subgoals added);
      variables = terms.count few;
      holds_variables = terms.holds few;
      head_rows = atom_kept 0 rule.head (omega arith) (head_variable rule.head rule.subgoals) stands.head_rows;
      subgoal_rows = subgoal_rows_lem;
      slots = slots_counted;
      slot = slot_stands;
      multipliers = stands.multipliers;
    }

    subgoal_holds : (w.pack.rules ≡ [] → ⊥) → Holds filled (with_subgoal (s.slots + count) many s) (record { pack = add B (fields_of line) w.pack; ended = w.ended })
    unfolding add
    subgoal_holds unempty = record {
      declares = holds.declares;
      claims = holds.claims;
      claimed = holds.claimed;
      shipped = holds.shipped;
      owing = holds.owing;
      headed = set_changed (on_subgoals (ending (atom_from (fields_of line)))) (λ r. refl) w.pack.rules holds.headed;
      rules = holds.rules ∙ sym (length_on_last (on_subgoals (ending added)) w.pack.rules);
      lines = holds.lines ∙ sym (multiplier_lines_subgoal added w.pack.rules);
      last = λ h. rw (last_changed (on_subgoals (ending added)) no_rule w.pack.rules unempty) subgoal_stands;
      ended = holds.ended;
    }

pub b_close : {manner : Manner} {line : Bytes} {t : Tables} {s : State} {w : Written} {o : Opened} {many : ℕ} {variables : List Words} {rows : List ℕ} {slots : List Slot} {r : Result State Fault} → Holds t s w → Safe t s → Passed manner B line s w o
    → ProgressSubgoal line w s t (length (drop 2 (fields_of line))) many variables rows → ClosesB o s many t.signatures t.slots r slots → ClosedFor manner line w r (tables t.signatures t.claims variables rows slots)
unfolding tests subgoal_tests first_given
b_close {line} {t} {s} {w} {o} {many} {variables} {rows} {slots} {r} holds safe passed done closes =
    let unempty = ruleful w.pack passed.stands in
    let stands = holds.last unempty in
    record {
      answer =
          passed.left
          ∙ atom_ended B _ [] _ (fields_of line) w.pack (places_every is_term (drop 2 (fields_of line)) [] done.good)
          ∙ subgoal_answer line w s.subgoals many _ r stands.subgoals (λ room. (terms room).past) closes.answer;
      holds = λ next fine.
          let kept = limits_kept subgoal_limit s.subgoals many _ closes.answer fine in
          rw (← kept.1, writes_letter B w line passed.first refl)
          (subgoal_holds line w holds passed.named stands kept.0.few (terms kept.0.room) (closes.slots_are kept.0.unpassed) unempty);
    }
  where
    terms : s.subgoals < 8 → Finished (measure_in w.pack) (suc s.subgoals) (drop 2 (fields_of line)) (all line w) many variables t.rows rows
    terms room = finished (few_terms passed.named holds safe) (variables_of_subgoal line w) (done.terms room)

-- the ranges are kept
pub b_safe : {t : Tables} {s : State} {o : Opened} {many : ℕ} {variables : List Words} {rows : List ℕ} {slots : List Slot} {r : Result State Fault} → Safe t s → o.predicate < 32 → length variables ≡ 32 → length rows ≡ 1224 → SafeRows rows
    → ClosesB o s many t.signatures t.slots r slots → (next : State) → r ≡ Ok next → Safe (tables t.signatures t.claims variables rows slots) next
b_safe {t} {s} {o} {many} {variables} {rows} {slots} safe place name_size row_size small closes next fine =
    let kept = limits_kept subgoal_limit s.subgoals many _ closes.answer fine in
    let count = safe.signatures.count o.predicate place in
    let laid = closes.slots_are kept.0.unpassed in
    rw (← kept.1) record {
      sizes = record { signatures = safe.sizes.signatures; claims = safe.sizes.claims; variables = name_size; rows = row_size; slots = laid.size ∙ safe.sizes.slots };
      state = record {
        predicates = safe.state.predicates;
        rules = safe.state.rules;
        head = safe.state.head;
        subgoals = omega (arith, kept.0.room);
        variables = kept.0.few;
        slots = omega (arith, safe.state.slots);
        multipliers = safe.state.multipliers;
        lines = safe.state.lines;
      };
      signatures = safe.signatures;
      claims = safe.claims;
      rows = small;
      slots = slots_safe t.slots slots s.slots o.predicate (signature_at t.signatures o.predicate).claims s.subgoals place count safe.slots laid;
    }

pub b_limit : {o : Opened} {s : State} {many : ℕ} {signatures : List Signature} {slots₀ : List Slot} {r : Result State Fault} {slots : List Slot} → ClosesB o s many signatures slots₀ r slots → (f : Fault) → r ≡ Err f → f ≡ CountLimit
b_limit {s = s} {many = many} closes f = limit_broken subgoal_limit s.subgoals many _ closes.answer
