-- `H` lines: their terms, and the rule that they begin.
use mathlib.Core.Path.{◌≡◌, refl, sym, ◌∙◌, ap}
use mathlib.Core.List.{List, [], append-nil}
use Prim.Native.Nat.{ℕ, ◌≤◌, ◌<◌}
use native.Mathlib.Omega.{arith}
use lib.ListN.{length, drop}
use Rattle.std.specs.Prelude.{Result, Ok, Err}
use Rattle.groundwork.proofs.Lists.{length_end}
use Rattle.theory.specs.Lists.{ending}
use Rattle.theory.specs.Text.{Bytes, fields_of}
use Rattle.theory.specs.Terms.{all_variables}
use Rattle.theory.specs.Sizes.{Measure}
use Rattle.theory.specs.Packs.{Rule, measure_in, head_alone, on_rules, atom_key, rule_limit}
use Rattle.theory.specs.declared.Letter.TheVariants.{H}
use Rattle.theory.specs.Written.{Written, atom_from, terms_from, add}
use Rattle.theory.specs.Residuals.{numbered, atoms_variables, rule_variables}
use Rattle.theory.specs.Faults.{Manner, no_rule, first_given, head_tests, tests, fault}
use Rattle.theory.proofs.Judging.LastRule.{last_of_end}
use Rattle.theory.proofs.Judging.LineWriting.{writes_letter}
use Rattle.theory.proofs.Judging.RuleCounts.{multiplier_lines_end}
use Rattle.words.specs.declared.Words.{Words}
use Rattle.tables.specs.declared.State.{State}
use Rattle.tables.specs.declared.Opened.{Opened}
use Rattle.tables.specs.declared.Fault.{Fault}
use Rattle.tables.specs.declared.Fault.TheVariants.{CountLimit}
use Rattle.tables.specs.Faults.{number_of}
use Rattle.tables.specs.Tables.{Tables, tables, slots_of, SafeRows, RuleStands, Holds, Safe}
use Rattle.tables.specs.Lines.{OldPredicate, Passed, at, ClosedFor}
use Rattle.tables.proofs.Outcomes.{line_number}
use Rattle.tables.proofs.PredicateSets.{key_alone, set_ending}
use Rattle.atoms.specs.Fields.{FieldTerm, ProgressTerms}
use Rattle.atoms.proofs.AtomLines.{atom_ended, atom_fault, few_terms, Finished, finished}
use Rattle.rules.specs.Ends.{with_head, is_past, ClosesH}
use Rattle.rules.proofs.Ends.{limits_kept, limit_broken}

pub h_fault : {manner : Manner} {m : Measure} {line : Bytes} {s : State} {w : Written} {o : Opened} {atom index many : ℕ} {variables₀ variables : List Words} {rows₀ rows : List ℕ} {r : Result ℕ Fault} {f : Fault} → Passed manner H line s w o → index < length (drop 2 (fields_of line))
    → FieldTerm m atom index (at (drop 2 (fields_of line)) index) many variables₀ rows₀ r variables rows → r ≡ Err f → fault manner w line ≡ number_of f
unfolding tests head_tests
h_fault {line = line} {w = w} passed inside done bad = passed.left ∙ atom_fault H _ [] _ (fields_of line) w.pack inside done bad

-- ---- the line's end

-- the rule that a line with these fields begins
abbrev rule_begun : List Bytes → Rule
rule_begun fields = head_alone (atom_from fields)

abbrev head_variables : List Bytes → List Bytes
head_variables fields = rule_variables (atom_from fields) []

variables_of_head : (fields : List Bytes) → head_variables fields ≡ numbered [] (all_variables (terms_from (drop 2 fields)))
unfolding rule_variables atoms_variables atom_from
variables_of_head fields = ap (numbered []) (append-nil (all_variables (terms_from (drop 2 fields))))

module _ {line : Bytes} {t : Tables} {s : State} {w : Written} {o : Opened} {many : ℕ} {variables : List Words} {rows : List ℕ} (holds : Holds t s w) (named : OldPredicate (atom_key (atom_from (fields_of line))) 2 line w o) (few : many ≤ 16)
    (terms : Finished (measure_in w.pack) 0 (drop 2 (fields_of line)) (head_variables (fields_of line)) many variables t.rows rows) where
  abbrev filled : Tables
  filled = tables t.signatures t.claims variables rows t.slots

  head_stands : RuleStands filled (with_head o.predicate many s) (on_rules (ending (rule_begun (fields_of line))) w.pack) (rule_begun (fields_of line))
  unfolding atom_from mathlib.Core.List.flat_map
  head_stands = record {
    head = named.below;
    head_key = named.is;
    subgoals = refl;
    variables = terms.count few;
    holds_variables = terms.holds few;
    head_rows = terms.stands few;
    subgoal_rows = λ i h. absurd (omega arith);
    slots = refl;
    slot = λ k h. absurd (omega arith);
    multipliers = refl;
  }

  head_holds : Holds filled (with_head o.predicate many s) (record { pack = add H (fields_of line) w.pack; ended = w.ended })
  unfolding add
  head_holds = record {
    declares = holds.declares;
    claims = holds.claims;
    claimed = holds.claimed;
    shipped = holds.shipped;
    owing = holds.owing;
    headed = set_ending (λ (r : Rule). atom_key r.head) w.pack.rules (rule_begun (fields_of line)) holds.headed o.predicate (key_alone holds.declares o.predicate named.below) named.below named.is;
    rules = omega (arith, holds.rules, length_end w.pack.rules (rule_begun (fields_of line)));
    lines = omega (arith, holds.lines, multiplier_lines_end w.pack.rules (rule_begun (fields_of line)));
    last = λ unempty. rw (last_of_end no_rule w.pack.rules (rule_begun (fields_of line))) head_stands;
    ended = holds.ended;
  }

pub h_close : {manner : Manner} {line : Bytes} {t : Tables} {s : State} {w : Written} {o : Opened} {many : ℕ} {variables : List Words} {rows : List ℕ} {r : Result State Fault} → Holds t s w → Safe t s → Passed manner H line s w o
    → ProgressTerms (measure_in w.pack) 0 [] (drop 2 (fields_of line)) (length (drop 2 (fields_of line))) many variables t.rows rows → ClosesH o s many r → ClosedFor manner line w r (tables t.signatures t.claims variables rows t.slots)
unfolding tests head_tests first_given
h_close {line = line} {s = s} {w = w} {many = many} holds safe passed done closes =
    let terms = finished (few_terms passed.named holds safe) (variables_of_head (fields_of line)) done in
    record {
      answer = passed.left ∙ atom_ended H _ [] _ (fields_of line) w.pack terms.good ∙ rw (← holds.rules, ← terms.past) (sym (line_number CountLimit _ (is_past rule_limit s.rules many) closes.answer));
      holds = λ next fine.
          let kept = limits_kept rule_limit s.rules many _ closes.answer fine in
          rw (← kept.1, writes_letter H w line passed.first refl) (head_holds holds passed.named kept.0.few terms);
    }

-- the ranges are kept
pub h_safe : {t : Tables} {s : State} {o : Opened} {many : ℕ} {variables : List Words} {rows : List ℕ} {r : Result State Fault} → Safe t s → o.predicate < 32 → length variables ≡ 32 → length rows ≡ 1224 → SafeRows rows → ClosesH o s many r
    → (next : State) → r ≡ Ok next → Safe (tables t.signatures t.claims variables rows t.slots) next
unfolding slots_of
h_safe {s = s} {many = many} safe place name_size row_size small closes next fine =
    let kept = limits_kept rule_limit s.rules many _ closes.answer fine in
    rw (← kept.1) record {
      sizes = record { signatures = safe.sizes.signatures; claims = safe.sizes.claims; variables = name_size; rows = row_size; slots = safe.sizes.slots };
      state = record {
        predicates = safe.state.predicates;
        rules = omega (arith, kept.0.room);
        head = place;
        subgoals = omega arith;
        variables = kept.0.few;
        slots = omega arith;
        multipliers = omega arith;
        lines = omega (arith, safe.state.lines);
      };
      signatures = safe.signatures;
      claims = safe.claims;
      rows = small;
      slots = record { place = λ k h. absurd (omega arith); subgoal = λ k h. absurd (omega arith); few = λ subgoal. omega arith };
    }

pub h_limit : {o : Opened} {s : State} {many : ℕ} {r : Result State Fault} → ClosesH o s many r → (f : Fault) → r ≡ Err f → f ≡ CountLimit
h_limit {s = s} {many = many} closes f = limit_broken rule_limit s.rules many _ closes.answer
