-- The tables after an `M` line stand for what it writes: they stay, and the last rule has one list of multipliers more.
use mathlib.Core.Path.{◌≡◌, refl, sym, ◌∙◌}
use mathlib.Core.List.{List, [], ◌∷◌, nil≢cons}
use Prim.Native.Nat.{ℕ, suc}
use native.Mathlib.Omega.{arith}
use Rattle.groundwork.proofs.Lists.{length_end}
use Rattle.theory.specs.Lists.{ending}
use Rattle.theory.specs.Text.{Bytes, fields_of}
use Rattle.theory.specs.Packs.{Rule, on_multipliers, on_rules}
use Rattle.theory.specs.declared.Letter.TheVariants.{M}
use Rattle.theory.specs.Written.{line_letter, Written, on_last, add, write, multipliers_from}
use Rattle.theory.specs.Faults.{no_rule, last_rule}
use Rattle.theory.specs.Check.{multiplier_lines}
use Rattle.theory.proofs.Judging.LastRule.{last_changed}
use Rattle.tables.proofs.PredicateSets.{set_changed}
use Rattle.theory.proofs.Judging.LineWriting.{writes_letter}
use Rattle.theory.proofs.Judging.RuleCounts.{length_on_last}
use Rattle.tables.specs.declared.State.{State}
use Rattle.tables.specs.Tables.{Tables, RuleStands, Holds}
use Rattle.certificates.specs.Multipliers.{with_multipliers}

-- ---- what the line writes

m_written : (w : Written) (line : Bytes) → line_letter line ≡ M → write w line ≡ record { pack = on_rules (on_last (on_multipliers (ending (multipliers_from (fields_of line))))) w.pack; ended = w.ended }
unfolding add
m_written w line is = writes_letter M w line is refl

one_line_more : (ms : List ℕ) (rs : List Rule) → (rs ≡ [] → ⊥) → multiplier_lines (on_last (on_multipliers (ending ms)) rs) ≡ suc (multiplier_lines rs)
unfolding on_last multiplier_lines
one_line_more ms [] some = absurd (some refl)
one_line_more ms (r ∷ []) some = omega (arith, length_end r.multipliers ms)
one_line_more ms (r ∷ s ∷ rs) some = omega (arith, one_line_more ms (s ∷ rs) (λ e. nil≢cons (sym e)))

-- ---- the tables

module _ (t : Tables) (s : State) (w : Written) (line : Bytes) (is : line_letter line ≡ M) (holds : Holds t s w) (some : w.pack.rules ≡ [] → ⊥) where
  abbrev ms : List ℕ
  ms = multipliers_from (fields_of line)

  rule_after : RuleStands t (with_multipliers s) (on_rules (on_last (on_multipliers (ending ms))) w.pack) (on_multipliers (ending ms) (last_rule w.pack))
  rule_after =
      let rule = holds.last some in
      record {
        head = rule.head;
        head_key = rule.head_key;
        subgoals = rule.subgoals;
        variables = rule.variables;
        holds_variables = rule.holds_variables;
        head_rows = rule.head_rows;
        subgoal_rows = rule.subgoal_rows;
        slots = rule.slots;
        slot = rule.slot;
        multipliers = omega (arith, rule.multipliers, length_end (last_rule w.pack).multipliers ms);
      }

  pub m_holds : Holds t (with_multipliers s) (write w line)
  m_holds =
      rw (m_written w line is)
      (record {
        declares = holds.declares;
        claims = holds.claims;
        claimed = holds.claimed;
        shipped = holds.shipped;
        owing = holds.owing;
        headed = set_changed (on_multipliers (ending (multipliers_from (fields_of line)))) (λ r. refl) w.pack.rules holds.headed;
        rules = holds.rules ∙ sym (length_on_last (on_multipliers (ending ms)) w.pack.rules);
        lines = omega (arith, holds.lines, one_line_more ms w.pack.rules some);
        last = λ nonempty. rw (last_changed (on_multipliers (ending ms)) no_rule w.pack.rules some) rule_after;
        ended = holds.ended;
      })
