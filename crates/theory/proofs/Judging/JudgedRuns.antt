-- Judging lines from the top: it ends without a refusal exactly on the lines of a run that ends with `E`.
use mathlib.Core.Path.{◌≡◌, refl, sym, ◌∙◌, ap}
use mathlib.Core.Bool.{Bool, true, false, cond}
use mathlib.Core.List.Memᴰ
use mathlib.Core.List.{List, [], ◌∷◌, ◌++◌, map}
use Prim.Native.Nat.{ℕ, ◌+◌, ◌≤◌}
use native.Mathlib.Omega.{arith}
use native.Mathlib.Nat.{add-zero}
use lib.Dec.{eqb}
use lib.ListN.{length}
use Rattle.groundwork.proofs.Lists.{member_unempty, all_cons}
use Rattle.groundwork.proofs.Truth.{never_both, eqb-equal, equal-eqb}
use Rattle.theory.specs.Lists.{◌∈◌, ending}
use Rattle.theory.specs.Text.{Bytes, fields_of}
use Rattle.theory.specs.Terms.{all_variables}
use Rattle.theory.specs.Packs.{Pack, line, end_line, line_limit, variable_limit, on_subgoals, on_multipliers, on_predicates, on_claims, head_alone}
use Rattle.theory.specs.Written.{Written, multipliers_from, write}
use Rattle.theory.specs.Residuals.{numbered, atoms_variables, rule_variables}
use Rattle.theory.specs.Faults.{residual_due, Manner, fault, is_complete, last_rule, last_of, no_rule}
use Rattle.theory.specs.Check.{Judgement, numbers, plain, multiplier_lines, refused, judge}
use Rattle.theory.proofs.Reading.Separators.{joined_of_parts}
use Rattle.theory.proofs.Judging.Steps.{Step, predicate_step, claim_step, fact_step, head_step, subgoal_step, multiplier_step, Run, stay, go}
use Rattle.theory.proofs.Judging.Sections.{no_rules, no_facts, no_claims}
use Rattle.theory.proofs.Judging.LastRule.{last_of_end, last_changed}
use Rattle.theory.proofs.Judging.Completeness.{rule_from_incomplete}
use Rattle.theory.proofs.Judging.LineReading.{as_whole, lacks_head, before, after, Fine, step, end, fine_from_fault, short_from_fault, fault_after_end, Read, read_fine}

-- the last rule so far has few enough variables
abbrev pub Few : Pack → Type 0
Few p = length (rule_variables (last_rule p).head (last_rule p).subgoals) ≤ variable_limit

pub no_rule_few : (p : Pack) → p.rules ≡ [] → Few p
unfolding last_of no_rule rule_variables numbered atoms_variables all_variables
no_rule_few p e = rw e (omega arith)

pub few_after : {p q : Pack} {fields : List Bytes} → Step p fields q → Few p → Few q
few_after {p} (predicate_step x n f d l) few = no_rule_few (on_predicates (ending x) p) (no_rules p (no_facts p (no_claims p n).1).1)
few_after {p} (claim_step c n f l) few = no_rule_few (on_claims (ending c) p) (no_rules p (no_facts p n).1)
few_after {p} (fact_step f n s m) few = few
few_after {p} (head_step a c f k l v) few = rw (last_of_end no_rule p.rules (head_alone a)) v
few_after {p} (subgoal_step a s m f l v) few = rw (last_changed (on_subgoals (ending a)) no_rule p.rules s) v
few_after {p} (multiplier_step ms c f n) few = rw (last_changed (on_multipliers (ending ms)) no_rule p.rules (rule_from_incomplete p c)) few

-- lines that are those of a run from p to q, and then `E`
pub record Accepted (refuses : Bool) (p : Pack) (ls : List Bytes) : Type 0 where
  pub end_pack : Pack
  pub fields : List (List Bytes)
  pub run : Run p fields end_pack
  pub complete : is_complete end_pack ≡ true
  pub headed : lacks_head refuses end_pack ≡ false
  pub are : ls ≡ map line (fields ++ (end_line ∷ []))
  pub short : (l : Bytes) → l ∈ ls → length l ≤ line_limit

-- a refusal's number is not 0
pub refused_number : (w : Written) (k : ℕ) (l : Bytes) (n : ℕ) → (refused w k l n).returned.number ≡ n
unfolding refused
refused_number w k l n = go (eqb n 13) refl
  where
    go : (b : Bool) → eqb n 13 ≡ b → (cond b (record { returned = numbers 13 k (length w.pack.rules) (length (last_rule w.pack).multipliers + 1); residue = residual_due w.pack (multipliers_from (fields_of l)) }) (plain (numbers n k 0 0))).returned.number ≡ n
    go true e = sym (eqb-equal n 13 e)
    go false e = refl

-- the verdict's number is 0 only if the line has no fault, and then it is that of the lines after
judge_step : (m : Manner) (w : Written) (k : ℕ) (l : Bytes) (ls : List Bytes) → (judge m w k (l ∷ ls)).returned.number ≡ 0 → (fault m w l ≡ 0) × ((judge m (write w l) (k + 1) ls).returned.number ≡ 0)
unfolding judge
judge_step m w k l ls e = go (eqb (fault m w l) 0) refl e
  where
    go : (b : Bool) → eqb (fault m w l) 0 ≡ b → (cond b (judge m (write w l) (k + 1) ls) (refused w (k + 1) l (fault m w l))).returned.number ≡ 0 → (fault m w l ≡ 0) × ((judge m (write w l) (k + 1) ls).returned.number ≡ 0)
    go true h e = (eqb-equal (fault m w l) 0 h, e)
    go false h e = never_both (equal-eqb (fault m w l) 0 (sym (refused_number w (k + 1) l (fault m w l)) ∙ e)) h

judged_end : (m : Manner) (p : Pack) (k : ℕ) (ls : List Bytes) → (judge m (after p) k ls).returned.number ≡ 0 → ls ≡ []
judged_end m p k [] e = refl
judged_end m p k (l ∷ ls) e = absurd (fault_after_end m p l (judge_step m (after p) k l ls e).0)

-- one line more in front
accepted_after : (refuses : Bool) (p : Pack) (k : ℕ) (l : Bytes) (ls fields : List Bytes) (w : Written) → Few p → Fine refuses p fields w → line fields ≡ l → length l ≤ line_limit → (judge (as_whole refuses) w k ls).returned.number ≡ 0
    → ((q : Pack) → Few q → (judge (as_whole refuses) (before q) k ls).returned.number ≡ 0 → Accepted refuses q ls) → Accepted refuses p (l ∷ ls)
accepted_after refuses p k l ls fields w few (step {q = q} s) is short e ih = longer (ih q (few_after s few) e)
  where
    longer : Accepted refuses q ls → Accepted refuses p (l ∷ ls)
    longer a = record {
      end_pack = a.end_pack;
      fields = fields ∷ a.fields;
      run = go s a.run;
      complete = a.complete;
      headed = a.headed;
      are = rw (← is, a.are);
      short = all_cons (λ x. length x ≤ line_limit) short a.short;
    }
accepted_after refuses p k l ls fields w few (end c h) is short e ih = record {
  end_pack = p;
  fields = [];
  run = stay;
  complete = c;
  headed = h;
  are = rw (judged_end (as_whole refuses) p k ls e, is);
  short = all_cons (λ x. length x ≤ line_limit) short (λ x m. absurd (member_unempty m (judged_end (as_whole refuses) p k ls e)));
}

pub accepted_from_judge : (refuses : Bool) (p : Pack) (k : ℕ) (ls : List Bytes) → Few p → (judge (as_whole refuses) (before p) k ls).returned.number ≡ 0 → Accepted refuses p ls
unfolding judge
accepted_from_judge refuses p k [] few e = absurd (omega arith)
accepted_from_judge refuses p k (l ∷ ls) few e =
    let (faultless, rest) = judge_step (as_whole refuses) (before p) k l ls e in
    accepted_after refuses p (k + 1) l ls (fields_of l) (write (before p) l) few (fine_from_fault refuses p l few faultless) (joined_of_parts 44 l) (short_from_fault (as_whole refuses) (before p) l faultless) rest (λ q. accepted_from_judge refuses q (k + 1) ls)

-- the verdict on a pack's lines, with the counts
abbrev pub counted : ℕ → Pack → Judgement
counted k p = plain (numbers 0 k (length p.rules) (multiplier_lines p.rules))

-- after k lines that write w, the verdict on these lines and on q, which they write
abbrev Judged : Bool → Written → ℕ → List Bytes → Pack → Type 0
Judged refuses w k ls q = judge (as_whole refuses) w k ls ≡ counted (k + length ls) q

judged_after : (refuses : Bool) (p q : Pack) (k : ℕ) (fields : List Bytes) (ls : List Bytes) (w : Written) → Read refuses p fields w → Judged refuses w (k + 1) ls q → Judged refuses (before p) k (line fields ∷ ls) q
unfolding judge
judged_after refuses p q k fields ls w read judged = rw (read.faultless, read.writes, judged) (ap (λ (n : ℕ). counted n q) (omega arith))

judged_last : (refuses : Bool) (q : Pack) (k : ℕ) → Judged refuses (after q) k [] q
unfolding judge
judged_last refuses q k = rw (add-zero k)

pub judged_run : (refuses : Bool) (p q : Pack) (k : ℕ) (fields : List (List Bytes)) → Run p fields q → is_complete q ≡ true → lacks_head refuses q ≡ false
    → ((l : Bytes) → l ∈ map line (fields ++ (end_line ∷ [])) → length l ≤ line_limit) → judge (as_whole refuses) (before p) k (map line (fields ++ (end_line ∷ []))) ≡ counted (k + length (map line (fields ++ (end_line ∷ [])))) q
judged_run refuses p q k fields stay c h short = judged_after refuses p p k end_line [] (after p) (read_fine refuses p end_line (after p) (end c h) (short _ (Memᴰ.head refl))) (judged_last refuses p (k + 1))
judged_run refuses p q k fields (go {q = r} {fields = f} {rest = rest} s run) c h short =
    judged_after refuses p q k f _ (before r) (read_fine refuses p f (before r) (step s) (short _ (Memᴰ.head refl))) (judged_run refuses r q (k + 1) rest run c h (λ l m. short l (Memᴰ.tail m)))
