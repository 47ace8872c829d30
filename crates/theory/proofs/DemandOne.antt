-- Demand 1, for check: every text and every area has one of the outcomes, and the area changes only for 13.
use mathlib.Core.Path.{◌≡◌, refl, subst, sym, ap, ◌∙◌}
use mathlib.Core.Bool.{Bool, true, false, cond}
use mathlib.Core.List.{List, ◌∷◌, ◌++◌}
use Prim.Native.Nat.{ℕ, ◌+◌, ◌-◌, ◌≤◌}
use native.Mathlib.Omega.{arith}
use native.Mathlib.Nat.{zero-add}
use lib.Dec.{eqb, ltb}
use lib.IntN.{ℤ}
use lib.ListN.{length, drop}
use lib.Seq.{drop_at}
use Rattle.groundwork.proofs.Truth.{eqb-unequal, eqb-equal, ltb-lt, ltb-ge, ge-ltb}
use Rattle.theory.specs.Lists.{over}
use Rattle.theory.specs.Text.{Bytes, lines_of, fields_of}
use Rattle.theory.specs.Packs.{Pack, text_limit}
use Rattle.theory.specs.Written.{Written, nothing, write_all, pack_of, multipliers_from}
use Rattle.theory.specs.Residuals.{area_needed}
use Rattle.theory.specs.Faults.{whole, fault, last_rule, residual_due}
use Rattle.theory.specs.Check.{Judgement, plain, numbers, multiplier_lines, refused, checked, check_of, Checked, judgement_of, verdict_of, is_finished, judge}
use Rattle.theory.specs.Outcomes.{AllFine, Judged, FirstFault, residual_for, Unjustified, Outcome, faulty, accepted, unjustified, no_end, short_area, long_text, unfinished}
use Rattle.theory.specs.Promises.{DemandOne}
use Rattle.theory.proofs.Judging.UnjustifiedLines.{unjustified_line_lem}
use Rattle.theory.proofs.Judging.JudgedLines.{JudgedAs, all_fine, fault_at, at_end, judged_as}
use Rattle.theory.proofs.Soundness.ResidualTold.{numbers_told}

-- ---- the residual's numbers

-- what is due on a line of multipliers, by the number of its claim
due_for : (p : Pack) (ms : List ℕ) → residual_due p ms ≡ residual_for p (last_rule p) (length (last_rule p).multipliers + 1) ms
unfolding residual_due
due_for p ms = let place : length (last_rule p).multipliers + 1 - 1 ≡ length (last_rule p).multipliers = omega arith in rw place

due_length : (p : Pack) (ms : List ℕ) → length (residual_due p ms) ≡ area_needed
unfolding residual_due
due_length p ms = (numbers_told _ _).count

-- ---- the outcomes

module _ (text : Bytes) (area : List ℤ) where
  -- of a judgement of the text's lines
  abbrev Told : Judgement → Type 0
  Told j = Outcome text area (checked j.returned (over j.residue area))

  refused_tells : Judged text area → (before : List Bytes) (l : Bytes) (after : List Bytes) → lines_of text ≡ before ++ l ∷ after → AllFine whole nothing before
      → (fault whole (write_all nothing before) l ≡ 0 → ⊥) → Told (refused (write_all nothing before) (length before + 1) l (fault whole (write_all nothing before) l))
  unfolding refused
  refused_tells judged before l after are fine has = go (eqb n 13) refl
    where
      w : Written
      w = write_all nothing before

      n : ℕ
      n = fault whole w l

      first : FirstFault text n (length before + 1)
      first = record { before = before; faulty = l; after = after; are = are; place = refl; fine = fine; has = refl; is_fault = has }

      unjust : n ≡ 13 → Unjustified text (length before + 1) (length w.pack.rules) (length (last_rule w.pack).multipliers + 1) (residual_due w.pack (multipliers_from (fields_of l)))
      unjust e =
          let line = unjustified_line_lem w l e in
          record {
            first = record { before = before; faulty = l; after = after; are = are; place = refl; fine = fine; has = e; is_fault = λ z. omega arith };
            is_rule = refl;
            is_due = refl;
            high = omega (arith, line.due);
            multipliers = multipliers_from (fields_of l);
            is_line = line.is_line;
            fit = line.fit;
            is_residual = due_for w.pack (multipliers_from (fields_of l));
            negative = line.negative;
          }

      go : (b : Bool) → eqb n 13 ≡ b → Told (cond b (record { returned = numbers 13 (length before + 1) (length w.pack.rules) (length (last_rule w.pack).multipliers + 1); residue = residual_due w.pack (multipliers_from (fields_of l)) }) (plain (numbers n (length before + 1) 0 0)))
      go true e =
          let residue = residual_due w.pack (multipliers_from (fields_of l)) in
          subst (λ (k : ℕ). Outcome text area (checked (numbers 13 (length before + 1) (length w.pack.rules) (length (last_rule w.pack).multipliers + 1)) (residue ++ drop k area)))
          (sym (due_length w.pack (multipliers_from (fields_of l)))) (unjustified judged (unjust (eqb-equal n 13 e)))
      go false e = faulty judged first (eqb-unequal n 13 e)

  end_tells : Judged text area → AllFine whole nothing (lines_of text) → Told (at_end (write_all nothing (lines_of text)) (length (lines_of text)))
  unfolding pack_of
  end_tells judged fine = go (write_all nothing (lines_of text)).ended refl
    where
      go : (b : Bool) → (write_all nothing (lines_of text)).ended ≡ b
          → Told (cond b (plain (numbers 0 (length (lines_of text)) (length (pack_of text).rules) (multiplier_lines (pack_of text).rules))) (plain (numbers 6 0 0 0)))
      go true e = accepted judged fine e
      go false e = no_end judged fine e

  lines_tell : Judged text area → {j : Judgement} → JudgedAs whole nothing 0 (lines_of text) j → Told j
  lines_tell judged (all_fine fine) = subst (λ (k : ℕ). Told (at_end (write_all nothing (lines_of text)) k)) (sym (zero-add _)) (end_tells judged fine)
  lines_tell judged (fault_at before l after are fine has) =
      let w = write_all nothing before in
      subst (λ (k : ℕ). Told (refused w (k + 1) l (fault whole w l))) (sym (zero-add (length before))) (refused_tells judged before l after are fine has)

  outcome : Outcome text area (check_of text area)
  unfolding check_of judgement_of
  outcome = room (ltb (length area) area_needed) refl
    where
      finished : area_needed ≤ length area → length text ≤ text_limit → (b : Bool) → is_finished text ≡ b → Told (cond b (judge whole nothing 0 (lines_of text)) (plain (numbers 3 0 0 0)))
      finished h k true e = lines_tell (record { room = h; short = k; finished = e }) (judged_as whole nothing 0 (lines_of text))
      finished h k false e = unfinished h k e

      long : area_needed ≤ length area → (b : Bool) → ltb text_limit (length text) ≡ b
          → Told (cond b (plain (numbers 2 0 0 0)) (cond (is_finished text) (judge whole nothing 0 (lines_of text)) (plain (numbers 3 0 0 0))))
      long h true e = long_text h (ltb-lt text_limit (length text) e)
      long h false e = finished h (ltb-ge text_limit (length text) e) (is_finished text) refl

      room : (b : Bool) → ltb (length area) area_needed ≡ b → Outcome text area (cond b (checked (numbers 1 0 0 0) area) (checked (verdict_of text).returned (over (verdict_of text).residue area)))
      room true e = short_area (ltb-lt (length area) area_needed e)
      room false e = long (ltb-ge (length area) area_needed e) (ltb text_limit (length text)) refl

  verdict : area_needed ≤ length area → (check_of text area).returned ≡ (verdict_of text).returned
  unfolding check_of
  verdict room = rw (ge-ltb (length area) area_needed room)

  -- ---- the area

  unchanged : {c : Checked} → Outcome text area c → (c.returned.number ≡ 13 → ⊥) → c.area ≡ area
  unchanged (accepted j f e) other = refl
  unchanged (short_area h) other = refl
  unchanged (long_text h k) other = refl
  unchanged (unfinished h k e) other = refl
  unchanged (no_end j f e) other = refl
  unchanged (faulty j f h) other = refl
  unchanged (unjustified j u) other = absurd (other refl)

  rest : {c : Checked} → Outcome text area c → drop area_needed c.area ≡ drop area_needed area
  rest (accepted j f e) = refl
  rest (short_area h) = refl
  rest (long_text h k) = refl
  rest (unfinished h k e) = refl
  rest (no_end j f e) = refl
  rest (faulty j f h) = refl
  rest (unjustified {residue = residue} j u) = drop_at residue (drop area_needed area) area_needed (ap length u.is_residual ∙ (numbers_told _ _).count)

pub demand_one : (text : Bytes) (area : List ℤ) → DemandOne text area
demand_one text area = record { outcome = outcome text area; verdict = verdict text area; unchanged = unchanged text area (outcome text area); rest = rest text area (outcome text area) }
