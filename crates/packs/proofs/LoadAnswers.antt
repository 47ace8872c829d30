-- What loading a text answers, by the tests of the whole text and what loading its lines leaves; and what check makes of it.
use mathlib.Core.Path.{◌≡◌, refl, sym, ◌∙◌, ap, subst⁻¹}
use mathlib.Core.Bool.{true, false}
use mathlib.Core.List.{List, [], ◌∷◌, ◌++◌}
use Prim.Native.Nat.{ℕ, zero, suc, ◌+◌, ◌-◌, ◌≤◌, ◌<◌}
use native.Mathlib.Omega.{arith}
use lib.Dec.{eqb}
use lib.IntN.{ℤ}
use lib.ListN.{length, get_or, drop}
use borrow.Author.Tests.{lt-ltb, le-ltb, eq-eqb, ne_eqb}
use Rattle.std.specs.Prelude.{Option, Some, None, Result, Ok, Err}
use Rattle.groundwork.proofs.Truth.{by_truth, eqb-equal}
use Rattle.theory.specs.Lists.{over}
use Rattle.theory.specs.Text.{Bytes, lines_of}
use Rattle.theory.specs.Written.{Written, nothing}
use Rattle.theory.specs.Faults.{whole}
use Rattle.theory.specs.Check.{Numbers, Judgement, numbers, plain, judge, is_finished, judgement_of, verdict_of, check_of}
use Rattle.theory.specs.Answers.{numbers_of, refusal_numbers}
use Rattle.theory.specs.declared.Refusal.{Refusal}
use Rattle.theory.specs.declared.Counts.{Counts}
use Rattle.forms.specs.declared.Form.{Form}
use Rattle.tables.specs.declared.State.{State}
use Rattle.tables.specs.Faults.{number_of}
use Rattle.tables.specs.declared.Tables.{Tables as Lasting}
use Rattle.tables.specs.declared.Fault.{Fault}
use Rattle.tables.specs.Tables.{Tables, Holds}
use Rattle.residuals.specs.Sums.{form_numbers}
use Rattle.lines.specs.declared.LoadedLines.{LoadedLines}
use Rattle.lines.specs.LineLoading.{fault_numbers, LinesLoadedFor}
use Rattle.tables.proofs.FaultNumbers.{number_some}
use Rattle.packs.specs.declared.Loaded.{Loaded}
use Rattle.packs.specs.Loading.{begun, fresh, Judges, Laid, Loads}
use Rattle.packs.proofs.FreshTables.{fresh_holds}

-- ---- the tests of the whole text

finished_at : (text : Bytes) (n : ℕ) → length text ≡ suc n → is_finished text ≡ eqb (get_or text n 0) 10
unfolding is_finished
finished_at [] n size = absurd (omega arith)
finished_at (b ∷ []) zero size = refl
finished_at (b ∷ []) (suc n) size = absurd (omega arith)
finished_at (b ∷ c ∷ bs) zero size = absurd (omega arith)
finished_at (b ∷ c ∷ bs) (suc n) size = finished_at (c ∷ bs) n (omega arith)

-- the last byte tells
finished_last : (text : Bytes) → (length text ≡ 0 → ⊥) → is_finished text ≡ eqb (get_or text (length text - 1) 0) 10
finished_last text some = finished_at text (length text - 1) (omega arith)

pub is_finished_lem : (text : Bytes) → (length text ≡ 0 → ⊥) → get_or text (length text - 1) 0 ≡ 10 → is_finished text ≡ true
is_finished_lem text some ends = finished_last text some ∙ eq-eqb _ _ ends

pub not_finished : (text : Bytes) → (length text ≡ 0 → ⊥) → (get_or text (length text - 1) 0 ≡ 10 → ⊥) → is_finished text ≡ false
not_finished text some goes_on = finished_last text some ∙ ne_eqb _ _ goes_on

pub none_unfinished : (text : Bytes) → length text ≡ 0 → is_finished text ≡ false
unfolding is_finished
none_unfinished [] size = refl
none_unfinished (b ∷ bs) size = absurd (omega arith)

pub long_text_lem : (text : Bytes) → 32768 < length text → verdict_of text ≡ plain (numbers 2 0 0 0)
unfolding judgement_of
long_text_lem text long = rw (lt-ltb _ _ long) refl

pub unfinished_text : (text : Bytes) → length text ≤ 32768 → is_finished text ≡ false → verdict_of text ≡ plain (numbers 3 0 0 0)
unfolding judgement_of
unfinished_text text short open_end = rw (le-ltb _ _ short, open_end) refl

pub judged_text : (text : Bytes) → length text ≤ 32768 → is_finished text ≡ true → verdict_of text ≡ judge whole nothing 0 (lines_of text)
unfolding judgement_of
judged_text text short finished = rw (le-ltb _ _ short, finished) refl

-- ---- refusals

-- what the answer of a refusal is
abbrev pub IsRefusal : Refusal → Loaded → Type 0
IsRefusal refusal r = (r.verdict ≡ Err refusal) × (r.residual ≡ None)

some_none : {form : Form} → ◌≡◌ {A = Option Form} None (Some form) → ⊥
some_none e = cc

pub refused_text : (text : Bytes) (refusal : Refusal) {r : Loaded} {t : Lasting} → IsRefusal refusal r → verdict_of text ≡ plain (refusal_numbers refusal) → ((refusal_numbers refusal).number ≡ 0 → ⊥) → Loads text r t
refused_text text refusal is verdict some =
    let answer = ap numbers_of is.0 in
    record {
      answer = answer ∙ ap (λ (j : Judgement). j.returned) (sym verdict);
      residue = λ form e. absurd (some_none (sym is.1 ∙ e));
      none = λ e. ap (λ (j : Judgement). j.residue) verdict;
      holds = λ zero. absurd (some (sym (ap (λ (n : Numbers). n.number) answer) ∙ zero));
    }

-- the number of a fault is the first of its numbers
fault_number : (f : Fault) (line rule claim : ℕ) → (fault_numbers f line rule claim).number ≡ number_of f
fault_number f line rule claim = by_truth (λ b. (fault_numbers f line rule claim).number ≡ number_of f) (eqb (number_of f) 13) (λ e. rw e (sym (eqb-equal _ _ e))) (λ e. rw e refl)

-- ---- the lines are judged, by what loading them tells, and that it leaves no residual where they all pass

module _ (text : Bytes) (short : length text ≤ 32768) (finished : is_finished text ≡ true) {s : State} {l : LoadedLines} {t₀ : Tables} {t : Lasting} (isBegun : s ≡ begun) (isFresh : t₀ ≡ fresh) (no_residual : l.ending ≡ Ok tt → l.residual ≡ None) (tells : (w : Written) → Holds t₀ s w → LinesLoadedFor whole text w l t) where
  loaded : LinesLoadedFor whole text nothing l t
  loaded = tells nothing (subst⁻¹ (λ (x : State). Holds t₀ x nothing) isBegun (subst⁻¹ (λ (x : Tables). Holds x begun nothing) isFresh fresh_holds))

  verdict : verdict_of text ≡ judge whole nothing 0 (lines_of text)
  verdict = judged_text text short finished

  module _ {answer : Result Counts Refusal} (judges : Judges l.ending l.line l.state answer) where
    -- a line is refused
    line_refused : (f : Fault) → l.ending ≡ Err f → Loads text (record { verdict = answer; residual = l.residual; state = l.state }) t
    line_refused f stopped = let numbered = judges.refused f stopped in record {
      answer = numbered ∙ sym (loaded.refused f stopped) ∙ ap (λ (j : Judgement). j.returned) (sym verdict);
      residue = λ form is long. ap (λ (j : Judgement). j.residue) verdict ∙ loaded.residue form is long;
      none = λ is. ap (λ (j : Judgement). j.residue) verdict ∙ loaded.none f stopped is;
      holds = λ zero. absurd (number_some f (sym (fault_number f l.line l.state.rules (l.state.multipliers + 1)) ∙ sym (ap (λ (n : Numbers). n.number) numbered) ∙ zero));
    }

    module _ (fine : l.ending ≡ Ok tt) where
      -- all lines pass, and the last is no end
      unended : l.state.ended ≡ false → Loads text (record { verdict = answer; residual = l.residual; state = l.state }) t
      unfolding judge
      unended still = refused_text text Refusal.NoEnd (judges.unended fine still, no_residual fine) (verdict ∙ loaded.passed fine ∙ rw (sym (loaded.holds fine).holds.ended ∙ still) refl) (λ zero. omega arith)

      -- accepted: the lines, the rules and the lines of multipliers; the tables hold the pack
      accepted : l.state.ended ≡ true → Loads text (record { verdict = answer; residual = l.residual; state = l.state }) t
      unfolding judge
      accepted ended =
          let is : verdict_of text ≡ plain (numbers 0 l.line l.state.rules l.state.multiplier_lines) =
          verdict ∙ loaded.passed fine ∙ rw (sym (loaded.holds fine).holds.ended ∙ ended, (loaded.holds fine).holds.rules, (loaded.holds fine).holds.lines) refl in
          record {
            answer = judges.accepted fine ended ∙ ap (λ (j : Judgement). j.returned) (sym is);
            residue = λ form e. absurd (some_none (sym (no_residual fine) ∙ e));
            none = λ e. ap (λ (j : Judgement). j.residue) is;
            holds = λ zero. loaded.holds fine;
          }

    by_ending : (ending : Result (Unit {0}) Fault) → l.ending ≡ ending → Loads text (record { verdict = answer; residual = l.residual; state = l.state }) t
    by_ending (Err f) stopped = line_refused f stopped
    by_ending (Ok tt) fine = by_truth (λ b. Loads text (record { verdict = answer; residual = l.residual; state = l.state }) t) l.state.ended (accepted fine) (unended fine)

    -- the verdict by how the lines end is that of the text
    pub lines_judged : Loads text (record { verdict = answer; residual = l.residual; state = l.state }) t
    lines_judged = by_ending l.ending refl

-- ---- check

pub short_area_lem : (text : Bytes) (area : List ℤ) → length area < 17 → (numbers 1 0 0 0 ≡ (check_of text area).returned) × (area ≡ (check_of text area).area)
unfolding check_of
short_area_lem text area short = rw (lt-ltb _ _ short) (refl, refl)

same_rest : (form : Form) (area : List ℤ) → length form.coefficients ≡ 16 → form_numbers form ++ drop 17 area ≡ over (form_numbers form) area
same_rest form area long = ap (λ (n : ℕ). form_numbers form ++ drop (suc n) area) (sym long)

pub none_left : {r : Option Form} → ((form : Form) → r ≡ Some form → ⊥) → r ≡ None
none_left {r = None} other = refl
none_left {r = Some form} other = absurd (other form refl)

module _ (text : Bytes) (area : List ℤ) (room : 17 ≤ length area) {r : Loaded} {t : Lasting} (loads : Loads text r t) where
  -- the residual lies over the area
  pub laid_area : {exit : List ℤ} (form : Form) → r.residual ≡ Some form → Laid area form exit → (numbers_of r.verdict ≡ (check_of text area).returned) × (exit ≡ (check_of text area).area)
  unfolding check_of
  laid_area form is laid =
      rw (le-ltb _ _ room, loads.residue form is laid.long) (loads.answer, laid.is ∙ same_rest form area laid.long)

  -- the area stays
  pub same_area : r.residual ≡ None → (numbers_of r.verdict ≡ (check_of text area).returned) × (area ≡ (check_of text area).area)
  unfolding check_of
  same_area none = rw (le-ltb _ _ room, loads.none none) (loads.answer, refl)
