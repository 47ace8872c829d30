-- Measure in words: its answer is an outcome, and there is no other. Proves MeasureTold of specs/MeasureTold.
use mathlib.Core.Path.{◌≡◌, refl, sym, ◌∙◌, ap}
use mathlib.Core.Bool.{Bool, true, false, cond}
use mathlib.Core.List.Memᴰ
use mathlib.Core.List.{List, [], ◌∷◌}
use mathlib.Core.Option.{Option, some, none, none-ne-some}
use Prim.Native.Nat.{◌≤◌}
use lib.ListN.{length}
use Rattle.groundwork.proofs.Truth.{by_truth, and_left, never_both}
use Rattle.groundwork.proofs.Lists.{member_unempty}
use Rattle.theory.specs.Lists.{every, is_empty, ◌∈◌}
use Rattle.theory.specs.Text.{Bytes, between}
use Rattle.theory.specs.Terms.{Term, WrittenAs, read_term, variables, IsGround}
use Rattle.theory.specs.Sizes.{structural, size}
use Rattle.theory.specs.Packs.{line_limit}
use Rattle.theory.specs.Faults.{is_unfit}
use Rattle.theory.specs.LinesTold.{Fit}
use Rattle.theory.specs.Measure.{Measured, measured, measure_term, measure_of}
use Rattle.theory.specs.MeasureTold.{MeasureOutcome, sized, unfit, not_term, has_variable, MeasureTold}
use Rattle.theory.proofs.Reading.Bytes.{is_field_byte, between_low, between_high}
use Rattle.theory.proofs.Reading.Every.{every_member}
use Rattle.theory.proofs.Reading.TermReading.{read_of_written, written_of_read, term_bytes}
use Rattle.theory.proofs.Judging.Fitness.{unfit_told, fit_told, unfit_exactly, fit_exactly}
use Rattle.theory.proofs.SectionForm.{section_form}

-- ---- variables

ground_of : (t : Term) → is_empty (variables t) ≡ true → IsGround t
unfolding is_empty
ground_of t = none_left (variables t)
  where
    none_left : (xs : List Bytes) → is_empty xs ≡ true → xs ≡ []
    none_left [] e = refl
    none_left (x ∷ xs) e = never_both e refl

variable_of : (t : Term) → is_empty (variables t) ≡ false → (x : Bytes) × (x ∈ variables t)
unfolding is_empty
variable_of t = some_left (variables t)
  where
    some_left : (xs : List Bytes) → is_empty xs ≡ false → (x : Bytes) × (x ∈ xs)
    some_left [] e = never_both refl e
    some_left (x ∷ xs) e = (x, Memᴰ.head refl)

module _ (bs : Bytes) where
  -- ---- the answer is an outcome

  told : MeasureOutcome bs (measure_of bs)
  unfolding measure_of measure_term
  told =
      by_truth (λ (b : Bool). MeasureOutcome bs (cond b (measured 4 0) (measure_term (read_term bs)))) (is_unfit bs)
      (λ e. unfit (unfit_told bs e)) (λ e. of_term (fit_told bs e) (read_term bs) refl)
    where
      of_term : Fit bs → (o : Option Term) → read_term bs ≡ o → MeasureOutcome bs (measure_term o)
      of_term fit none e = not_term fit λ t w. none-ne-some t (sym e ∙ ap read_term w.is ∙ read_of_written t w.formed)
      of_term fit (some t) e =
          let is = written_of_read bs t e in
          by_truth (λ (b : Bool). MeasureOutcome bs (cond b (measured 0 (size structural t)) (measured 19 0))) (is_empty (variables t))
          (λ g. rw (section_form t).first (sized t is (ground_of t g) fit.short))
          (λ g. let (x, m) = variable_of t g in has_variable fit t is x m)

  -- ---- and there is no other

  -- a written term has bytes of a field, so only its length is asked
  written_fit : (t : Term) → WrittenAs t bs → length bs ≤ line_limit → Fit bs
  written_fit t w short = record {
    short = short;
    bytes = λ b m.
        let h = and_left (between 32 126 b) _ (every_member is_field_byte (ap (every is_field_byte) w.is ∙ term_bytes t w.formed) m) in
        (between_low 32 126 b h, between_high 32 126 b h);
  }

  fit_answer : Fit bs → measure_of bs ≡ measure_term (read_term bs)
  unfolding measure_of
  fit_answer fit = rw ((fit_exactly bs).1 fit)

  term_answer : Fit bs → (t : Term) → WrittenAs t bs → measure_of bs ≡ cond (is_empty (variables t)) (measured 0 (size structural t)) (measured 19 0)
  unfolding measure_term
  term_answer fit t w = fit_answer fit ∙ ap measure_term (ap read_term w.is ∙ read_of_written t w.formed)

  only : (m : Measured) → MeasureOutcome bs m → m ≡ measure_of bs
  unfolding measure_of measure_term is_empty
  only m (sized t w g short) =
      sym (term_answer (written_fit t w short) t w ∙ rw (g, (section_form t).first) refl)
  only m (unfit u) = rw ((unfit_exactly bs).1 u)
  only m (not_term fit without) = sym (fit_answer fit ∙ unread (read_term bs) refl)
    where
      unread : (o : Option Term) → read_term bs ≡ o → measure_term o ≡ measured 11 0
      unread none e = refl
      unread (some t) e = absurd (without t (written_of_read bs t e))
  only m (has_variable fit t w x has) = sym (term_answer fit t w ∙ occurs (variables t) has)
    where
      occurs : (xs : List Bytes) → x ∈ xs → cond (is_empty xs) (measured 0 (size structural t)) (measured 19 0) ≡ measured 19 0
      occurs [] m = absurd (member_unempty m refl)
      occurs (y ∷ ys) m = refl

pub measure_told : MeasureTold
measure_told = record { told = told; only = only }
