-- What the call answers, by the pack's verdict and the page's room.
use mathlib.Core.Path.{◌≡◌, refl, sym, ◌∙◌, ap, subst}
use Prim.Native.Nat.{ℕ, ◌*◌, ◌≤◌, ◌<◌}
use native.Mathlib.Omega.{arith}
use lib.ListN.{length}
use Rattle.std.specs.Prelude.{Result, Ok, Err}
use Rattle.std.specs.Result.{MatchResult, IsErrAnd}
use Rattle.groundwork.proofs.Truth.{equal-eqb, eqb-different, lt-ltb, ge-ltb}
use Rattle.theory.specs.Lists.{over}
use Rattle.theory.specs.Text.{Bytes}
use Rattle.theory.specs.Written.{pack_of}
use Rattle.theory.specs.Check.{Numbers, numbers, verdict_of, Judgement}
use Rattle.theory.specs.Answers.{refusal_numbers, numbers_of}
use Rattle.theory.specs.declared.Counts.{Counts}
use Rattle.theory.specs.declared.Refusal.{Refusal}
use Rattle.theory.specs.declared.FilingRefusal.{FilingRefusal}
use Rattle.theory.specs.declared.FilingRefusal.TheVariants.{NotAccepted}
use Rattle.theory.specs.Pages.{after_verdict}
use Rattle.theory.specs.Sheet.{sheet, sheet_of}
use Rattle.theory.proofs.Judging.Acceptance.{accepted_pack}
use Rattle.theory.proofs.Reserving.RefusalNumbers.{refusal_number}
use Rattle.theory.proofs.SheetKept.{sheet_length}
use Rattle.sheets.specs.Readiness.{Ready}

-- what `map_err` made a refusal of
pub error_made : (r : Result Counts Refusal) {s : Result Counts FilingRefusal} {d : FilingRefusal} → MatchResult r (λ x. s ≡ Ok x) (λ e. IsErrAnd s (λ f. f ≡ NotAccepted e)) → s ≡ Err d
    → (e : Refusal) × (r ≡ Err e) × (d ≡ NotAccepted e)
error_made (Ok x) made is = absurd (ok_never_err (sym made ∙ is))
  where
    ok_never_err : {A B : Type 0} {a : A} {b : B} → ◌≡◌ {A = Result A B} (Ok a) (Err b) → ⊥
    ok_never_err e = cc
error_made (Err e) made is = (e, refl, subst (λ s. IsErrAnd s (λ f. f ≡ NotAccepted e)) is made)

-- the answer of the definition: its numbers, and the page at exit
abbrev pub Answers : Bytes → Bytes → Numbers → Bytes → Type 0
Answers text page n last = (n ≡ (sheet_of text page).returned) × (last ≡ (sheet_of text page).page)

pub refused_pack : (text page : Bytes) (refusal : Refusal) → refusal_numbers refusal ≡ (verdict_of text).returned → Answers text page (refusal_numbers refusal) page
unfolding sheet_of after_verdict
refused_pack text page refusal judged =
    let other = eqb-different (verdict_of text).returned.number 0 (λ zero. omega (arith, refusal_number refusal, ap (λ (n : Numbers). n.number) judged)) in
    rw other (judged, refl)

module _ (text page : Bytes) {counts : Counts} (judged : numbers_of (Ok counts) ≡ (verdict_of text).returned) where
  is_accepted : (verdict_of text).returned.number ≡ 0
  is_accepted = ap (λ (n : Numbers). n.number) (sym judged)

  rules_counted : counts.rules ≡ length (pack_of text).rules
  rules_counted = ap (λ (n : Numbers). n.rule) judged ∙ ap (λ (j : Judgement). j.returned.rule) (accepted_pack text is_accepted).verdict

  module _ {rules : ℕ} (many : rules ≡ counts.rules) where
    room : length (sheet (pack_of text).rules) ≡ 65 * rules
    room = sheet_length text is_accepted ∙ ap (λ (n : ℕ). 65 * n) (sym (many ∙ rules_counted))

    pub page_ready : 65 * rules ≤ length page → Ready text rules page
    page_ready enough = record { accepted = is_accepted; counted = many ∙ rules_counted; room = enough }

    pub short_page_lem : length page < 65 * rules → Answers text page (numbers 23 0 0 0) page
    unfolding sheet_of after_verdict
    short_page_lem little = rw (equal-eqb _ 0 is_accepted, lt-ltb (length page) (length (sheet (pack_of text).rules)) (omega (arith, room))) (refl, refl)

    pub sheet_filed : {last : Bytes} → 65 * rules ≤ length page → last ≡ over (sheet (pack_of text).rules) page → Answers text page (numbers_of (Ok counts)) last
    unfolding sheet_of after_verdict
    sheet_filed enough laid = rw (equal-eqb _ 0 is_accepted, ge-ltb (length page) (length (sheet (pack_of text).rules)) (omega (arith, room))) (judged, laid)
