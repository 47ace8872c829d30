-- Accepted packs: those that are acceptable, and no others. And the lines of such a pack write that pack.
use mathlib.Core.Path.{◌≡◌, refl, sym, ◌∙◌, ap}
use mathlib.Core.Bool.{Bool, true, false, cond}
use mathlib.Core.List.{List, [], ◌∷◌, ◌++◌, map}
use Prim.Native.Nat.{◌≤◌}
use native.Mathlib.Omega.{arith}
use native.Mathlib.Nat.{zero-add}
use lib.Dec.{ltb}
use lib.IntN.{ℤ}
use lib.ListN.{length}
use Rattle.groundwork.proofs.Truth.{ltb-ge, ge-ltb}
use Rattle.theory.specs.Residuals.{area_needed}
use Rattle.theory.specs.Lists.{over}
use Rattle.theory.specs.Text.{Bytes, lines_of}
use Rattle.theory.specs.Packs.{Pack, empty_pack, line, end_line, open_lines, pack_lines, text_of, written, text_limit}
use Rattle.theory.specs.Written.{nothing, pack_of}
use Rattle.theory.specs.Check.{Judgement, checked, numbers, plain, judge, is_finished, judgement_of, verdict_of, check_of}
use Rattle.theory.specs.Limits.{Fits, Justified, Headed, Acceptable, AcceptableButForHeads, ShortLines}
use Rattle.theory.proofs.Reading.Separators.{text_of_lines, finished_text}
use Rattle.theory.proofs.Judging.Heads.{headed_from_test, test_from_headed}
use Rattle.theory.proofs.Judging.LineReading.{as_whole, lacks_head}
use Rattle.theory.proofs.Judging.PackReading.{fits_spelled, lines_again, lines_write}
use Rattle.theory.proofs.Judging.Runs.{run_lines, run_fits, run_justified, fits_run, fits_complete}
use Rattle.theory.proofs.Judging.JudgedRuns.{Accepted, accepted_from_judge, judged_run, counted, no_rule_few}

-- ## Accepted, so acceptable

record FromJudgement (refuses : Bool) (text : Bytes) : Type 0 where
  short : length text ≤ text_limit
  finished : is_finished text ≡ true
  judged : (judge (as_whole refuses) nothing 0 (lines_of text)).returned.number ≡ 0

judgement_accepts : (refuses : Bool) (text : Bytes) → (judgement_of (as_whole refuses) text).returned.number ≡ 0 → FromJudgement refuses text
unfolding judgement_of
judgement_accepts refuses text e = long (ltb text_limit (length text)) refl e
  where
    lines : Judgement
    lines = judge (as_whole refuses) nothing 0 (lines_of text)

    open_end : (b : Bool) → ltb text_limit (length text) ≡ false → is_finished text ≡ b → (cond b lines (plain (numbers 3 0 0 0))).returned.number ≡ 0 → FromJudgement refuses text
    open_end true h k e = record { short = ltb-ge text_limit (length text) h; finished = k; judged = e }
    open_end false h k e = absurd (omega arith)

    long : (b : Bool) → ltb text_limit (length text) ≡ b → (cond b (plain (numbers 2 0 0 0)) (cond (is_finished text) lines (plain (numbers 3 0 0 0)))).returned.number ≡ 0 → FromJudgement refuses text
    long true h e = absurd (omega arith)
    long false h e = open_end (is_finished text) h refl e

-- what an accepted text is
pub record Accepts (refuses : Bool) (text : Bytes) : Type 0 where
  pub made : AcceptableButForHeads text
  pub headed : lacks_head refuses made.pack ≡ false

pub accepts_from_judgement : (refuses : Bool) (text : Bytes) → (judgement_of (as_whole refuses) text).returned.number ≡ 0 → Accepts refuses text
unfolding nothing written pack_lines
accepts_from_judgement refuses text e = from (judgement_accepts refuses text e)
  where
    from : FromJudgement refuses text → Accepts refuses text
    from v = record {
      made = record { pack = p; is_written = is; fits = run_fits a.fields p a.run a.complete short (rw (← is) v.short); justified = run_justified a.fields p a.run a.complete };
      headed = a.headed;
    }
      where
        a : Accepted refuses empty_pack (lines_of text)
        a = accepted_from_judge refuses empty_pack 0 (lines_of text) (no_rule_few empty_pack refl) v.judged

        p : Pack
        p = a.end_pack

        lines_are : lines_of text ≡ pack_lines p
        lines_are = a.are ∙ ap (λ fields. map line (fields ++ (end_line ∷ []))) (run_lines a.fields p a.run)

        is : text ≡ written p
        is = sym (text_of_lines text v.finished) ∙ ap text_of lines_are

        short : ShortLines p
        short l m = a.short l (rw (← lines_are) at m)

-- ## Acceptable, so accepted, with the counts; and its lines write it

pub record OfPack (refuses : Bool) (p : Pack) : Type 0 where
  pub judgement : judgement_of (as_whole refuses) (written p) ≡ counted (length (pack_lines p)) p
  pub pack : pack_of (written p) ≡ p

last_finished : (fields : List (List Bytes)) → is_finished (text_of (map line (fields ++ (end_line ∷ [])))) ≡ true
last_finished [] = finished_text (line end_line) []
last_finished (f ∷ fields) = finished_text (line f) (map line (fields ++ (end_line ∷ [])))

pub of_pack_lem : (refuses : Bool) (p : Pack) → Fits p → Justified p → lacks_head refuses p ≡ false → OfPack refuses p
unfolding written pack_lines judgement_of nothing
of_pack_lem refuses p fits justified headed =
    let spelled = fits_spelled p fits in
    let judged = judged_run refuses empty_pack p 0 (open_lines p) (fits_run p fits justified) (fits_complete p fits) headed fits.short_lines in
    record {
      judgement = rw (ge-ltb text_limit (length (written p)) fits.short_text, last_finished (open_lines p), lines_again p spelled) (judged ∙ rw zero-add);
      pack = lines_write p spelled;
    }

-- What an accepted text is: the pack that its lines write, written, within the limits, its claims justified and its
-- heads there. Every call that goes on from an accepted pack starts here.
pub record AcceptedPack (text : Bytes) : Type 0 where
  pub is_written : text ≡ written (pack_of text)
  pub fits : Fits (pack_of text)
  pub justified : Justified (pack_of text)
  pub headed : Headed (pack_of text)
  pub verdict : verdict_of text ≡ counted (length (lines_of text)) (pack_of text)

accepted_made : (text : Bytes) (made : AcceptableButForHeads text) → Headed made.pack → AcceptedPack text
accepted_made text made headed =
    let p = made.pack in
    let fits = made.fits in
    let justified = made.justified in
    let of = of_pack_lem true p fits justified (test_from_headed p headed) in
    rw made.is_written
    (record {
      is_written = ap written (sym of.pack);
      fits = rw of.pack fits;
      justified = rw of.pack justified;
      headed = rw of.pack headed;
      verdict = rw (lines_again p (fits_spelled p fits), of.pack) of.judgement;
    })

pub accepted_pack : (text : Bytes) → (verdict_of text).returned.number ≡ 0 → AcceptedPack text
accepted_pack text e = let a = accepts_from_judgement true text e in accepted_made text a.made (headed_from_test a.made.pack a.headed)

-- ## With the area

pub check_accepts : (text : Bytes) (area : List ℤ) → (check_of text area).returned.number ≡ 0 → Acceptable text area
unfolding check_of
check_accepts text area e = go (ltb (length area) area_needed) refl e
  where
    go : (b : Bool) → ltb (length area) area_needed ≡ b → (cond b (checked (numbers 1 0 0 0) area) (checked (verdict_of text).returned (over (verdict_of text).residue area))).returned.number ≡ 0 → Acceptable text area
    go true h e = absurd (omega arith)
    go false h e =
        let a = accepts_from_judgement true text e in
        record { room = ltb-ge (length area) area_needed h; made = a.made; headed = headed_from_test a.made.pack a.headed }

pub acceptable_checks : (text : Bytes) (area : List ℤ) → Acceptable text area → (check_of text area).returned.number ≡ 0
unfolding check_of
acceptable_checks text area a = rw (ge-ltb (length area) area_needed a.room, a.made.is_written, (of_pack_lem true a.made.pack a.made.fits a.made.justified (test_from_headed a.made.pack a.headed)).judgement)

-- what an accepted text is, by check's own answer
pub checked_pack : (text : Bytes) (area : List ℤ) → (check_of text area).returned.number ≡ 0 → AcceptedPack text
checked_pack text area e = let a = check_accepts text area e in accepted_made text a.made a.headed

-- ## But for the heads

pub accepts_but_for_heads : (text : Bytes) → (judgement_of (as_whole false) text).returned.number ≡ 0 → AcceptableButForHeads text
accepts_but_for_heads text e = (accepts_from_judgement false text e).made

pub counts_but_for_heads : (text : Bytes) (a : AcceptableButForHeads text) → judgement_of (as_whole false) text ≡ counted (length (lines_of text)) a.pack
counts_but_for_heads text a = rw (a.is_written, lines_again a.pack (fits_spelled a.pack a.fits)) (of_pack_lem false a.pack a.fits a.justified refl).judgement
