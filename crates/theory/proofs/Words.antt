-- The words: every answer fits its word and is given back by the header's functions; and demand 3 of the words.
use mathlib.Core.Path.{◌≡◌, refl, sym, ◌∙◌, ap, subst}
use mathlib.Core.Bool.{Bool, cond}
use mathlib.Core.List.{List}
use mathlib.Core.Option.{Option, some, none}
use Prim.Native.Nat.{ℕ, ◌^◌, ◌≤◌, ◌<◌}
use Prim.Native.Char.{code}
use native.Mathlib.Omega.{arith}
use lib.IntN.{ℤ, pos}
use lib.ListN.{length, replicate}
use Rattle.groundwork.proofs.Truth.{by_truth, ltb-ge, or_not_left}
use Rattle.theory.specs.Lists.{is_empty}
use Rattle.theory.specs.Text.{Bytes}
use Rattle.theory.specs.Terms.{Term, read_term, variables}
use Rattle.theory.specs.Sizes.{structural, size}
use Rattle.theory.specs.Packs.{Atom, line_limit}
use Rattle.theory.specs.Written.{pack_of}
use Rattle.theory.specs.Residuals.{area_needed}
use Rattle.theory.specs.Faults.{is_unfit}
use Rattle.theory.specs.Check.{Numbers, numbers, verdict_of, check_of}
use Rattle.theory.specs.Measure.{Measured, measured, measure_term, measure_of}
use Rattle.theory.specs.Reserve.{query_of, Fields, fields, reserve_of}
use Rattle.theory.specs.Words.{check_word, reserve_word, measure_word, CheckRoom, ReserveRoom, MeasureRoom, WordFactors, word_number, word_letter, word_by, word_middle, numbers_in, fields_in, measured_in}
use Rattle.theory.specs.Promises.{ClaimsKept, WordsKept, WordsTell}
use Rattle.theory.proofs.Reading.TermReading.{written_of_read}
use Rattle.theory.proofs.Reading.TermLengths.{tokens_written}
use Rattle.theory.proofs.Judging.VerdictRange.{outcome_room}
use Rattle.theory.proofs.Soundness.FormBounds.{structural_moderate, size_of_tokens}
use Rattle.theory.proofs.Reserving.ReserveRange.{reserve_room_lem}
use Rattle.theory.proofs.Reserving.Reservations.{Says, reservation_says, impossible_letter}
use Rattle.theory.proofs.Reserving.ReserveAnswers.{answered}
use Rattle.theory.proofs.DemandOne.{demand_one}

-- ---- room

pub check_room_lem : (text : Bytes) (area : List ℤ) → CheckRoom (check_of text area).returned
check_room_lem text area = outcome_room text area (demand_one text area).outcome refl

-- whatever the area
verdict_room : (text : Bytes) → CheckRoom (verdict_of text).returned
unfolding check_of
verdict_room text = check_room_lem text (replicate area_needed (pos 0))

-- a term that fits a line has a small size
measure_room_lem : (term : Bytes) → MeasureRoom (measure_of term)
unfolding measure_of measure_term is_unfit
measure_room_lem term =
    by_truth (λ (b : Bool). MeasureRoom (cond b (measured 4 0) (measure_term (read_term term)))) (is_unfit term)
    (λ e. small_room 4 0 (omega arith) (omega arith)) (λ e. of_term (read_term term) refl (ltb-ge line_limit (length term) (or_not_left _ _ e)))
  where
    small_room : (r s : ℕ) → r < 2 ^ 8 → s < 2 ^ 56 → MeasureRoom (measured r s)
    small_room r s h k = record { refusal = h; size = k }

    of_term : (o : Option Term) → read_term term ≡ o → length term ≤ line_limit → MeasureRoom (measure_term o)
    of_term none e short = small_room 11 0 (omega arith) (omega arith)
    of_term (some t) e short =
        let is = written_of_read term t e in
        by_truth (λ (b : Bool). MeasureRoom (cond b (measured 0 (size structural t)) (measured 19 0))) (is_empty (variables t))
        (λ g. small_room 0 (size structural t) (omega arith) (omega (arith, size_of_tokens 9 structural structural_moderate t is.formed, tokens_written t, ap length is.is)))
        (λ g. small_room 19 0 (omega arith) (omega arith))

-- ---- taken apart

numbers_back : (n : Numbers) → CheckRoom n → numbers_in (check_word n) ≡ n
unfolding check_word
numbers_back n room = numbers_path (omega (arith, room.number)) (omega (arith, room.number, room.line)) (omega (arith, room.number, room.line, room.rule)) (omega (arith, room.number, room.line, room.rule))
  where
    numbers_path : {a b c d : ℕ} → a ≡ n.number → b ≡ n.line → c ≡ n.rule → d ≡ n.claim → numbers a b c d ≡ n
    numbers_path p q r s = λ i. numbers (p i) (q i) (r i) (s i)

fields_back : (f : Fields) → ReserveRoom f → fields_in (reserve_word f) ≡ f
unfolding reserve_word
fields_back f room = fields_path (omega (arith, room.letter)) (omega (arith, room.letter, room.claim)) (omega (arith, room.letter, room.claim))
  where
    fields_path : {a b c : ℕ} → a ≡ f.letter → b ≡ f.middle → c ≡ f.claim → fields a b c ≡ f
    fields_path p q r = λ i. fields (p i) (q i) (r i)

measured_back : (m : Measured) → MeasureRoom m → measured_in (measure_word m) ≡ m
unfolding measure_word
measured_back m room = measured_path (omega (arith, room.refusal)) (omega (arith, room.refusal))
  where
    measured_path : {a b : ℕ} → a ≡ m.refusal → b ≡ m.size → measured a b ≡ m
    measured_path p q = λ i. measured (p i) (q i)

pub reserved_room : (text query : Bytes) → ReserveRoom (reserve_of text query)
reserved_room text query = reserve_room_lem text query (verdict_room text).number

pub words_tell : (text : Bytes) (area : List ℤ) (query term : Bytes) → WordsTell text area query term
words_tell text area query term = record {
  check_room = check_room_lem text area;
  reserve_room = reserved_room text query;
  measure_room = measure_room_lem term;
  check = numbers_back _ (check_room_lem text area);
  reserve = fields_back _ (reserved_room text query);
  measure = measured_back _ (measure_room_lem term);
}

pub word_factors : WordFactors
unfolding check_word reserve_word measure_word
word_factors = record { check = λ a b c d. omega arith; reserve = λ l m c. omega arith; measure = λ r s. omega arith }

-- ---- demand 3 of the words

module _ (text query : Bytes) (word : ℕ) (is : word ≡ reserve_word (reserve_of text query)) where
  -- the answer that the word was made of
  back : fields_in word ≡ reserve_of text query
  back = ap fields_in is ∙ fields_back _ (reserved_room text query)

  word_bound : word_letter word ≡ code "B" → reserve_of text query ≡ fields (code "B") (word_middle word) (word_by word)
  word_bound has = sym back ∙ ap (λ (l : ℕ). fields l (word_middle word) (word_by word)) has

  word_impossible : word_letter word ≡ code "I" → reserve_of text query ≡ fields (code "I") 0 (reserve_of text query).claim
  word_impossible has =
      let letter : (reserve_of text query).letter ≡ code "I" = ap (λ (x : Fields). x.letter) (sym back) ∙ has in
      let a = answered text query (reserve_of text query) (rw letter) refl in
      impossible_letter (pack_of text) (query_of query) (subst (Says (pack_of text) (query_of query)) a.says (reservation_says (pack_of text) (query_of query))) letter

-- a word that says "accepted"
word_accepted : (text : Bytes) (area : List ℤ) (word : ℕ) → word ≡ check_word (check_of text area).returned → word_number word ≡ 0 → (check_of text area).returned.number ≡ 0
word_accepted text area word is has = ap (λ (n : Numbers). n.number) (sym (numbers_back _ (check_room_lem text area))) ∙ ap word_number (sym is) ∙ has

pub words_kept : (text : Bytes) (Given : Atom → Type 0) → ClaimsKept text Given → WordsKept text Given
words_kept text Given kept = record {
  accepted = λ area word is has. kept.claims_met area (word_accepted text area word is has);
  bounded = λ query word is has. kept.bound_kept query (word_middle word) (word_by word) (word_bound text query word is has);
  impossible = λ query word is has. kept.none_such query (reserve_of text query).claim (word_impossible text query word is has);
}
