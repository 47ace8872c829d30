-- The tokens at a place, one by one.
use mathlib.Core.Path.{◌≡◌, refl, sym, ◌∙◌, ap}
use mathlib.Core.Bool.{Bool, true, false, cond, not, ◌&&◌}
use mathlib.Core.List.{[], ◌∷◌}
use mathlib.Core.Logic.{◌⊎◌, inl, inr}
use Prim.Native.Nat.{ℕ, zero, suc, ◌+◌, ◌-◌, ◌≤◌, ◌<◌}
use native.Mathlib.Omega.{arith}
use native.Mathlib.Numerals.{add-one}
use lib.Dec.{eqb, leb}
use lib.ListN.{length, get_or, take, drop, length-drop, drop_of_length-le}
use lib.Seq.{drop-drop, get_or-drop}
use Rattle.groundwork.proofs.Truth.{by_truth, equal-eqb, eqb-different, eqb_same, eqb-equal, eqb-unequal, and_left, and_right, never_both}
use Rattle.theory.specs.Lists.{every, is_empty}
use Rattle.theory.specs.Text.{Bytes, bytes, same, is_lower, is_upper, is_name_byte, is_word}
use Rattle.clause_theory.specs.ClauseTokens.{stray, token, is_layout, run, is_neck, is_stop, sign_of, mark_of, bytes_after, tokens_from}
use Rattle.clause_theory.specs.Import.{is_lone}
use Rattle.text.specs.Scans.{part}
use Rattle.text.proofs.Parts.{drop_more, part_length}
use denote.Enum.Bare.{sameb}
use Rattle.clause_tokens.specs.declared.Token.{Token as Found}
use Rattle.std.specs.Prelude.{Some, None}
use Rattle.words.specs.contracts.table.Class.{the_type as class_type}
use Rattle.words.specs.Classes.{class_of, EndsWord}
use Rattle.words.specs.declared.table.Class.{Class}
use Rattle.words.specs.declared.table.Class.TheVariants.{Outside, Small, Capital, Inner}
use Rattle.words.proofs.ClassLaws.{is_small, is_capital, is_outside, lower_is, upper_is, named_is}
use Rattle.words.proofs.WordReading.{word_is}
use Rattle.words.proofs.Letters.{lower_in_name, upper_in_name}
use Rattle.clause_tokens.specs.NextTokens.{tokens_at, LayoutEnds, Sign, sign_opens, sign_closes, sign_comma, sign_neck, sign_stop, sign_stray, sign_more, Seen, seen_name, seen_variable, seen_lone, seen_sign, RunSeen, NextToken, none_left, one_found}
use Rattle.clause_tokens.specs.declared.Mark.{Mark}
use Rattle.clause_tokens.specs.declared.Mark.TheVariants.{Name, Variable, Lone, Opens, Closes, Comma, Neck, Stop, Stray}

-- ---- layout

-- nothing is left at the end
pub none_at_end : (text : Bytes) (apart : Bool) (place at : ℕ) → length text ≤ at → tokens_from apart 0 place (drop at text) ≡ []
unfolding tokens_from
none_at_end text apart place at h = ap (tokens_from apart 0 place) (drop_of_length-le text {i = at} h)

module _ (text : Bytes) (from : ℕ) where
  -- the places from `from` up to `at` hold layout
  pub record Passed (at : ℕ) : Type 0 where
    pub low : from ≤ at
    pub high : at ≤ length text
    pub tokens : tokens_at text from ≡ tokens_from (cond (eqb at from) false true) 0 at (drop at text)

  pub passed_none : from ≤ length text → Passed from
  passed_none h = record { low = omega arith; high = h; tokens = rw (eqb_same from) refl }

  module _ {at : ℕ} (passed : Passed at) where
    layout_more : (apart : Bool) → at < length text → is_layout (get_or text at 0) ≡ true → tokens_from apart 0 at (drop at text) ≡ tokens_from true 0 (at + 1) (drop (at + 1) text)
    unfolding tokens_from
    layout_more apart h layout = ap (tokens_from apart 0 at) (drop_more text at h) ∙ rw (layout, add-one at) refl

    pub passed_more : (r : Bool) → r ≡ is_layout (get_or text at 0) → r ≡ true → at < length text → Passed (at + 1)
    passed_more r told is h =
        record {
          low = omega (arith, passed.low);
          high = omega arith;
          tokens =
              passed.tokens
              ∙ layout_more (cond (eqb at from) false true) h (sym told ∙ is)
              ∙ rw (eqb-different (at + 1) from (λ e. omega (arith, passed.low))) refl;
        }

-- ---- signs

-- what is past the end
none_past : (text : Bytes) (at : ℕ) → length text ≤ at → drop at text ≡ []
none_past text at h = drop_of_length-le text {i = at} h

pub neck_other : (b : ℕ) (bs : Bytes) → (b ≡ 58 → ⊥) → false ≡ is_neck b bs
unfolding is_neck
neck_other b [] h = refl
neck_other b (c ∷ bs) h = rw (eqb-different b 58 h) refl

module _ (text : Bytes) (at : ℕ) where
  pub neck_inside : get_or text at 0 ≡ 58 → at + 1 < length text → eqb (get_or text (at + 1) 0) 45 ≡ is_neck (get_or text at 0) (drop (at + 1) text)
  unfolding is_neck
  neck_inside is h = rw (is, drop_more text (at + 1) h) refl

  pub neck_past : length text ≤ at + 1 → false ≡ is_neck (get_or text at 0) (drop (at + 1) text)
  unfolding is_neck
  neck_past h = rw (none_past text (at + 1) h) refl

  pub stop_inside : (r : Bool) → r ≡ is_layout (get_or text (at + 1) 0) → get_or text at 0 ≡ 46 → at + 1 < length text → r ≡ is_stop (get_or text at 0) (drop (at + 1) text)
  unfolding is_stop
  stop_inside r told is h = told ∙ rw (is, drop_more text (at + 1) h) refl

  pub stop_past : get_or text at 0 ≡ 46 → length text ≤ at + 1 → true ≡ is_stop (get_or text at 0) (drop (at + 1) text)
  unfolding is_stop
  stop_past is h = rw (is, none_past text (at + 1) h) refl

pub stop_other : (b : ℕ) (bs : Bytes) → (b ≡ 46 → ⊥) → false ≡ is_stop b bs
unfolding is_stop
stop_other b [] h = sym (eqb-different b 46 h)
stop_other b (c ∷ bs) h = rw (eqb-different b 46 h) refl

neck_is : (b : ℕ) (bs : Bytes) → is_neck b bs ≡ true → b ≡ 58
unfolding is_neck
neck_is b [] e = absurd (never_both e refl)
neck_is b (c ∷ bs) e = eqb-equal b 58 (and_left (eqb b 58) (eqb c 45) e)

stop_is : (b : ℕ) (bs : Bytes) → is_stop b bs ≡ true → b ≡ 46
unfolding is_stop
stop_is b [] e = eqb-equal b 46 e
stop_is b (c ∷ bs) e = eqb-equal b 46 (and_left (eqb b 46) (is_layout c) e)

module _ (tight : Bool) (b : ℕ) (bs : Bytes) where
  pub sign_is_opens : (eqb b 40 && tight) ≡ true → Sign Opens (sign_of (not tight) b bs)
  unfolding sign_of
  sign_is_opens e = rw (and_left (eqb b 40) tight e, and_right (eqb b 40) tight e) sign_opens

  pub sign_is_closes : b ≡ 41 → Sign Closes (sign_of (not tight) b bs)
  unfolding sign_of
  sign_is_closes e = rw e sign_closes

  pub sign_is_comma : b ≡ 44 → Sign Comma (sign_of (not tight) b bs)
  unfolding sign_of
  sign_is_comma e = rw e sign_comma

  pub sign_is_neck : (r : Bool) → r ≡ is_neck b bs → r ≡ true → Sign Neck (sign_of (not tight) b bs)
  unfolding sign_of
  sign_is_neck r told is =
      let colon = neck_is b bs (sym told ∙ is) in
      let other : (k : ℕ) → (58 ≡ k → ⊥) → eqb b k ≡ false = λ k h. eqb-different b k (λ e. h (sym colon ∙ e)) in
      rw (other 40 (λ e. omega arith), other 41 (λ e. omega arith), other 44 (λ e. omega arith), sym told ∙ is) sign_neck

  pub sign_is_stop : (n r : Bool) → n ≡ is_neck b bs → n ≡ false → r ≡ is_stop b bs → r ≡ true → Sign Stop (sign_of (not tight) b bs)
  unfolding sign_of
  sign_is_stop n r no_neck none told is =
      let dot = stop_is b bs (sym told ∙ is) in
      let other : (k : ℕ) → (46 ≡ k → ⊥) → eqb b k ≡ false = λ k h. eqb-different b k (λ e. h (sym dot ∙ e)) in
      rw (other 40 (λ e. omega arith), other 41 (λ e. omega arith), other 44 (λ e. omega arith), sym no_neck ∙ none, sym told ∙ is) sign_stop

  pub sign_is_stray : (n r : Bool) → (eqb b 40 && tight) ≡ false → (b ≡ 41 → ⊥) → (b ≡ 44 → ⊥) → n ≡ is_neck b bs → n ≡ false → r ≡ is_stop b bs → r ≡ false → Sign Stray (sign_of (not tight) b bs)
  unfolding sign_of
  sign_is_stray n r no-opens no-closes no-comma no_neck none no_stop never =
      let shut : (eqb b 40 && not (not tight)) ≡ false = ap (λ c. eqb b 40 && c) (twice tight) ∙ no-opens in
      rw (shut, eqb-different b 41 no-closes, eqb-different b 44 no-comma, sym no_neck ∙ none, sym no_stop ∙ never) sign_stray
    where
      twice : (c : Bool) → not (not c) ≡ c
      twice true = refl
      twice false = refl

pub neck_more : (b : ℕ) (bs : Bytes) (r : Bool) → r ≡ is_neck b bs → r ≡ true → (at : ℕ) → at + 2 ≡ at + 1 + sign_more b bs
unfolding sign_more
neck_more b bs r told is at = rw (sym told ∙ is) (omega arith)

pub sign_more_lem : (b : ℕ) (bs : Bytes) (r : Bool) → r ≡ is_neck b bs → r ≡ false → (at : ℕ) → at + 1 ≡ at + 1 + sign_more b bs
unfolding sign_more
sign_more_lem b bs r told is at = rw (sym told ∙ is) (omega arith)

-- ---- runs

-- the run at the front, by its end
run_of : (s : Bytes) (k : ℕ) → k ≤ length s → every is_name_byte (take k s) ≡ true → (k < length s → is_name_byte (get_or s k 0) ≡ false) → run s ≡ take k s
unfolding run every
run_of [] zero h fine ended = refl
run_of [] (suc k) h fine ended = absurd (omega arith)
run_of (b ∷ s) zero h fine ended = rw (ended (omega arith)) refl
run_of (b ∷ s) (suc k) h fine ended =
    rw (and_left (is_name_byte b) (every is_name_byte (take k s)) fine)
    (ap (λ rest. b ∷ rest) (run_of s k (omega arith) (and_right (is_name_byte b) (every is_name_byte (take k s)) fine) (λ i. ended (omega arith))))

sign_of_name : (apart : Bool) (b : ℕ) (bs : Bytes) → is_name_byte b ≡ true → sign_of apart b bs ≡ stray (b ∷ take (bytes_after b bs) bs)
unfolding sign_of is_name_byte
sign_of_name apart b bs named =
    let other : (k : ℕ) → is_name_byte k ≡ false → eqb b k ≡ false = λ k none. by_truth (λ c. c ≡ false) (eqb b k) (λ e. never_both named (ap is_name_byte (eqb-equal b k e) ∙ none)) (λ e. refl) in
    let no_neck : is_neck b bs ≡ false = by_truth (λ c. c ≡ false) (is_neck b bs) (λ e. never_both named (ap is_name_byte (neck_is b bs e))) (λ e. refl) in
    let no_stop : is_stop b bs ≡ false = by_truth (λ c. c ≡ false) (is_stop b bs) (λ e. never_both named (ap is_name_byte (stop_is b bs e))) (λ e. refl) in
    rw (other 40 refl, other 41 refl, other 44 refl, no_neck, no_stop) refl

underscore_named : (c : ℕ) → c ≡ 95 → is_name_byte c ≡ true
unfolding is_name_byte
underscore_named c e = ap is_name_byte e

pub sign_mark : (apart : Bool) (b : ℕ) (bs : Bytes) → is_name_byte b ≡ false → mark_of apart b bs ≡ sign_of apart b bs
unfolding mark_of
sign_mark apart b bs none =
    let small : is_lower b ≡ false = by_truth (λ c. c ≡ false) (is_lower b) (λ e. never_both (lower_in_name b e) none) (λ e. refl) in
    let large : is_upper b ≡ false = by_truth (λ c. c ≡ false) (is_upper b) (λ e. never_both (upper_in_name b e) none) (λ e. refl) in
    let line : eqb b 95 ≡ false = by_truth (λ c. c ≡ false) (eqb b 95) (λ e. never_both (underscore_named b (eqb-equal b 95 e)) none) (λ e. refl) in
    rw (small, large, line) refl

upper_not_lone : (b : ℕ) (rest : Bytes) → is_upper b ≡ true → is_lone (b ∷ rest) ≡ false
unfolding same bytes
upper_not_lone b rest large = by_truth (λ c. (c && same rest []) ≡ false) (eqb b 95) (λ e. never_both large (ap is_upper (eqb-equal b 95 e))) (λ e. refl)

empty_length : (l : Bytes) → is_empty l ≡ eqb (length l) 0
unfolding is_empty
empty_length [] = refl
empty_length (b ∷ l) = sym (eqb-different (suc (length l)) 0 (λ e. omega arith))

module _ {text : Bytes} {start end : ℕ} (inside : start < length text) (word : EndsWord text (start + 1) end) where
  run_is : run (drop (start + 1) text) ≡ part text (start + 1) end
  run_is =
      let size : length (drop (start + 1) text) ≡ length text - (start + 1) = length-drop (start + 1) text in
      run_of (drop (start + 1) text) (end - (start + 1)) (omega (arith, word.high, word.low)) word.named
      (λ k. ap is_name_byte (get_or-drop (start + 1) text (end - (start + 1)) 0 ∙ ap (λ i. get_or text i 0) (omega (arith, word.low))) ∙ word.ended (omega (arith, word.high, word.low)))

  run_length : length (run (drop (start + 1) text)) ≡ end - (start + 1)
  run_length = ap length run_is ∙ part_length text (start + 1) (end - (start + 1)) end refl word.high

  word_bytes : part text start end ≡ get_or text start 0 ∷ run (drop (start + 1) text)
  word_bytes =
      let more : end - start ≡ suc (end - (start + 1)) = omega (arith, word.low) in
      ap (take (end - start)) (drop_more text start inside) ∙ ap (λ n. take n (get_or text start 0 ∷ drop (start + 1) text)) more ∙ ap (λ rest. get_or text start 0 ∷ rest) (sym run_is)

  word_named : is_name_byte (get_or text start 0) ≡ true → every is_name_byte (part text start end) ≡ true
  unfolding every
  word_named first = ap (every is_name_byte) (word_bytes ∙ ap (λ rest. get_or text start 0 ∷ rest) run_is) ∙ rw first word.named

  word_ends : is_name_byte (get_or text start 0) ≡ true → end ≡ start + 1 + bytes_after (get_or text start 0) (drop (start + 1) text)
  unfolding bytes_after
  word_ends first = rw (first, run_length) (omega (arith, word.low))

  -- a word that begins with a letter of one kind
  word_test : (isFirst : ℕ → Bool) → ((c : ℕ) → isFirst c ≡ true → is_name_byte c ≡ true) → isFirst (get_or text start 0) ≡ true → is_word isFirst (part text start end) ≡ leb (length (part text start end)) 16
  word_test isFirst within first =
      let x = part text start end in
      let size : 0 < length x = omega (arith, ap length word_bytes) in
      word_is isFirst within x size ∙ rw (ap (λ y. isFirst (get_or y 0 0)) word_bytes ∙ first, word_named (within (get_or text start 0) first)) refl

  module _ {class : Class} (is : class ≡ class_of (get_or text start 0)) where
    pub found_name : class ≡ Small → RunSeen text start end Name
    unfolding mark_of
    found_name small =
        let low : is_lower (get_or text start 0) ≡ true = lower_is (get_or text start 0) ∙ ap is_small (sym is ∙ small) in
        record { seen = λ apart. rw (low, ← word_bytes) (seen_name (word_test is_lower lower_in_name low)) }

    pub found_variable : class ≡ Capital → RunSeen text start end Variable
    unfolding mark_of
    found_variable capital =
        let low : is_lower (get_or text start 0) ≡ false = lower_is (get_or text start 0) ∙ ap is_small (sym is ∙ capital) in
        let large : is_upper (get_or text start 0) ≡ true = upper_is (get_or text start 0) ∙ ap is_capital (sym is ∙ capital) in
        record {
          seen = λ apart. rw (low, large, ← word_bytes) (seen_variable (word_test is_upper upper_in_name large) (ap is_lone word_bytes ∙ upper_not_lone (get_or text start 0) (run (drop (start + 1) text)) large));
        }

    module _ (some : class ≡ Outside → ⊥) (way : (class ≡ Inner) ⊎ (class ≡ Outside)) where
      inner : class ≡ Inner
      inner = elim way [ inl e ↦ e | inr e ↦ absurd (some e) ]

      low : is_lower (get_or text start 0) ≡ false
      low = lower_is (get_or text start 0) ∙ ap is_small (sym is ∙ inner)

      large : is_upper (get_or text start 0) ≡ false
      large = upper_is (get_or text start 0) ∙ ap is_capital (sym is ∙ inner)

      run_empty : is_empty (run (drop (start + 1) text)) ≡ eqb end (start + 1)
      run_empty =
          empty_length (run (drop (start + 1) text)) ∙ ap (λ n. eqb n 0) run_length
          ∙ by_truth (λ c. eqb (end - (start + 1)) 0 ≡ c) (eqb end (start + 1))
          (λ e. equal-eqb (end - (start + 1)) 0 (omega (arith, eqb-equal end (start + 1) e)))
          (λ e. eqb-different (end - (start + 1)) 0 (λ none. eqb-unequal end (start + 1) e (omega (arith, word.low))))

      pub found_lone : (eqb (get_or text start 0) 95 && eqb end (start + 1)) ≡ true → RunSeen text start end Lone
      unfolding mark_of bytes
      found_lone both =
          let line = and_left (eqb (get_or text start 0) 95) (eqb end (start + 1)) both in
          record { seen = λ apart. rw (low, large, run_empty, both) (rw (eqb-equal (get_or text start 0) 95 line) seen_lone) }

      pub found_stray : (eqb (get_or text start 0) 95 && eqb end (start + 1)) ≡ false → RunSeen text start end Stray
      unfolding mark_of
      found_stray neither =
          let named : is_name_byte (get_or text start 0) ≡ true = named_is (get_or text start 0) ∙ ap (λ (k : Class). not (is_outside k)) (sym is ∙ inner) in
          record { seen = λ apart. rw (low, large, run_empty, neither, sign_of_name apart (get_or text start 0) (drop (start + 1) text) named) (seen_sign sign_stray) }

-- ---- the token at a place

pass_bytes : (apart : Bool) (k place : ℕ) (bs : Bytes) → tokens_from apart k place bs ≡ tokens_from apart 0 (place + k) (drop k bs)
unfolding tokens_from
pass_bytes apart zero place bs = ap (λ i. tokens_from apart 0 i bs) (omega arith)
pass_bytes apart (suc k) place [] = refl
pass_bytes apart (suc k) place (b ∷ bs) = pass_bytes apart k (suc place) bs ∙ ap (λ i. tokens_from apart 0 i (drop k bs)) (omega arith)

module _ (text : Bytes) (start : ℕ) (inside : start < length text) (solid : is_layout (get_or text start 0) ≡ false) where
  first_token : (apart : Bool) (end : ℕ) → end ≡ start + 1 + bytes_after (get_or text start 0) (drop (start + 1) text)
      → tokens_from apart 0 start (drop start text) ≡ token (mark_of apart (get_or text start 0) (drop (start + 1) text)) start ∷ tokens_at text end
  unfolding tokens_from
  first_token apart end is =
      let b = get_or text start 0 in
      let bs = drop (start + 1) text in
      let rest : tokens_from false (bytes_after b bs) (suc start) bs ≡ tokens_at text end =
      pass_bytes false (bytes_after b bs) (suc start) bs
      ∙ ap (λ i. tokens_from false 0 (suc start + bytes_after b bs) i) (drop-drop (bytes_after b bs) (start + 1) text)
      ∙ ap (λ i. tokens_from false 0 i (drop (start + 1 + bytes_after b bs) text)) (omega (arith, is))
      ∙ ap (λ i. tokens_from false 0 end (drop i text)) (sym is) in
      ap (tokens_from apart 0 start) (drop_more text start inside) ∙ rw (solid) (ap (λ ts. token (mark_of apart b bs) start ∷ ts) rest)

module _ {text : Bytes} {from start : ℕ} (layout : LayoutEnds text from start) where
  pub next_none : length text ≤ start → NextToken text from None
  next_none h =
      let all : start ≡ length text = omega (arith, layout.high) in
      none_left (layout.passed ∙ rw all (none_at_end text (cond (eqb (length text) from) false true) (length text) (length text) (omega arith)))

  module _ (inside : start < length text) where
    apart : Bool
    apart = cond (eqb start from) false true

    one_token : (k : Mark) (end : ℕ) → end ≡ start + 1 + bytes_after (get_or text start 0) (drop (start + 1) text) → end ≤ length text
        → Seen (part text start end) k (mark_of apart (get_or text start 0) (drop (start + 1) text)) → NextToken text from (Some (record { mark = k; start = start; end = end }))
    unfolding apart
    one_token k end is high seen =
        one_found (mark_of apart (get_or text start 0) (drop (start + 1) text)) seen layout.low (omega arith) high
        (layout.passed ∙ first_token text start inside (layout.ended inside) apart end is)

    module _ {class : Class} (is : class ≡ class_of (get_or text start 0)) where
      outside_is : (k : Class) → sameb class_type k Outside ≡ is_outside k
      outside_is Outside = refl
      outside_is Small = refl
      outside_is Capital = refl
      outside_is Inner = refl

      module _ {r : Bool} (told : r ≡ sameb class_type class Outside) where
        named_told : is_name_byte (get_or text start 0) ≡ not r
        named_told = named_is (get_or text start 0) ∙ ap (λ (k : Class). not (is_outside k)) (sym is) ∙ ap not (sym (told ∙ outside_is class))

        pub next_run : {k : Mark} {end : ℕ} → r ≡ false → EndsWord text (start + 1) end → RunSeen text start end k → NextToken text from (Some (record { mark = k; start = start; end = end }))
        next_run {k} {end} some word seen = one_token k end (word_ends inside word (named_told ∙ ap not some)) word.high (seen.seen apart)

        unnamed : r ≡ true → is_name_byte (get_or text start 0) ≡ false
        unnamed none = named_told ∙ ap not none

        more_inside : (b : ℕ) (bs : Bytes) → sign_more b bs ≤ length bs
        unfolding sign_more is_neck
        more_inside b [] = omega arith
        more_inside b (c ∷ bs) = by_truth (λ d. cond d 1 0 ≤ suc (length bs)) (eqb b 58 && eqb c 45) (λ e. omega arith) (λ e. omega arith)

        sign_bytes : r ≡ true → bytes_after (get_or text start 0) (drop (start + 1) text) ≡ sign_more (get_or text start 0) (drop (start + 1) text)
        unfolding bytes_after sign_more
        sign_bytes none = rw (unnamed none) refl

        apart_is : apart ≡ not (eqb start from)
        unfolding apart
        apart_is = by_truth (λ c. cond c false true ≡ not c) (eqb start from) (λ e. refl) (λ e. refl)

        pub next_sign : {k : Mark} {end : ℕ} → r ≡ true → Sign k (sign_of (not (eqb start from)) (get_or text start 0) (drop (start + 1) text)) → end ≡ start + 1 + sign_more (get_or text start 0) (drop (start + 1) text)
            → NextToken text from (Some (record { mark = k; start = start; end = end }))
        next_sign {k} {end} none sign is_end =
            let b = get_or text start 0 in
            let bs = drop (start + 1) text in
            one_token k end (is_end ∙ ap (λ n. start + 1 + n) (sym (sign_bytes none))) (omega (arith, is_end, more_inside b bs, length-drop (start + 1) text))
            (rw (sign_mark apart b bs (unnamed none), apart_is) (seen_sign sign))

-- ---- where a token lies

module _ {text : Bytes} {from : ℕ} {t : Found} where
  pub token_ordered : NextToken text from (Some t) → t.start ≤ t.end
  token_ordered (one_found m seen low some high tokens) = omega arith

  pub token_inside : NextToken text from (Some t) → t.end ≤ length text
  token_inside (one_found m seen _ some high tokens) = high

  -- behind the place
  pub token_less : NextToken text from (Some t) → length text - t.end < length text - from
  token_less (one_found m seen low some high tokens) = omega arith
