-- The token that stands at a place, by the class of its first byte, the end of its word and what comes after: the ways through the loop of `read_tokens`.
use mathlib.Core.Path.{◌≡◌, refl, sym, ◌∙◌, ap, ap₂}
use mathlib.Core.Bool.{Bool, true, false}
use Prim.Native.Nat.{ℕ, ◌+◌, ◌-◌, ◌*◌, ◌≤◌, ◌<◌}
use native.Mathlib.Omega.{arith}
use lib.ListN.{length, get_or}
use Rattle.groundwork.proofs.Truth.{Decides, by_truth, never_both}
use Rattle.theory.specs.Text.{Bytes, is_lower, is_upper, is_digit, is_name_byte, is_word, is_name, is_variable}
use Rattle.theory.specs.Terms.{symbol_of, no_token, token_of}
use Rattle.theory.proofs.Reading.Bytes.{between_from, between_low, between_high}
use Rattle.theory.proofs.Reading.Separators.{is_free, free_from}
use Rattle.text.specs.Scans.{part, Finds}
use Rattle.text.proofs.Parts.{part_length, part_at, free_more}
use mathlib.Core.Logic.{◌⊎◌, inl, inr}
use Rattle.words.specs.Classes.{class_of, EndsWord}
use Rattle.words.specs.declared.table.Class.TheVariants.{Small, Capital, Inner, Outside}
use Rattle.words.proofs.ClassLaws.{is_small, is_capital, lower_is, upper_is}
use Rattle.words.proofs.Letters.{lower_in_name, upper_in_name}
use Rattle.tokens.specs.TokenRows.{EndsAt, ArityAt, start_of, end_of, standing_at, VariableAt}
use Rattle.tokens.proofs.SymbolTokens.{last_byte, front_of, SymbolWritten, symbol_read, other_no_token}
use Rattle.tokens.proofs.WordEnding.{word_end_once, word_from}
use Rattle.tokens.proofs.TokenEnds.{word_spelled, spelled_word, size, front_place, slash_place, digit_place}

pub space_no_name : is_name_byte 32 ≡ false
unfolding is_name_byte
space_no_name = refl

slash_no_name : is_name_byte 47 ≡ false
unfolding is_name_byte
slash_no_name = refl

-- ---- what there may be at a place

pub record NoToken (s : Bytes) (from : ℕ) : Type 0 where
  pub none : (end : ℕ) → Finds s 32 from end → token_of (part s from end) ≡ no_token

-- a symbol with its name up to e
pub record SymbolFound (s : Bytes) (from e arity : ℕ) : Type 0 where
  pub name : Bytes
  pub after : from < e
  pub found : Finds s 32 from (e + 2)
  pub read : token_of (part s from (e + 2)) ≡ symbol_of name arity
  pub few : arity ≤ 9

pub record VariableFound (s : Bytes) (from e place : ℕ) : Type 0 where
  pub after : from < e
  pub found : Finds s 32 from e
  pub same : standing_at s place ≡ part s from e
  pub stands : VariableAt s place

-- ---- no token, where neither a variable nor a name with its arity is written

module _ (s : Bytes) (from : ℕ) (no-variable : (l : ℕ) → l ≤ length s → EndsAt s l → is_variable (part s from l) ≡ true → ⊥) (no_name : (l : ℕ) → ArityAt s l → is_name (part s from l) ≡ true → ⊥) where
  unwritten : (l : ℕ) → from ≤ l → l + 2 ≤ length s → EndsAt s (l + 2) → (f : Bytes) (k : ℕ) → SymbolWritten (part s from (l + 2)) f k → ⊥
  unwritten l low high end f k written =
      let slash : get_or s l 0 ≡ 47 = sym (slash_place s from l low high) ∙ written.slash in
      let digit : get_or s (l + 1) 0 ≡ 48 + k = sym (digit_place s from l low high) ∙ written.digit in
      no_name l
      (record { inside = high; slash = slash; digit = between_from 48 57 (get_or s (l + 1) 0) (omega arith) (omega (arith, written.few)); end = end })
      (ap is_name (sym (front_place s from l low high) ∙ written.front) ∙ written.named)

  neither : NoToken s from
  neither = record { none = λ end found. other_no_token (part s from end) (by_truth (λ (b : Bool). b ≡ false) (is_variable (part s from end)) (λ h. absurd (no-variable end found.high (record { space = found.found }) h)) (λ _. refl)) (unwritten_there end found) }
    where
      unwritten_there : (end : ℕ) → Finds s 32 from end → (f : Bytes) (k : ℕ) → SymbolWritten (part s from end) f k → ⊥
      unwritten_there end found f k written =
          let wide : length (part s from end) ≡ end - from = part_length s from (end - from) end refl found.high in
          let long : 2 < length (part s from end) = written.long in
          let back : end - 2 + 2 ≡ end = omega arith in
          unwritten (end - 2) (omega arith) (omega (arith, found.high)) (rw back (record { space = found.found })) f k (rw back written)

-- ---- by the first byte

module _ (s : Bytes) (from : ℕ) (inside : from < length s) where
  abbrev first : ℕ
  first = get_or s from 0

  first_place : (l : ℕ) → from < l → get_or (part s from l) 0 0 ≡ first
  first_place l h = let here : from + 0 ≡ from = omega arith in part_at s from l 0 (omega arith) ∙ ap (λ (n : ℕ). get_or s n 0) here

  -- a word begins with its first byte
  word_begins : (isFirst : ℕ → Bool) → ((b : ℕ) → isFirst b ≡ true → is_name_byte b ≡ true) → (l : ℕ) → l ≤ length s → is_word isFirst (part s from l) ≡ true → (from < l) × (isFirst first ≡ true)
  word_begins isFirst within l high h =
      let spelled = word_spelled isFirst within (part s from l) h in
      let wide : length (part s from l) ≡ l - from = part_length s from (l - from) l refl high in
      let later : from < l = omega (arith, spelled.any) in
      (later, ap isFirst (sym (first_place l later)) ∙ spelled.first)

  no_letter : is_lower first ≡ false → is_upper first ≡ false → NoToken s from
  no_letter small capital =
      neither s from
      (λ l high _ w. never_both (word_begins is_upper upper_in_name l high w).1 capital)
      (λ l a w. never_both (word_begins is_lower lower_in_name l (omega (arith, a.inside)) w).1 small)

  pub letter_refused : (class_of first ≡ Inner) ⊎ (class_of first ≡ Outside) → NoToken s from
  letter_refused (inl e) = no_letter (lower_is first ∙ ap is_small e) (upper_is first ∙ ap is_capital e)
  letter_refused (inr e) = no_letter (lower_is first ∙ ap is_small e) (upper_is first ∙ ap is_capital e)

module _ (s : Bytes) (from : ℕ) (inside : from < length s) (e : ℕ) (word : EndsWord s (from + 1) e) where
  after : from < e
  after = omega (arith, word.low)

  -- ---- a word that begins with a letter of a kind

  module _ (isFirst : ℕ → Bool) (within : (b : ℕ) → isFirst b ≡ true → is_name_byte b ≡ true) where
    whole : isFirst (get_or s from 0) ≡ true → EndsWord s from e
    whole h = word_from inside (within (get_or s from 0) h) word

    word_here : isFirst (get_or s from 0) ≡ true → e ≤ from + 16 → is_word isFirst (part s from e) ≡ true
    word_here h short =
        let wide : length (part s from e) ≡ e - from = part_length s from (e - from) e refl word.high in
        spelled_word isFirst within (part s from e) (record { any = omega (arith, after); first = ap isFirst (first_place s from inside e after) ∙ h; named = (whole h).named; short = omega arith })

    word_free : isFirst (get_or s from 0) ≡ true → is_free 32 (part s from e) ≡ true
    word_free h = free_from is_name_byte 32 space_no_name _ (whole h).named

    -- a word that ends before a byte of no name ends here
    word_there : (l : ℕ) → l ≤ length s → (l < length s → is_name_byte (get_or s l 0) ≡ false) → is_word isFirst (part s from l) ≡ true → (e ≡ l) × (isFirst (get_or s from 0) ≡ true) × (e ≤ from + 16)
    word_there l high stop h =
        let spelled = word_spelled isFirst within (part s from l) h in
        let wide : length (part s from l) ≡ l - from = part_length s from (l - from) l refl high in
        let begins = word_begins s from inside isFirst within l high h in
        let same : e ≡ l = word_end_once (whole begins.1) (record { low = omega (arith, begins.0); high = high; named = spelled.named; ended = stop }) in
        (same, begins.1, omega (arith, spelled.short))

  -- ---- the ways through the loop

  refused : (is_upper (get_or s from 0) ≡ true → e ≤ from + 16 → EndsAt s e → ⊥) → (is_lower (get_or s from 0) ≡ true → e ≤ from + 16 → ArityAt s e → ⊥) → NoToken s from
  refused no-variable no_symbol =
      neither s from
      (λ l high end w. let there = word_there is_upper upper_in_name l high (λ k. ap is_name_byte (end.space k) ∙ space_no_name) w in no-variable there.1 there.2 (rw there.0 end))
      (λ l a w. let there = word_there is_lower lower_in_name l (omega (arith, a.inside)) (λ _. ap is_name_byte a.slash ∙ slash_no_name) w in no_symbol there.1 there.2 (rw there.0 a))

  pub long_refused : 16 < e - from → NoToken s from
  long_refused long = refused (λ _ short _. omega arith) (λ _ short _. omega arith)

  module _ (short : e - from ≤ 16) where
    near : e ≤ from + 16
    near = omega (arith, after)

    -- a small letter
    module _ (small : class_of (get_or s from 0) ≡ Small) (arity : Bool) (decides : Decides arity (ArityAt s e)) where
      pub arity_refused : arity ≡ false → NoToken s from
      arity_refused h = refused (λ upper _ _. never_both upper (upper_is _ ∙ ap is_capital small)) (λ _ _ a. decides.no h a)

      module _ (h : arity ≡ true) where
        there : ArityAt s e
        there = decides.yes h

        begins : is_lower (get_or s from 0) ≡ true
        begins = lower_is _ ∙ ap is_small small

        symbol_free : is_free 32 (part s from (e + 2)) ≡ true
        symbol_free =
            let next : e + 1 + 1 ≡ e + 2 = omega arith in
            ap (λ (n : ℕ). is_free 32 (part s from n)) (sym next)
            ∙ free_more s 32 from (e + 1) (omega (arith, after)) (omega (arith, there.inside))
            (free_more s 32 from e (omega (arith, after)) (omega (arith, there.inside)) (word_free is_lower lower_in_name begins) (λ k. omega (arith, there.slash)))
            (λ k. omega (arith, between_low 48 57 (get_or s (e + 1) 0) there.digit))

        pub symbol_found : (digit : ℕ) → digit ≡ get_or s (e + 1) 0 - 48 → SymbolFound s from e digit
        symbol_found digit worth =
            let w : Bytes = part s from (e + 2) in
            let low : from ≤ e = omega (arith, after) in
            let high : e + 2 ≤ length s = there.inside in
            let last : last_byte w ≡ get_or s (e + 1) 0 = digit_place s from e low high in
            let edges : last_byte w - 48 ≡ digit = omega arith in
            record {
              name = front_of w;
              after = after;
              found = record { low = omega arith; high = high; free = symbol_free; found = there.end.space };
              read =
                  symbol_read w (omega (arith, size s from e low high)) (slash_place s from e low high ∙ there.slash) (ap is_digit last ∙ there.digit) (ap is_name (front_place s from e low high) ∙ word_here is_lower lower_in_name begins near)
                  ∙ ap (symbol_of (front_of w)) edges;
              few = omega (arith, between_high 48 57 (get_or s (e + 1) 0) there.digit);
            }

    -- a capital
    module _ (capital : class_of (get_or s from 0) ≡ Capital) (fine : Bool) (decides : Decides fine (EndsAt s e)) where
      pub variable_refused : fine ≡ false → NoToken s from
      variable_refused h = refused (λ _ _ end. decides.no h end) (λ lower _ _. never_both lower (lower_is _ ∙ ap is_small capital))

      pub variable_found : fine ≡ true → (place : ℕ) → place ≡ from * 16 + (e - from - 1) → VariableFound s from e place
      variable_found h place at =
          let begins : is_upper (get_or s from 0) ≡ true = upper_is _ ∙ ap is_capital capital in
          let starts : start_of place ≡ from = omega (arith, after) in
          let ends : end_of place ≡ e = omega (arith, after) in
          let same : standing_at s place ≡ part s from e = ap₂ (part s) starts ends in
          record {
            after = after;
            found = record { low = omega (arith, after); high = word.high; free = word_free is_upper upper_in_name begins; found = (decides.yes h).space };
            same = same;
            stands = record { inside = omega (arith, word.high); proper = ap is_variable same ∙ word_here is_upper upper_in_name begins near };
          }
