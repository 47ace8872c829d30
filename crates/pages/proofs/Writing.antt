-- The loop of `put_decimal`: the digits of a number written from the last.
use mathlib.Core.Path.{◌≡◌, refl, sym, ◌∙◌, ap}
use mathlib.Core.List.{[], ◌∷◌, ◌++◌, append_assoc, append-nil}
use Prim.Native.Nat.{ℕ, suc, ◌+◌, ◌-◌, ◌/◌, ◌%◌, ◌≤◌, ◌<◌}
use native.Mathlib.Decide.{dec_lt}
use native.Mathlib.Numerals.{add-one}
use native.Mathlib.Omega.{arith}
use lib.ListN.{length, set, drop, length-set}
use lib.Seq.{drop-cons, drop-set-lt, get_or-set_same}
use Rattle.theory.specs.Text.{Bytes, decimal}
use Rattle.theory.proofs.Reading.Decimals.{decimal_one}
use Rattle.pages.specs.Pages.{Puts}
use Rattle.theory.proofs.Reading.Digits.{decimal_last, digits_one, digits_more, digits_some}

-- the digits of n are those of what is left and some that stand after place at, in front of what stood after all
pub record Writing (n : ℕ) (page₀ page : Bytes) (many left at : ℕ) : Type 0 where
  pub size : length page ≡ length page₀
  pub all : many ≡ length (decimal n)
  pub place : at + 1 ≡ length (decimal left)
  pub inside : at < length page
  pub written : Bytes
  pub whole : decimal n ≡ decimal left ++ written
  pub after : drop (at + 1) page ≡ written ++ drop many page₀

-- a byte stored at a place stands in front of what is after the place
store_front : (page : Bytes) (at b : ℕ) → at < length page → drop at (set page at b) ≡ b ∷ drop (at + 1) page
store_front page at b h =
    let inside : at < length (set page at b) = omega (arith, length-set page at b) in
    rw (add-one at, drop-cons (set page at b) at 0 inside, get_or-set_same page at b 0 h, drop-set-lt (suc at) page at b (omega arith))

pub writing_begin : {n many : ℕ} {page : Bytes} → many ≡ length (decimal n) → length (decimal n) ≤ length page → Writing n page page many n (many - 1)
writing_begin {n} {many} {page} all room =
    let first : many - 1 + 1 ≡ many = omega (arith, digits_some n) in
    record {
      size = refl;
      all = all;
      place = first ∙ all;
      inside = omega arith;
      written = [];
      whole = sym (append-nil (decimal n));
      after = ap (λ (i : ℕ). drop i page) first;
    }

module _ {n many left at : ℕ} {page₀ page : Bytes} (writing : Writing n page₀ page many left at) where
  pub writing_below : 10 ≤ left → 1 ≤ at
  writing_below h = omega (arith, writing.place, digits_more left h, digits_some (left / 10))

  module _ {b : ℕ} where
    digit_front : (i : ℕ) → i ≡ at → drop i (set page at b) ≡ (b ∷ writing.written) ++ drop many page₀
    digit_front i e = ap (λ (j : ℕ). drop j (set page at b)) e ∙ store_front page at b writing.inside ∙ ap (λ (rest : Bytes). b ∷ rest) writing.after

    pub writing_more : 10 ≤ left → b ≡ 48 + left % 10 → Writing n page₀ (set page at b) many (left / 10) (at - 1)
    writing_more h e =
        let before : at - 1 + 1 ≡ at = omega (arith, writing_below h) in
        record {
          size = length-set page at b ∙ writing.size;
          all = writing.all;
          place = omega (arith, writing.place, digits_more left h);
          inside = omega (arith, writing.inside, length-set page at b);
          written = b ∷ writing.written;
          whole = writing.whole ∙ rw (decimal_last left h, e) (append_assoc (decimal (left / 10)) ((48 + left % 10) ∷ []) writing.written);
          after = digit_front (at - 1 + 1) before;
        }

    pub writing_end : left < 10 → b ≡ 48 + left → Puts (decimal n) page₀ (set page at b) many
    writing_end h e =
        let front : 0 ≡ at = omega (arith, writing.place, digits_one left h) in
        let digits : b ∷ writing.written ≡ decimal n = sym (writing.whole ∙ rw (decimal_one left h, e)) in
        record { many = writing.all; is = digit_front 0 front ∙ ap (λ (bs : Bytes). bs ++ drop many page₀) digits }

-- so many places are left to write: the digits of what is left stand there, or all is written
pub record Turns (n : ℕ) (page₀ page : Bytes) (many left places : ℕ) : Type 0 where
  pub more : 0 < places → Writing n page₀ page many left (places - 1)
  pub done : places ≡ 0 → Puts (decimal n) page₀ page many

pub turns_begin : {n many : ℕ} {page : Bytes} → many ≡ length (decimal n) → length (decimal n) ≤ length page → Turns n page page many n many
turns_begin {n} all room = record { more = λ _. writing_begin all room; done = λ none. absurd (omega (arith, digits_some n)) }

pub turns_more : {n many left places b : ℕ} {page₀ page : Bytes} → Turns n page₀ page many left places → 0 < places → b ≡ 48 + left % 10
    → Turns n page₀ (set page (places - 1) b) many (left / 10) (places - 1)
turns_more {n} {many} {left} {places} {b} {page₀} {page} turns some e = by (turns.more some) (dec_lt left 10)
  where
    by : Writing n page₀ page many left (places - 1) → Dec (left < 10) → Turns n page₀ (set page (places - 1) b) many (left / 10) (places - 1)
    by writing (yes one) = record {
      more = λ place. absurd (omega (arith, writing.place, digits_one left one));
      done = λ _. writing_end writing one (omega arith);
    }
    by writing (no several) = record {
      more = λ _. writing_more writing (omega arith) e;
      done = λ none. absurd (omega (arith, writing_below writing (omega arith)));
    }
