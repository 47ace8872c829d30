-- A word by its letters, and a token with an arity by its places.
use mathlib.Core.Path.{◌≡◌, refl, sym, ◌∙◌, ap}
use mathlib.Core.Bool.{Bool, true, ◌&&◌}
use mathlib.Core.List.{[], ◌∷◌}
use Prim.Native.Nat.{ℕ, ◌+◌, ◌-◌, ◌≤◌, ◌<◌}
use native.Mathlib.Omega.{arith}
use lib.Dec.{leb}
use lib.ListN.{length, get_or, take, drop}
use lib.Seq.{take-take}
use Rattle.groundwork.proofs.Truth.{never_both, and_left, and_right, leb-le, le-leb}
use Rattle.theory.specs.Lists.{every}
use Rattle.theory.specs.Text.{Bytes, is_name_byte, is_word}
use Rattle.text.specs.Scans.{part}
use Rattle.text.proofs.Parts.{part_length, part_at}
use Rattle.words.proofs.WordReading.{word_is}
use Rattle.tokens.proofs.SymbolTokens.{last_byte, last_but_one, front_of}

-- ---- a word, by its first letter, its bytes and its length

pub record Spelled (isFirst : ℕ → Bool) (w : Bytes) : Type 0 where
  pub any : 0 < length w
  pub first : isFirst (get_or w 0 0) ≡ true
  pub named : every is_name_byte w ≡ true
  pub short : length w ≤ 16

module _ (isFirst : ℕ → Bool) (within : (b : ℕ) → isFirst b ≡ true → is_name_byte b ≡ true) where
  spelled_of : (w : Bytes) → 0 < length w → (isFirst (get_or w 0 0) && every is_name_byte w && leb (length w) 16) ≡ true → Spelled isFirst w
  spelled_of w any all =
      let front : (isFirst (get_or w 0 0) && every is_name_byte w) ≡ true = and_left (isFirst (get_or w 0 0) && every is_name_byte w) (leb (length w) 16) all in
      record {
        any = any;
        first = and_left (isFirst (get_or w 0 0)) (every is_name_byte w) front;
        named = and_right (isFirst (get_or w 0 0)) (every is_name_byte w) front;
        short = leb-le (length w) 16 (and_right (isFirst (get_or w 0 0) && every is_name_byte w) (leb (length w) 16) all);
      }

  pub word_spelled : (w : Bytes) → is_word isFirst w ≡ true → Spelled isFirst w
  unfolding is_word
  word_spelled [] h = never_both h refl
  word_spelled (b ∷ bs) h = spelled_of (b ∷ bs) (omega arith) (sym (word_is isFirst within (b ∷ bs) (omega arith)) ∙ h)

  pub spelled_word : (w : Bytes) → Spelled isFirst w → is_word isFirst w ≡ true
  spelled_word w s = word_is isFirst within w s.any ∙ simp (s.first, s.named, le-leb (length w) 16 s.short)

-- ---- a token with an arity, by its places

module _ (s : Bytes) (from e : ℕ) (low : from ≤ e) (inside : e + 2 ≤ length s) where
  abbrev token : Bytes
  token = part s from (e + 2)

  pub size : length token ≡ e + 2 - from
  size = part_length s from (e + 2 - from) (e + 2) (omega arith) inside

  pub front_place : front_of token ≡ part s from e
  front_place =
      let less : length token - 2 ≡ e - from = omega (arith, size) in
      ap (λ (n : ℕ). take n token) less ∙ take-take (e - from) (e + 2 - from) (drop from s) (omega arith)

  place : (i j : ℕ) → i < length token → from + i ≡ j → get_or token i 0 ≡ get_or s j 0
  place i j h e = part_at s from _ i (omega (arith, size)) ∙ ap (λ (n : ℕ). get_or s n 0) e

  pub slash_place : last_but_one token ≡ get_or s e 0
  slash_place = place (length token - 2) e (omega (arith, size)) (omega (arith, size))

  pub digit_place : last_byte token ≡ get_or s (e + 1) 0
  digit_place = place (length token - 1) (e + 1) (omega (arith, size)) (omega (arith, size))
