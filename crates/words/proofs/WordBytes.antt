-- Bytes as words: the first and the last of eight, up to eight as one word, and up to sixteen as two.
use mathlib.Core.Path.{◌≡◌, refl, sym, ◌∙◌, ap, ap₂}
use Prim.Native.Nat.{ℕ, ◌+◌, ◌-◌, ◌*◌, ◌/◌, ◌%◌, ◌^◌, ◌≤◌, ◌<◌}
use native.Mathlib.Omega.{arith}
use lib.Bits.{bit_and, and_mask}
use lib.ListN.{length, get_or, take, drop, drop_of_length-le}
use lib.Pow.{shl_exact, shr-shr}
use lib.Seq.{take_all, take_at, drop_at}
use mir.Syntax.{w8}
use mir.Val.{Fits}
use Rattle.theory.specs.Text.{Bytes}
use Rattle.text.specs.Scans.{part}
use Rattle.text.specs.ByteNumbers.{number}
use Rattle.text.proofs.Parts.{part_length, part_join}
use Rattle.text.proofs.Halves.{value_first, value_last}
use Rattle.text.proofs.EightBytes.{number_none, number_more, bits_of, bytes_part}
use Rattle.words.specs.Words.{words_of}

-- ---- the first and the last bytes of eight

module _ (count : ℕ) (h : count < 8) where
  mask_is : 1 * 2 ^ (8 * count) % 18446744073709551616 ≡ 2 ^ (8 * count)
  mask_is = shl_exact {a = 1} 1 (8 * count) 64 (omega arith) (omega arith) ∙ omega arith

  pub masked : (word : ℕ) → bit_and word (1 * 2 ^ (8 * count) % 18446744073709551616 - 1) ≡ word % 256 ^ count
  masked word = ap (λ (n : ℕ). bit_and word (n - 1)) mask_is ∙ and_mask word (8 * count) ∙ ap (λ (n : ℕ). word % n) (bits_of count)

pub shifted : (word count : ℕ) → count < 8 → word / 2 ^ (8 * (7 - count)) / 256 ≡ word / 256 ^ (8 - count)
shifted word count h =
    let bits : 8 * (7 - count) + 8 ≡ 8 * (8 - count) = omega arith in
    shr-shr word (8 * (7 - count)) 8 ∙ ap (λ (n : ℕ). word / 2 ^ n) bits ∙ ap (λ (n : ℕ). word / n) (bits_of (8 - count))

module _ (s : Bytes) (small : (k : ℕ) → Fits w8 (get_or s k 0)) (from count end : ℕ) (place : from + count ≡ end) where
  pub first_bytes : count < 8 → from + 8 ≤ length s → (word r : ℕ) → word ≡ number (part s from (from + 8)) → r ≡ word % 256 ^ count → r ≡ number (part s from end)
  first_bytes few l word r e f =
      f
      ∙ ap (λ (n : ℕ). n % 256 ^ count) e
      ∙ value_first 256 (λ (b : ℕ). b) number number_none number_more (omega arith) s from count end (from + 8) place (omega arith) l (bytes_part s small from count end place (omega arith))

pub last_bytes : (s : Bytes) → ((k : ℕ) → Fits w8 (get_or s k 0)) → (start count from end : ℕ) → start + (8 - count) ≡ from → from + count ≡ end → end ≤ length s → count < 8 → (word r : ℕ) → word ≡ number (part s start (start + 8)) → r ≡ word / 256 ^ (8 - count) → r ≡ number (part s from end)
last_bytes s small start count from end f g l few word r e h =
    let eight : start + 8 ≡ end = omega arith in
    h
    ∙ ap (λ (n : ℕ). n / 256 ^ (8 - count)) (e ∙ ap (λ (n : ℕ). number (part s start n)) eight)
    ∙ value_last 256 (λ (b : ℕ). b) number number_none number_more (omega arith) s start (8 - count) from end f (omega arith) l (bytes_part s small start (8 - count) from f (omega arith))

-- ---- a word, and two

module _ (s : Bytes) (from end : ℕ) where
  module _ (high : end ≤ length s) where
    pub words_short : from ≤ end → end - from ≤ 8 → (word : ℕ) → word ≡ number (part s from end) → record { first = word; second = 0 } ≡ words_of (part s from end)
    unfolding words_of
    words_short low short word e =
        let wide = part_length s from (end - from) end refl high in
        ap₂ (λ (first second : ℕ). record { first = first; second = second })
        (e ∙ ap number (sym (take_all 8 (part s from end) (omega arith))))
        (sym number_none ∙ ap number (sym (drop_of_length-le (part s from end) {i = 8} (omega arith))))

    pub words_long : 8 < end - from → (first second : ℕ) → first ≡ number (part s from (from + 8)) → second ≡ number (part s (from + 8) end) → record { first = first; second = second } ≡ words_of (part s from end)
    unfolding words_of
    words_long long first second e f =
        let wide = part_length s from 8 (from + 8) (omega arith) (omega arith) in
        let both = part_join s from (from + 8) end (omega arith) (omega arith) in
        ap₂ (λ (first second : ℕ). record { first = first; second = second })
        (e ∙ ap number (sym (ap (take 8) both ∙ take_at (part s from (from + 8)) (part s (from + 8) end) 8 wide)))
        (f ∙ ap number (sym (ap (drop 8) both ∙ drop_at (part s from (from + 8)) (part s (from + 8) end) 8 wide)))
