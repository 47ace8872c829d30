-- Bytes as one number: two, four and eight of them. Each has eight bits, in every part.
use mathlib.Core.Path.{◌≡◌, refl, sym, ◌∙◌, ap}
use mathlib.Core.List.{[], ◌∷◌}
use Prim.Native.Nat.{ℕ, zero, suc, ◌+◌, ◌*◌, ◌^◌, ◌≤◌, ◌<◌}
use native.Mathlib.Nat.{mul_comm, pow-succ'}
use native.Mathlib.Omega.{arith}
use lib.ListN.{length, get_or}
use lib.Pow.{pow-add}
use mir.Syntax.{w8}
use mir.Val.{Fits}
use Rattle.std.specs.Int.{sum_through, byte_worth}
use Rattle.theory.specs.Text.{Bytes}
use Rattle.text.specs.Scans.{part}
use Rattle.text.specs.ByteNumbers.{number}
use Rattle.text.proofs.Parts.{part_length, part_at}
use Rattle.text.proofs.Halves.{value_join, value_one}

pub number_none : number [] ≡ 0
unfolding number
number_none = refl

pub number_more : (b : ℕ) (bs : Bytes) → number (b ∷ bs) ≡ b + 256 * number bs
unfolding number
number_more b bs = refl

module _ (s : Bytes) where
  number_join : (a n m e : ℕ) → a + n ≡ m → m ≤ e → e ≤ length s → number (part s a e) ≡ number (part s a m) + 256 ^ n * number (part s m e)
  number_join = value_join 256 (λ (b : ℕ). b) number number_none number_more s

  number_one : (i e : ℕ) → i + 1 ≡ e → e ≤ length s → number (part s i e) ≡ get_or s i 0
  number_one = value_one 256 (λ (b : ℕ). b) number number_none number_more s

  -- what std's `from_le_bytes` gives: the bytes from a place on, each by its worth
  module _ (at : ℕ) where
    abbrev pub byte_from : ℕ → ℕ
    byte_from zero = get_or s at 0
    byte_from (suc i) = get_or s (at + suc i) 0

    pub worths_lem : (k : ℕ) → at + suc k ≤ length s → sum_through (λ i. byte_worth i (byte_from i)) k ≡ number (part s at (at + suc k))
    worths_lem zero l = sym (number_one at (at + 1) refl l)
    worths_lem (suc k) l =
        let b = get_or s (at + suc k) 0 in
        let raised : 256 ^ suc k * number (part s (at + suc k) (at + suc (suc k))) ≡ b * 256 ^ suc k =
        ap (λ (n : ℕ). 256 ^ suc k * n) (number_one (at + suc k) (at + suc (suc k)) (omega arith) l) ∙ mul_comm (256 ^ suc k) b in
        omega (arith, worths_lem k (omega arith), number_join at (suc k) (at + suc k) (at + suc (suc k)) refl (omega arith) l, raised)

-- ---- bytes and their bits

pub bits_of : (count : ℕ) → 2 ^ (8 * count) ≡ 256 ^ count
bits_of zero = refl
bits_of (suc count) =
    let more : 8 * suc count ≡ 8 + 8 * count = omega arith in
    ap (λ (n : ℕ). 2 ^ n) more ∙ pow-add 2 8 (8 * count) ∙ ap (λ (n : ℕ). 256 * n) (bits_of count) ∙ sym (pow-succ' 256 count)

abbrev pub AreBytes : Bytes → Type 0
AreBytes xs = (k : ℕ) → k < length xs → get_or xs k 0 < 256

module _ (s : Bytes) (small : (k : ℕ) → Fits w8 (get_or s k 0)) (from count end : ℕ) (place : from + count ≡ end) where
  pub bytes_part : end ≤ length s → AreBytes (part s from end)
  bytes_part l k h =
      let wide = part_length s from count end (omega arith) l in
      rw (part_at s from end k (omega arith)) (omega (arith, small (from + k)))
