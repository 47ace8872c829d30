-- Few bytes as one number, by two halves that may overlap: the first half as it is, and of the last half what comes after it.
use mathlib.Core.Path.{◌≡◌, refl, sym, ◌∙◌, ap, ap₂}
use mathlib.Core.List.{[], ◌∷◌}
use Prim.Native.Nat.{ℕ, zero, suc, ◌+◌, ◌-◌, ◌*◌, ◌/◌, ◌%◌, ◌^◌, ◌≤◌, ◌<◌}
use native.Mathlib.Nat.{mul_comm, one-le-pow, pow-suc}
use native.Mathlib.Omega.{arith}
use lib.ListN.{length, get_or, take, drop, drop_of_length-le}
use lib.Pow.{shl_exact}
use lib.Seq.{take_all, drop-append_seam}
use mir.Syntax.{w8, w64}
use mir.Val.{Fits}
use Rattle.theory.specs.Text.{Bytes}
use Rattle.text.specs.Scans.{part}
use Rattle.text.specs.ByteNumbers.{number}
use Rattle.text.proofs.Parts.{part_rest, empty_is}
use Rattle.text.proofs.Halves.{value_join, value_one, value_last}
use Rattle.text.proofs.EightBytes.{number_none, number_more, bits_of, AreBytes, bytes_part}
use Rattle.words.specs.Words.{words_of}

drop_none : (s : Bytes) → drop 0 s ≡ s
drop_none s = drop-append_seam [] s

-- all of the bytes, as a part
pub part_all : (s : Bytes) → part s 0 (length s) ≡ s
part_all s = part_rest s 0 ∙ drop_none s

module _ (s : Bytes) (small : (k : ℕ) → Fits w8 (get_or s k 0)) (half : ℕ) (low : half ≤ length s) (high : length s ≤ half + half) where
  -- what the last half has after the first
  later : (last : ℕ) → last ≡ number (part s (length s - half) (length s - half + half)) → last / 2 ^ (8 * (half + half - length s)) ≡ number (part s half (length s))
  later last e =
      let start = length s - half in
      let over = half + half - length s in
      let end : start + half ≡ length s = omega arith in
      let place : start + over ≡ half = omega arith in
      ap (λ (n : ℕ). n / 2 ^ (8 * over)) (e ∙ ap (λ (n : ℕ). number (part s start n)) end)
      ∙ ap (λ (n : ℕ). number (part s start (length s)) / n) (bits_of over)
      ∙ value_last 256 (λ (b : ℕ). b) number number_none number_more (omega arith) s start over half (length s) place low (omega arith) (bytes_part s small start over half place low)

  pub joined : (first last : ℕ) → first ≡ number (part s 0 half) → last ≡ number (part s (length s - half) (length s - half + half))
      → first + 256 ^ half * (last / 2 ^ (8 * (half + half - length s))) ≡ number s
  joined first last e f =
      ap₂ (λ (a b : ℕ). a + 256 ^ half * b) e (later last f)
      ∙ sym (value_join 256 (λ (b : ℕ). b) number number_none number_more s 0 half half (length s) (omega arith) low (omega arith))
      ∙ ap number (part_all s)

module _ (s : Bytes) (small : (k : ℕ) → Fits w8 (get_or s k 0)) where
  pub eight_later : (8 < length s) × (length s ≤ 16) → (last : ℕ) → last ≡ number (part s (length s - 8) (length s - 8 + 8)) → last / 2 ^ (8 * (16 - length s)) ≡ number (drop 8 s)
  eight_later wide last e = later s small 8 (omega (arith, wide.0)) wide.1 last e ∙ ap number (part_rest s 8)

-- few bytes make a small number
number_fits : (s : Bytes) → AreBytes s → (n : ℕ) → length s ≤ n → number s < 256 ^ n
unfolding number
number_fits [] f n h = one-le-pow n 256 (omega arith)
number_fits (b ∷ bs) f zero h = absurd (omega arith)
number_fits (b ∷ bs) f (suc n) h =
    let low : b < 256 = f 0 (omega arith) in
    let later : number bs < 256 ^ n = number_fits bs (λ k less. f (suc k) (omega arith)) n (omega arith) in
    rw (pow-suc 256 n) (omega arith)

-- the half that is shifted, at its place, and with the other half
module _ (s : Bytes) (small : (k : ℕ) → Fits w8 (get_or s k 0)) (half : ℕ) (few : half ≤ 4) (low : half ≤ length s) (high : length s ≤ half + half) (first last : ℕ) (e : first ≡ number (part s 0 half)) (f : last ≡ number (part s (length s - half) (length s - half + half))) where
  raised : 1 * 2 ^ (8 * half) % 18446744073709551616 ≡ 256 ^ half
  raised = shl_exact {a = 1} 1 (8 * half) 64 (omega arith) (omega arith) ∙ omega arith ∙ bits_of half

  pub whole : first + last / 2 ^ (8 * (half + half - length s)) * (1 * 2 ^ (8 * half) % 18446744073709551616) ≡ number s
  whole = ap (λ (n : ℕ). first + last / 2 ^ (8 * (half + half - length s)) * n) raised ∙ ap (λ (n : ℕ). first + n) (mul_comm _ _) ∙ joined s small half low high first last e f

  below : number s < 256 ^ 8
  below = number_fits s (λ k _. omega (arith, small k)) 8 (omega arith)

  pub halves_fit : Fits w64 (first + last / 2 ^ (8 * (half + half - length s)) * (1 * 2 ^ (8 * half) % 18446744073709551616))
  halves_fit = omega (arith, whole, below)

  pub half_fits : Fits w64 (last / 2 ^ (8 * (half + half - length s)) * (1 * 2 ^ (8 * half) % 18446744073709551616))
  half_fits = omega (arith, whole, below)

-- ---- one byte, and none

pub byte_alone : (s : Bytes) → length s ≡ 1 → (b : ℕ) → (b ≡ get_or s 0 0) × (b < 256) → b ≡ number s
byte_alone s one b e =
    e.0 ∙ sym (value_one 256 (λ (b : ℕ). b) number number_none number_more s 0 1 refl (omega arith)) ∙ ap (λ (n : ℕ). number (part s 0 n)) (sym one) ∙ ap number (part_all s)

pub no_byte : (s : Bytes) → length s < 2 → (length s ≡ 1 → ⊥) → 0 ≡ number s
no_byte s few other = sym number_none ∙ ap number (sym (empty_is s (omega arith)))

-- ---- two words

module _ (s : Bytes) where
  pub words_in_one : length s ≤ 8 → (word : ℕ) → word ≡ number s → record { first = word; second = 0 } ≡ words_of s
  unfolding words_of
  words_in_one short word e =
      ap₂ (λ (first second : ℕ). record { first = first; second = second })
      (e ∙ ap number (sym (take_all 8 s short)))
      (sym number_none ∙ ap number (sym (drop_of_length-le s {i = 8} short)))

  pub words_in_two : (first second : ℕ) → first ≡ number (part s 0 8) → second ≡ number (drop 8 s) → record { first = first; second = second } ≡ words_of s
  unfolding words_of
  words_in_two first second e f = ap₂ (λ (first second : ℕ). record { first = first; second = second }) (e ∙ ap (λ (bs : Bytes). number (take 8 bs)) (drop_none s)) f
