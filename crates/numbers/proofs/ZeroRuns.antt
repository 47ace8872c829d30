-- Fields `0` one after another: as far as the bits of two numbers agree, their bytes do.
use mathlib.Core.Path.{◌≡◌, refl, sym, ◌∙◌, ap, ap₂}
use mathlib.Core.List.{[], ◌∷◌, ◌++◌}
use Prim.Native.Nat.{ℕ, zero, suc, ◌+◌, ◌-◌, ◌*◌, ◌/◌, ◌%◌, ◌^◌, ◌≤◌, ◌<◌}
use native.Mathlib.Nat.{mod-one, pow-suc, one-le-pow}
use native.Mathlib.Omega.{arith}
use lib.Arith.{mod-mul}
use lib.Bits.{bit_xor, xor_add_and, xor_mod, and_le_l, and_le_r}
use lib.Count.{under, count_trailing_zeros, trailing_le}
use lib.ListN.{length, get_or, take, drop, length-drop, length-append}
use lib.Pow.{pow_pos}
use lib.Seq.{take-take, take-append-le, drop-append_seam, drop-drop, drop_at}
use mir.Syntax.{w8}
use mir.Val.{Fits}
use Rattle.theory.specs.Text.{Bytes}
use Rattle.text.specs.Scans.{part}
use Rattle.text.specs.ByteNumbers.{number}
use Rattle.text.proofs.Parts.{part_length, part_none, part_join}
use Rattle.text.proofs.EightBytes.{bits_of, AreBytes, bytes_part}
use Rattle.numbers.specs.Zeros.{zero_fields, Zeros}

-- ---- bits

-- as many of the lowest bits as there are trailing zeros are 0
low_bits : (k n j : ℕ) → j ≤ count_trailing_zeros k n → n % 2 ^ j ≡ 0
unfolding count_trailing_zeros
low_bits k n zero h = mod-one n
low_bits zero n (suc j) h = absurd (omega arith)
low_bits (suc k) n (suc j) h = by (n % 2) refl h λ l. low_bits k (n / 2) j l
  where
    by : (d : ℕ) → n % 2 ≡ d → suc j ≤ under d (count_trailing_zeros k (n / 2)) → (j ≤ count_trailing_zeros k (n / 2) → n / 2 % 2 ^ j ≡ 0) → n % 2 ^ suc j ≡ 0
    by zero even l rest = ap (λ (m : ℕ). n % m) (pow-suc 2 j) ∙ mod-mul n (pow_pos j) (omega arith) ∙ omega (arith, even, rest (omega arith))
    by (suc d) odd l rest = absurd (omega arith)

-- where all bits of the difference are 0, the numbers are the same
xor_none : (a b : ℕ) → bit_xor a b ≡ 0 → a ≡ b
xor_none a b e = omega (arith, xor_add_and a b, and_le_l a b, and_le_r a b)

low_same : (a b j : ℕ) → j ≤ count_trailing_zeros 64 (bit_xor a b) → a % 2 ^ j ≡ b % 2 ^ j
low_same a b j h = xor_none (a % 2 ^ j) (b % 2 ^ j) (sym (xor_mod a b j) ∙ low_bits 64 (bit_xor a b) j h)

-- ---- bytes

number_mod : (x : ℕ) (xs : Bytes) → x < 256 → (j : ℕ) → number (x ∷ xs) % 256 ^ suc j ≡ (number xs % 256 ^ j) * 256 + x
unfolding number
number_mod x xs h j =
    let some : 0 < 256 ^ j = one-le-pow j 256 (omega arith) in
    let rest : (x + 256 * number xs) / 256 ≡ number xs = omega arith in
    let first : (x + 256 * number xs) % 256 ≡ x = omega arith in
    ap (λ (m : ℕ). (x + 256 * number xs) % m) (pow-suc 256 j)
    ∙ mod-mul (x + 256 * number xs) some (omega arith)
    ∙ ap₂ (λ (a b : ℕ). (a % 256 ^ j) * 256 + b) rest first

first_same : (j : ℕ) (xs ys : Bytes) → AreBytes xs → AreBytes ys → length xs ≡ length ys → number xs % 256 ^ j ≡ number ys % 256 ^ j → take j xs ≡ take j ys
first_same zero xs ys f g l e = refl
first_same (suc j) [] [] f g l e = refl
first_same (suc j) [] (y ∷ ys) f g l e = absurd (omega arith)
first_same (suc j) (x ∷ xs) [] f g l e = absurd (omega arith)
first_same (suc j) (x ∷ xs) (y ∷ ys) f g l e =
    let p : x < 256 = f 0 (omega arith) in
    let q : y < 256 = g 0 (omega arith) in
    let here = number_mod x xs p j in
    let there = number_mod y ys q j in
    ap₂ ◌∷◌ (omega arith) (first_same j xs ys (λ k h. f (suc k) (omega arith)) (λ k h. g (suc k) (omega arith)) (omega arith) (omega arith))

-- ---- fields `0`

zero_bytes : (r k : ℕ) → get_or (zero_fields r) k 0 < 256
unfolding zero_fields
zero_bytes zero k = omega arith
zero_bytes (suc r) zero = omega arith
zero_bytes (suc r) (suc zero) = omega arith
zero_bytes (suc r) (suc (suc k)) = zero_bytes r k

zero_take : (r n : ℕ) → r ≤ n → take (2 * r) (zero_fields n) ≡ zero_fields r
unfolding zero_fields
zero_take zero n h = refl
zero_take (suc r) zero h = absurd (omega arith)
zero_take (suc r) (suc n) h =
    let next : 2 * suc r ≡ suc (suc (2 * r)) = omega arith in
    rw next (ap (λ (rest : Bytes). 48 ∷ 44 ∷ rest) (zero_take r n (omega arith)))

zero_join : (a b : ℕ) → zero_fields a ++ zero_fields b ≡ zero_fields (a + b)
unfolding zero_fields
zero_join zero b = let same : 0 + b ≡ b = omega arith in rw same
zero_join (suc a) b =
    let next : suc a + b ≡ suc (a + b) = omega arith in
    rw next (ap (λ (rest : Bytes). 48 ∷ 44 ∷ rest) (zero_join a b))

zero_word : number (zero_fields 4) ≡ 3184093521962347568
unfolding number zero_fields
zero_word = refl

zero_length : length (zero_fields 4) ≡ 8
unfolding zero_fields
zero_length = refl

module _ (s : Bytes) where
  pub zeros_eight : ((k : ℕ) → Fits w8 (get_or s k 0)) → (at : ℕ) → at + 8 ≤ length s → (word : ℕ) → word ≡ number (part s at (at + 8)) → (t : ℕ) → t ≡ count_trailing_zeros 64 (bit_xor word 3184093521962347568) → (t / 16 ≤ 4) × Zeros s at (t / 16)
  zeros_eight small at l word e t f =
      let n = 2 * (t / 16) in
      let few : t / 16 ≤ 4 = omega (arith, trailing_le 64 (bit_xor word 3184093521962347568)) in
      let bits = low_same word 3184093521962347568 (8 * n) (omega arith) in
      let whole : at + 8 - at ≡ 8 = omega arith in
      let width : at + n - at ≡ n = omega arith in
      let same : number (part s at (at + 8)) % 256 ^ n ≡ number (zero_fields 4) % 256 ^ n = ap₂ ◌%◌ (sym e) (sym (bits_of n)) ∙ bits ∙ ap₂ ◌%◌ (sym zero_word) (bits_of n) in
      let bytes = first_same n (part s at (at + 8)) (zero_fields 4) (bytes_part s small at 8 (at + 8) refl l) (λ k _. zero_bytes 4 k) (part_length s at 8 (at + 8) (omega arith) l ∙ sym zero_length) same in (
        few,
        record {
          high = omega arith;
          stand = ap (λ (m : ℕ). take m (drop at s)) width ∙ sym (take-take n 8 (drop at s) (omega arith)) ∙ ap (λ (m : ℕ). take n (take m (drop at s))) (sym whole) ∙ bytes ∙ zero_take (t / 16) 4 few;
        },
      )

  module _ (from : ℕ) where
    pub zeros_none : from ≤ length s → Zeros s from 0
    unfolding zero_fields
    zeros_none h = let same : from + 2 * 0 ≡ from = omega arith in record { high = omega arith; stand = rw same (part_none s from) }

    pub zeros_more : (a : ℕ) → Zeros s from a → (b : ℕ) → (b ≤ 4) × Zeros s (from + 2 * a) b → Zeros s from (a + b)
    zeros_more a e b f =
        let place : from + 2 * (a + b) ≡ from + 2 * a + 2 * b = omega arith in
        record {
          high = omega (arith, f.1.high);
          stand = rw place (part_join s from (from + 2 * a) (from + 2 * a + 2 * b) (omega arith) (omega arith)) ∙ ap₂ ◌++◌ e.stand f.1.stand ∙ zero_join a b;
        }

-- eight bytes of a block are those of the whole from its place on
module _ (s : Bytes) (at : ℕ) (block after : Bytes) (cut : drop at s ≡ block ++ after) (wide : length block ≡ 8) where
  pub block_zeros : (b : ℕ) → (b ≤ 4) × Zeros block 0 b → (b ≤ 4) × Zeros s at b
  block_zeros b e =
      let there : at + 2 * b - at ≡ 2 * b = omega arith in
      let here : 0 + 2 * b - 0 ≡ 2 * b = omega arith in
      let few : b ≤ 4 = e.0 in (
        few,
        record {
          high = omega (arith, sym (length-drop at s) ∙ ap length cut ∙ length-append block after);
          stand =
              ap₂ take there cut
              ∙ take-append-le (2 * b) block after (omega arith)
              ∙ ap₂ take (sym here) (sym (drop-append_seam [] block))
              ∙ e.1.stand;
        },
      )

  pub block_rest : drop (at + 8) s ≡ after
  block_rest = sym (drop-drop 8 at s) ∙ ap (drop 8) cut ∙ drop_at block after 8 wide

-- what all the fields passed are with those of one block more, and the blocks to come then
module _ (s : Bytes) (from count : ℕ) (zeros : Zeros s from count) (block after rest : Bytes) (ahead : drop (from + 2 * count) s ≡ rest) (cut : rest ≡ block ++ after) (wide : length block ≡ 8) where
  pub zeros_passed : (b : ℕ) → (b ≤ 4) × Zeros block 0 b → Zeros s from (count + b)
  zeros_passed b e = zeros_more s from count zeros b (block_zeros s (from + 2 * count) block after (ahead ∙ cut) wide b e)

  pub blocks_ahead : (b : ℕ) → b ≡ 4 → drop (from + 2 * (count + b)) s ≡ after
  blocks_ahead b four =
      let place : from + 2 * (count + b) ≡ from + 2 * count + 8 = omega arith in
      rw place (block_rest s (from + 2 * count) block after (ahead ∙ cut) wide)
