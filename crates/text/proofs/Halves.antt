-- Bytes as one number, the first byte the lowest, by any digit for a byte and in any base: of two parts, one after the other, of one byte, and of the first and the last bytes of a part.
use mathlib.Core.Path.{◌≡◌, sym, ◌∙◌, ap}
use mathlib.Core.List.{[], ◌∷◌, ◌++◌}
use Prim.Native.Nat.{ℕ, suc, ◌+◌, ◌*◌, ◌/◌, ◌%◌, ◌^◌, ◌≤◌, ◌<◌}
use native.Mathlib.Nat.{mul-add, mul-suc, mul_assoc, mul-le-mul_left, pow-zero, pow-succ', one-le-pow, mod-eq_of_lt, div-eq_of_lt, add-mul-mod_self_left, add-mul-div_left}
use native.Mathlib.Omega.{arith}
use lib.ListN.{length, get_or}
use Rattle.theory.specs.Text.{Bytes}
use Rattle.text.specs.Scans.{part}
use Rattle.text.proofs.Parts.{part_length, part_none, part_more, part_join}

module _ (base : ℕ) (digit : ℕ → ℕ) (value : Bytes → ℕ) (none : value [] ≡ 0) (more : (b : ℕ) (bs : Bytes) → value (b ∷ bs) ≡ digit b + base * value bs) where
  value_append : (xs ys : Bytes) → value (xs ++ ys) ≡ value xs + base ^ length xs * value ys
  value_append [] ys = omega (arith, none, ap (λ (k : ℕ). k * value ys) (pow-zero base))
  value_append (b ∷ xs) ys =
      let raised : base * (base ^ length xs * value ys) ≡ base ^ suc (length xs) * value ys = sym (mul_assoc base (base ^ length xs) (value ys)) ∙ ap (λ (k : ℕ). k * value ys) (sym (pow-succ' base (length xs))) in
      let apart = mul-add base (value xs) (base ^ length xs * value ys) in
      more b (xs ++ ys) ∙ ap (λ (n : ℕ). digit b + base * n) (value_append xs ys) ∙ omega (arith, raised, apart, more b xs)

  module _ (s : Bytes) where
    pub value_join : (a n m e : ℕ) → a + n ≡ m → m ≤ e → e ≤ length s → value (part s a e) ≡ value (part s a m) + base ^ n * value (part s m e)
    value_join a n m e f l h =
        ap value (part_join s a m e (omega arith) l)
        ∙ value_append (part s a m) (part s m e)
        ∙ ap (λ (k : ℕ). value (part s a m) + base ^ k * value (part s m e)) (part_length s a n m (omega arith) (omega arith))

    pub value_one : (i e : ℕ) → i + 1 ≡ e → e ≤ length s → value (part s i e) ≡ digit (get_or s i 0)
    value_one i e f l =
        ap (λ (k : ℕ). value (part s i k)) (sym f)
        ∙ ap value (part_more s i i (omega arith) (omega arith) ∙ ap (λ (rest : Bytes). rest ++ (get_or s i 0 ∷ [])) (part_none s i))
        ∙ more (get_or s i 0) []
        ∙ omega (arith, ap (λ (k : ℕ). base * k) none)

  -- ---- digits below the base

  abbrev pub Digits : Bytes → Type 0
  Digits xs = (k : ℕ) → k < length xs → digit (get_or xs k 0) < base

  -- the number of some bytes has room in as many places
  value_small : (xs : Bytes) → Digits xs → value xs < base ^ length xs
  value_small [] small = omega (arith, none, pow-zero base)
  value_small (b ∷ xs) small =
      let rest = mul-le-mul_left base (value_small xs λ k l. small (suc k) (omega arith)) in
      let first : digit b < base = small 0 (omega arith) in
      omega (arith, more b xs, rest, first, mul-suc base (value xs), pow-succ' base (length xs))

  module _ (some : 0 < base) (s : Bytes) (a n m e : ℕ) (place : a + n ≡ m) (l : m ≤ e) (h : e ≤ length s) (small : Digits (part s a m)) where
    room : value (part s a m) < base ^ n
    room = rw (part_length s a n m (omega arith) (omega arith)) at (value_small (part s a m) small)

    pub value_first : value (part s a e) % base ^ n ≡ value (part s a m)
    value_first = ap (λ (k : ℕ). k % base ^ n) (value_join s a n m e place l h) ∙ add-mul-mod_self_left (value (part s a m)) (base ^ n) (value (part s m e)) ∙ mod-eq_of_lt room

    pub value_last : value (part s a e) / base ^ n ≡ value (part s m e)
    value_last = ap (λ (k : ℕ). k / base ^ n) (value_join s a n m e place l h) ∙ add-mul-div_left (value (part s a m)) (value (part s m e)) (one-le-pow n base some) ∙ omega (arith, div-eq_of_lt room)
