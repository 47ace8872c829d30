-- The loop of `read_natural`: the value of the digits passed, and the digits that are left.
use mathlib.Core.Path.{◌≡◌, refl, sym, ◌∙◌, ap}
use mathlib.Core.Bool.{true, false, ◌&&◌, and-true, and-false}
use mathlib.Core.List.{[], ◌∷◌}
use mathlib.Core.Option.{some, none}
use Prim.Native.Nat.{ℕ, ◌+◌, ◌-◌, ◌*◌, ◌≤◌, ◌<◌}
use native.Mathlib.Omega.{arith}
use lib.ListN.{length, get_or, drop, drop_of_length-le}
use Rattle.groundwork.proofs.Truth.{and_not_left, equal-eqb, eqb-different, le-leb, gt-leb}
use Rattle.theory.specs.Lists.{every}
use Rattle.theory.specs.Text.{Bytes, is_digit, value_after, is_decimal, natural}
use Rattle.theory.proofs.Reading.Bytes.{between_from}
use Rattle.text.proofs.Parts.{empty_is, drop_more}
use Rattle.text.proofs.Classes.{between_below, between_above, every_at}

-- ---- what a decimal is

decimal_none : (s : Bytes) → length s ≡ 0 → is_decimal s ≡ false
unfolding is_decimal
decimal_none s h = ap is_decimal (empty_is s h)

decimal_zeros : (s : Bytes) → 1 < length s → get_or s 0 0 ≡ 48 → is_decimal s ≡ false
unfolding is_decimal
decimal_zeros [] h e = absurd (omega arith)
decimal_zeros (b ∷ []) h e = absurd (omega arith)
decimal_zeros (b ∷ c ∷ bs) h e = simp (equal-eqb b 48 e, and-false)

pub decimal_one : (s : Bytes) → (length s ≡ 0 → ⊥) → length s ≤ 1 → is_decimal s ≡ every is_digit s
unfolding is_decimal every
decimal_one [] any h = absurd (any refl)
decimal_one (b ∷ []) any h = sym (and-true (is_digit b))
decimal_one (b ∷ c ∷ bs) any h = absurd (omega arith)

pub decimal_more : (s : Bytes) → 1 < length s → (get_or s 0 0 ≡ 48 → ⊥) → is_decimal s ≡ every is_digit s
unfolding is_decimal every
decimal_more [] h e = absurd (omega arith)
decimal_more (b ∷ []) h e = absurd (omega arith)
decimal_more (b ∷ c ∷ bs) h e = simp (eqb-different b 48 e, and-true)

-- the value only grows
value_grows : (n : ℕ) (bs : Bytes) → n ≤ value_after n bs
unfolding value_after
value_grows n [] = omega arith
value_grows n (b ∷ bs) = omega (arith, value_grows (n * 10 + (b - 48)) bs)

value_at_lem : (n : ℕ) (s : Bytes) (i : ℕ) → i < length s → value_after n (drop i s) ≡ value_after (n * 10 + (get_or s i 0 - 48)) (drop (i + 1) s)
unfolding value_after
value_at_lem n s i h = ap (value_after n) (drop_more s i h)

-- ---- answers

module _ (limit : ℕ) (s : Bytes) where
  not_decimal : is_decimal s ≡ false → none ≡ natural limit s
  unfolding natural
  not_decimal h = rw h

  pub natural_of_none : length s ≡ 0 → none ≡ natural limit s
  natural_of_none h = not_decimal (decimal_none s h)

  pub natural_of_zeros : 1 < length s → get_or s 0 0 ≡ 48 → none ≡ natural limit s
  natural_of_zeros h e = not_decimal (decimal_zeros s h e)

  too_large : limit < value_after 0 s → none ≡ natural limit s
  unfolding natural
  too_large h = simp (gt-leb (value_after 0 s) limit h, and-false)

  in_range_lem : is_decimal s ≡ true → value_after 0 s ≤ limit → some (value_after 0 s) ≡ natural limit s
  unfolding natural
  in_range_lem d h = rw (d, le-leb (value_after 0 s) limit h)

-- digits up to place i are passed, with their value
pub record Reading (limit : ℕ) (s : Bytes) (value i : ℕ) : Type 0 where
  pub high : i ≤ length s
  pub small : value ≤ limit
  pub formed : is_decimal s ≡ every is_digit (drop i s)
  pub worth : value_after 0 s ≡ value_after value (drop i s)

module _ (limit : ℕ) (s : Bytes) where
  module _ (value i : ℕ) (r : Reading limit s value i) where
    module _ (h : i < length s) where
      digits_at : is_decimal s ≡ (is_digit (get_or s i 0) && every is_digit (drop (i + 1) s))
      digits_at = r.formed ∙ every_at is_digit s i h

      pub reading_low : get_or s i 0 < 48 → none ≡ natural limit s
      reading_low k = not_decimal limit s (digits_at ∙ and_not_left _ _ (between_below 48 57 (get_or s i 0) k))

      pub reading_high : 58 ≤ get_or s i 0 → none ≡ natural limit s
      reading_high k = not_decimal limit s (digits_at ∙ and_not_left _ _ (between_above 48 57 (get_or s i 0) (omega arith)))

      module _ (d : ℕ) (e : (d ≡ get_or s i 0 - 48) × (d < 10)) where
        worth_more : value_after 0 s ≡ value_after (value * 10 + d) (drop (i + 1) s)
        worth_more = r.worth ∙ value_at_lem value s i h ∙ rw e.0

        pub reading_over : limit < value * 10 + d → none ≡ natural limit s
        reading_over k = too_large limit s (omega (arith, worth_more, value_grows (value * 10 + d) (drop (i + 1) s)))

        pub reading_more : 48 ≤ get_or s i 0 → get_or s i 0 < 58 → value * 10 + d ≤ limit → Reading limit s (value * 10 + d) (i + 1)
        reading_more l m k = record {
          high = omega arith;
          small = k;
          formed = digits_at ∙ rw (between_from 48 57 (get_or s i 0) l (omega arith));
          worth = worth_more;
        }

    pub reading_all : length s ≤ i → some value ≡ natural limit s
    unfolding every value_after
    reading_all h =
        let none_left : drop i s ≡ [] = drop_of_length-le s h in
        let whole : value_after 0 s ≡ value = r.worth ∙ rw none_left in
        ap some (sym whole) ∙ in_range_lem limit s (r.formed ∙ rw none_left) (omega (arith, r.small))
