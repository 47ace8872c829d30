-- What `read_integer` answers: a sign, and what `read_natural` says of the digits. A signed number stands as its bits.
use mathlib.Core.Path.{◌≡◌, refl, sym, ◌∙◌, ap}
use mathlib.Core.List.{[], ◌∷◌}
use mathlib.Core.Option.{Option, some, none, map}
use Prim.Native.Nat.{ℕ, zero, suc, ◌-◌, ◌≤◌, ◌<◌}
use native.Mathlib.Omega.{arith}
use lib.IntN.{ℤ, pos, negsuc, ◌-ℤ◌, +ℤ_idl}
use lib.ListN.{length, get_or, drop}
use mir.Facts.{to_z_pos, to_z-of_z}
use mir.Syntax.{w32, w64}
use mir.Val.{Fits, SFits, to_z, of_z}
use Rattle.groundwork.proofs.Truth.{equal-eqb, eqb-different}
use Rattle.theory.specs.Text.{Bytes, is_decimal, natural, negated, integer}
use Rattle.theory.proofs.Reading.Spelling.{natural_within}
use Rattle.text.specs.Scans.{part}
use Rattle.text.proofs.Parts.{part_rest}

-- ---- signs

module _ (n : ℕ) (h : 0 < n) (f : Fits w32 n) where
  minus_is : pos 0 -ℤ to_z w64 n ≡ negsuc (n - 1)
  minus_is = rw (to_z_pos w64 {n = n} (omega arith)) (by n h)
    where
      by : (m : ℕ) → 0 < m → pos 0 -ℤ pos m ≡ negsuc (m - 1)
      by zero k = absurd (omega arith)
      by (suc m) k = let back : suc m - 1 ≡ m = omega arith in +ℤ_idl (negsuc m) ∙ ap negsuc (sym back)

-- ---- answers

-- where no byte stands, no minus sign does
pub no_first : (s : Bytes) → length s < 1 → get_or s 0 0 ≡ 0
no_first [] h = refl
no_first (b ∷ bs) h = absurd (omega arith)

integer_signed : (limit : ℕ) (s : Bytes) → 1 ≤ length s → get_or s 0 0 ≡ 45 → integer limit s ≡ negated (natural limit (drop 1 s))
unfolding integer
integer_signed limit [] any h = absurd (omega arith)
integer_signed limit (b ∷ bs) any h = rw (equal-eqb b 45 h)

integer_plain : (limit : ℕ) (s : Bytes) → (get_or s 0 0 ≡ 45 → ⊥) → integer limit s ≡ map pos (natural limit s)
unfolding integer natural is_decimal
integer_plain limit [] other = refl
integer_plain limit (b ∷ bs) other = rw (eqb-different b 45 other)

negated_some : (n : ℕ) → 0 < n → negated (some n) ≡ some (negsuc (n - 1))
unfolding negated
negated_some zero h = absurd (omega arith)
negated_some (suc n) h = let back : suc n - 1 ≡ n = omega arith in rw back

-- a number that was handed on as its bits
through_bits : (z y : ℤ) → z ≡ y → SFits w64 y → some (to_z w64 (of_z w64 z)) ≡ some y
through_bits z y e f = ap some (rw e (to_z-of_z f))

module _ (limit : ℕ) (small : limit ≤ 99999) (s : Bytes) where
  -- a minus sign, and a number read after it
  module _ (any : 1 ≤ length s) (sign : get_or s 0 0 ≡ 45) where
    after_sign : (o : Option ℕ) → o ≡ natural limit (part s 1 (length s)) → integer limit s ≡ negated o
    after_sign o read = integer_signed limit s any sign ∙ rw (← part_rest s 1, ← read)

    pub integer_minus_none : none ≡ natural limit (part s 1 (length s)) → none ≡ integer limit s
    unfolding negated
    integer_minus_none read = sym (after_sign none read)

    module _ (n : ℕ) (read : some n ≡ natural limit (part s 1 (length s))) where
      pub integer_minus_zero : n ≡ 0 → none ≡ integer limit s
      unfolding negated
      integer_minus_zero z = sym (after_sign (some n) read ∙ rw z)

      pub integer_minus : (n ≡ 0 → ⊥) → some (to_z w64 (of_z w64 (pos 0 -ℤ to_z w64 n))) ≡ integer limit s
      integer_minus k =
          let known : n ≤ limit = natural_within limit (part s 1 (length s)) n (sym read) in
          through_bits _ (negsuc (n - 1)) (minus_is n (omega arith) (omega arith)) (record { sfits = omega arith }) ∙ sym (after_sign (some n) read ∙ negated_some n (omega arith))

  module _ (sign : get_or s 0 0 ≡ 45 → ⊥) where
    pub integer_plus_none : none ≡ natural limit s → none ≡ integer limit s
    integer_plus_none read = sym (integer_plain limit s sign ∙ rw (← read))

    pub integer_plus : (n : ℕ) → some n ≡ natural limit s → some (to_z w64 n) ≡ integer limit s
    integer_plus n read =
        let known : n ≤ limit = natural_within limit s n (sym read) in
        ap some (to_z_pos w64 {n = n} (omega arith)) ∙ sym (integer_plain limit s sign ∙ rw (← read))
