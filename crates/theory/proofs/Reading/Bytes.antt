-- Byte strings: equality as a test, and classes of bytes.
use mathlib.Core.Path.{◌≡◌, refl, ◌∙◌, ap, ap₂}
use mathlib.Core.Bool.{Bool, true, false, not, ◌&&◌, false≢true}
use mathlib.Core.List.{[], ◌∷◌}
use Prim.Native.Nat.{ℕ, ◌≤◌}
use lib.Dec.{eqb, leb}
use Rattle.groundwork.proofs.Truth.{and_left, and_right, and_both, eqb-equal, eqb_same, leb-le, le-leb, never_both}
use Rattle.theory.specs.Lists.{every}
use Rattle.theory.specs.Text.{Bytes, same, between}
use Rattle.theory.proofs.Reading.Every.{every_within}

pub same_refl : (x : Bytes) → same x x ≡ true
unfolding same
same_refl [] = refl
same_refl (b ∷ bs) = and_both (eqb b b) (same bs bs) (eqb_same b) (same_refl bs)

pub same_equal : (x y : Bytes) → same x y ≡ true → x ≡ y
unfolding same
same_equal [] [] e = refl
same_equal [] (b ∷ bs) e = absurd (false≢true e)
same_equal (a ∷ rest) [] e = absurd (false≢true e)
same_equal (a ∷ rest) (b ∷ bs) e =
    ap₂ ◌∷◌ (eqb-equal a b (and_left (eqb a b) (same rest bs) e)) (same_equal rest bs (and_right (eqb a b) (same rest bs) e))

pub same_unequal : (x y : Bytes) → same x y ≡ false → x ≡ y → ⊥
same_unequal x y e h = never_both (same_refl x) (ap (same x) h ∙ e)

pub between_from : (low high b : ℕ) → low ≤ b → b ≤ high → between low high b ≡ true
between_from low high b h k = and_both (leb low b) (leb b high) (le-leb low b h) (le-leb b high k)

pub between_low : (low high b : ℕ) → between low high b ≡ true → low ≤ b
between_low low high b e = leb-le low b (and_left (leb low b) (leb b high) e)

pub between_high : (low high b : ℕ) → between low high b ≡ true → b ≤ high
between_high low high b e = leb-le b high (and_right (leb low b) (leb b high) e)

-- a byte that may stand in a field: 32 to 126, and no comma
abbrev pub is_field_byte : ℕ → Bool
is_field_byte b = between 32 126 b && not (eqb b 44)

-- a byte that may stand in a token: no space either
abbrev pub is_token_byte : ℕ → Bool
is_token_byte b = is_field_byte b && not (eqb b 32)

pub token_field : (bs : Bytes) → every is_token_byte bs ≡ true → every is_field_byte bs ≡ true
token_field bs h = every_within is_token_byte is_field_byte (λ b e. and_left (is_field_byte b) _ e) bs h
