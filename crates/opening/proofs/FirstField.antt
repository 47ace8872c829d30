-- A line's first field: the letter that it is, and what stands after it.
use mathlib.Core.Path.{◌≡◌, refl, sym, ◌∙◌, ap}
use mathlib.Core.List.{List, [], ◌∷◌, head-eq_of_cons-eq}
use Prim.Native.Nat.{ℕ, ◌≤◌, ◌<◌}
use native.Mathlib.Decide.{ℕ_discrete}
use native.Mathlib.Omega.{arith}
use lib.ListN.{length, get_or, drop}
use Rattle.groundwork.proofs.Truth.{equal-eqb, eqb-different}
use Rattle.theory.specs.Lists.{every}
use Rattle.theory.specs.Text.{Bytes, bytes, same, parts_at, fields_of}
use Rattle.theory.specs.declared.Letter.{Letter}
use Rattle.theory.specs.declared.Letter.TheVariants.{P, C, G, H, B, M, E, NoLetter}
use Rattle.theory.specs.Written.{letter_of, line_letter, field}
use Rattle.theory.proofs.Reading.Letters.{letter_field, by_letter}
use Rattle.theory.proofs.Reading.Separators.{is_free, parts_cons}
use Rattle.text.specs.Scans.{part, parts_from}
use Rattle.text.proofs.Cuts.{parts_all, parts_step}
use Rattle.text.proofs.Parts.{part_more}
use Rattle.opening.specs.Opening.{LetterRead}

-- ---- letters

-- a field that is none of the letters' bytes
no_letter : (f : Bytes) → ((l : Letter) → f ≡ letter_field l → l ≡ NoLetter) → letter_of f ≡ NoLetter
no_letter f other = by_letter (λ (l : Letter). l ≡ NoLetter) f other refl

-- so a field of more or fewer bytes is none
no_letter_length : (f : Bytes) → (length f ≡ 1 → ⊥) → letter_of f ≡ NoLetter
unfolding letter_field bytes
no_letter_length f other = no_letter f lettered
  where
    lettered : (l : Letter) → f ≡ letter_field l → l ≡ NoLetter
    lettered P e = absurd (other (ap length e))
    lettered C e = absurd (other (ap length e))
    lettered G e = absurd (other (ap length e))
    lettered H e = absurd (other (ap length e))
    lettered B e = absurd (other (ap length e))
    lettered M e = absurd (other (ap length e))
    lettered E e = absurd (other (ap length e))
    lettered NoLetter e = refl

pub no_letter_byte : (b : ℕ) → (b ≡ 80 → ⊥) → (b ≡ 67 → ⊥) → (b ≡ 71 → ⊥) → (b ≡ 72 → ⊥) → (b ≡ 66 → ⊥) → (b ≡ 77 → ⊥) → (b ≡ 69 → ⊥) → letter_of (b ∷ []) ≡ NoLetter
unfolding letter_field bytes
no_letter_byte b p c g h s m e = no_letter (b ∷ []) lettered
  where
    lettered : (l : Letter) → b ∷ [] ≡ letter_field l → l ≡ NoLetter
    lettered P is = absurd (p (head-eq_of_cons-eq is))
    lettered C is = absurd (c (head-eq_of_cons-eq is))
    lettered G is = absurd (g (head-eq_of_cons-eq is))
    lettered H is = absurd (h (head-eq_of_cons-eq is))
    lettered B is = absurd (s (head-eq_of_cons-eq is))
    lettered M is = absurd (m (head-eq_of_cons-eq is))
    lettered E is = absurd (e (head-eq_of_cons-eq is))
    lettered NoLetter is = refl

-- the byte of a letter
abbrev pub byte_of : Letter → ℕ
byte_of P = 80
byte_of C = 67
byte_of G = 71
byte_of H = 72
byte_of B = 66
byte_of M = 77
byte_of E = 69
byte_of NoLetter = 0

pub letter_of_byte : (l : Letter) {b : ℕ} → b ≡ byte_of l → letter_of (b ∷ []) ≡ l
unfolding letter_of same bytes
letter_of_byte P is = ap (λ (b : ℕ). letter_of (b ∷ [])) is
letter_of_byte C is = ap (λ (b : ℕ). letter_of (b ∷ [])) is
letter_of_byte G is = ap (λ (b : ℕ). letter_of (b ∷ [])) is
letter_of_byte H is = ap (λ (b : ℕ). letter_of (b ∷ [])) is
letter_of_byte B is = ap (λ (b : ℕ). letter_of (b ∷ [])) is
letter_of_byte M is = ap (λ (b : ℕ). letter_of (b ∷ [])) is
letter_of_byte E is = ap (λ (b : ℕ). letter_of (b ∷ [])) is
letter_of_byte NoLetter is = ap (λ (b : ℕ). letter_of (b ∷ [])) is

-- ---- where the field ends

-- a comma is no letter
letter_of_comma : {b : ℕ} → b ≡ 44 → letter_of (b ∷ []) ≡ NoLetter
unfolding letter_of same bytes
letter_of_comma is = ap (λ (b : ℕ). letter_of (b ∷ [])) is

-- a comma in front
comma_first : (line : Bytes) → get_or line 0 0 ≡ 44 → field 0 (fields_of line) ≡ []
unfolding parts_at
comma_first [] e = refl
comma_first (b ∷ bs) e = rw (equal-eqb b 44 e)

-- no comma among the first two
long_first : (a b : ℕ) (bs : Bytes) → (a ≡ 44 → ⊥) → (b ≡ 44 → ⊥) → 2 ≤ length (field 0 (fields_of (a ∷ b ∷ bs)))
unfolding parts_at
long_first a b bs h k = let found = parts_cons 44 bs in rw (eqb-different a 44 h, eqb-different b 44 k, found.2) (omega arith)

-- no byte at all
pub no_letter_empty : (line : Bytes) → length line ≡ 0 → line_letter line ≡ NoLetter
unfolding parts_at
no_letter_empty [] h = no_letter_length [] (λ e. omega arith)
no_letter_empty (b ∷ bs) h = absurd (omega arith)

-- another byte where the field has to end
pub no_letter_long : (line : Bytes) → 1 < length line → (get_or line 1 0 ≡ 44 → ⊥) → line_letter line ≡ NoLetter
no_letter_long [] h other = absurd (omega arith)
no_letter_long (a ∷ []) h other = absurd (omega arith)
no_letter_long (a ∷ b ∷ bs) h other = no_letter_length _ (by (ℕ_discrete a 44))
  where
    by : Dec (a ≡ 44) → length (field 0 (fields_of (a ∷ b ∷ bs))) ≡ 1 → ⊥
    by (yes comma) e = omega (arith, ap length (comma_first (a ∷ b ∷ bs) comma))
    by (no letter) e = omega (arith, long_first a b bs letter other)

-- what `letter_of` answers
pub letter_none : (line : Bytes) → line_letter line ≡ NoLetter → LetterRead line NoLetter
letter_none line is = record { is = sym is; begins = λ other. absurd (other refl) }

module _ (line : Bytes) (some : length line ≡ 0 → ⊥) (comma : 1 < length line → get_or line 1 0 ≡ 44) where
  -- the first byte is the field
  module _ (other : get_or line 0 0 ≡ 44 → ⊥) where
    front : part line 0 1 ≡ get_or line 0 0 ∷ []
    front = part_more line 0 0 (omega arith) (omega arith)

    cut : fields_of line ≡ (get_or line 0 0 ∷ []) ∷ parts_from 44 line 2
    unfolding every
    cut =
        sym (parts_all 44 line)
        ∙ parts_step 44 line 0 1 (omega arith) (record { low = omega arith; high = omega arith; free = ap (is_free 44) front ∙ rw (eqb-different (get_or line 0 0) 44 other); found = comma })
        ∙ ap (λ (f : Bytes). f ∷ parts_from 44 line 2) front

  pub letter_read : (l : Letter) → letter_of (get_or line 0 0 ∷ []) ≡ l → LetterRead line l
  letter_read l is = by (ℕ_discrete (get_or line 0 0) 44)
    where
      by : Dec (get_or line 0 0 ≡ 44) → LetterRead line l
      by (yes e) =
          let none : l ≡ NoLetter = sym is ∙ letter_of_comma e in
          record {
            is = none ∙ sym (no_letter_length _ (λ one. omega (arith, ap length (comma_first line e))));
            begins = λ some. absurd (some none);
          }
      by (no other) = record {
        is = sym is ∙ sym (ap (λ (fs : List Bytes). letter_of (field 0 fs)) (cut other));
        begins = λ some. record { rest = sym (ap (drop 1) (cut other)) };
      }
