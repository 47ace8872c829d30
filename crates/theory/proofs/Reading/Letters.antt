-- The letter of a line and the bytes of its first field.
use mathlib.Core.Path.{◌≡◌, refl, sym, ◌∙◌, ap}
use mathlib.Core.Bool.{cond}
use mathlib.Core.List.{[]}
use Rattle.theory.specs.Text.{Bytes, bytes, same}
use Rattle.theory.specs.declared.Letter.{Letter}
use Rattle.theory.specs.declared.Letter.TheVariants.{P, C, G, H, B, M, E, NoLetter}
use Rattle.theory.specs.Written.{letter_of}
use Rattle.groundwork.proofs.Truth.{by_truth}
use Rattle.theory.proofs.Reading.Bytes.{same_equal}

-- the field that is a letter; the empty field is none
unfoldable pub letter_field : Letter → Bytes
letter_field P = bytes "P"
letter_field C = bytes "C"
letter_field G = bytes "G"
letter_field H = bytes "H"
letter_field B = bytes "B"
letter_field M = bytes "M"
letter_field E = bytes "E"
letter_field NoLetter = []

pub letter_of_field : (letter : Letter) → letter_of (letter_field letter) ≡ letter
unfolding letter_of letter_field same bytes
letter_of_field P = refl
letter_of_field C = refl
letter_of_field G = refl
letter_of_field H = refl
letter_of_field B = refl
letter_of_field M = refl
letter_of_field E = refl
letter_of_field NoLetter = refl

-- a case split on the letter of a field that keeps what the field then is
pub by_letter : (Q : Letter → Type 0) (f : Bytes) → ((letter : Letter) → f ≡ letter_field letter → Q letter) → Q NoLetter → Q (letter_of f)
unfolding letter_of letter_field
by_letter Q f lettered other =
    branch (bytes "P") P _ (lettered P)
    (branch (bytes "C") C _ (lettered C)
    (branch (bytes "G") G _ (lettered G)
    (branch (bytes "H") H _ (lettered H)
    (branch (bytes "B") B _ (lettered B)
    (branch (bytes "M") M _ (lettered M)
    (branch (bytes "E") E _ (lettered E) other))))))
  where
    branch : (text : Bytes) (letter rest : Letter) → (f ≡ text → Q letter) → Q rest → Q (cond (same f text) letter rest)
    branch text letter rest found missed = by_truth (λ b. Q (cond b letter rest)) (same f text) (λ e. found (same_equal f text e)) (λ e. missed)

-- a field with a letter is that letter
pub field_of_letter : (f : Bytes) (letter : Letter) → (letter ≡ NoLetter → ⊥) → letter_of f ≡ letter → f ≡ letter_field letter
field_of_letter f letter some = by_letter (λ found. found ≡ letter → f ≡ letter_field letter) f (λ found is e. is ∙ ap letter_field e) (λ e. absurd (some (sym e)))
