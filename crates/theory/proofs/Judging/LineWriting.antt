-- What a line writes, by its letter.
use mathlib.Core.Path.{◌≡◌, refl, sym, ◌∙◌, ap}
use mathlib.Core.Bool.{Bool, true, false, ◌||◌, or-false}
use Rattle.groundwork.proofs.Truth.{by_truth}
use Rattle.theory.specs.declared.Letter.{Letter}
use Rattle.theory.specs.declared.Letter.TheVariants.{P, C, G, H, B, M, E, NoLetter}
use Rattle.theory.specs.Text.{Bytes, bytes, same, fields_of}
use Rattle.theory.specs.Written.{letter_of, line_letter, field, Written, add, write}
use Rattle.theory.proofs.Reading.Bytes.{same_equal, same_unequal}
use Rattle.theory.proofs.Reading.Letters.{letter_field, by_letter}

-- whether lines of this letter end the pack
abbrev pub is_end : Letter → Bool
is_end P = false
is_end C = false
is_end G = false
is_end H = false
is_end B = false
is_end M = false
is_end E = true
is_end NoLetter = false

is_end_lem : (f : Bytes) → same f (bytes "E") ≡ is_end (letter_of f)
unfolding letter_of letter_field same bytes
is_end_lem f =
    by_truth (λ b. b ≡ is_end (letter_of f)) (same f (bytes "E"))
    (λ e. ap (λ (g : Bytes). is_end (letter_of g)) (sym (same_equal f (bytes "E") e)))
    (λ e. sym (by_letter (λ letter. is_end letter ≡ false) f (other e) refl))
  where
    other : same f (bytes "E") ≡ false → (letter : Letter) → f ≡ letter_field letter → is_end letter ≡ false
    other e P is = refl
    other e C is = refl
    other e G is = refl
    other e H is = refl
    other e B is = refl
    other e M is = refl
    other e E is = absurd (same_unequal f (bytes "E") e is)
    other e NoLetter is = refl

pub write_as : (letter : Letter) (w : Written) (line : Bytes) → line_letter line ≡ letter → write w line ≡ record { pack = add letter (fields_of line) w.pack; ended = w.ended || is_end letter }
unfolding write
write_as letter w line e =
    let ends = is_end_lem (field 0 (fields_of line)) ∙ ap is_end e in
    λ i. record { pack = add (e i) (fields_of line) w.pack; ended = w.ended || ends i }

-- a line of another letter than `E` does not end the pack
pub writes_letter : (letter : Letter) (w : Written) (line : Bytes) → line_letter line ≡ letter → is_end letter ≡ false → write w line ≡ record { pack = add letter (fields_of line) w.pack; ended = w.ended }
writes_letter letter w line e other = write_as letter w line e ∙ ap (λ (b : Bool). record { pack = add letter (fields_of line) w.pack; ended = b }) (ap (λ (b : Bool). w.ended || b) other ∙ or-false w.ended)
