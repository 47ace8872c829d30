-- The lines that are printed, printed_field by printed_field, and how long they are.
use mathlib.Core.Path.{◌≡◌, sym, ◌∙◌, ap, subst}
use mathlib.Core.List.{[], ◌∷◌, ◌++◌, append_assoc}
use Prim.Native.Nat.{ℕ, ◌+◌, ◌≤◌, ◌<◌}
use native.Mathlib.Omega.{arith}
use lib.ListN.{length, take, length-append}
use Rattle.theory.specs.Text.{Bytes, joined, decimal}
use Rattle.theory.specs.Packs.{text_of}
use Rattle.theory.specs.Check.{numbers}
use Rattle.theory.specs.Reserve.{fields}
use Rattle.theory.specs.Program.{printed_numbers, printed_fields}
use Rattle.pages.specs.Pages.{Puts}
use Rattle.theory.proofs.Reading.Digits.{digits_few}
use Rattle.pages.proofs.Puts.{puts_more}

-- ---- check's numbers

pub numbers_short : (a b c d : ℕ) → a < 256 → b < 65536 → c < 256 → d < 65536 → length (decimal a) + length (decimal b) + length (decimal c) + length (decimal d) ≤ 16
numbers_short a b c d h k l m = omega (arith, digits_few 2 a (omega arith), digits_few 4 b (omega arith), digits_few 2 c (omega arith), digits_few 4 d (omega arith))

-- a printed_field and the byte after it
abbrev printed_field : ℕ → ℕ → Bytes
printed_field n b = decimal n ++ (b ∷ [])

numbers_line_lem : (a b c d : ℕ) → text_of (printed_numbers (numbers a b c d) ∷ []) ≡ ((printed_field a 44 ++ printed_field b 44) ++ printed_field c 44) ++ printed_field d 10
unfolding text_of printed_numbers joined
numbers_line_lem a b c d = simp append_assoc

pub numbers_put : (a b c d : ℕ) {page₀ page₁ page₂ page₃ page : Bytes} {i j k r : ℕ} → Puts (printed_field a 44) page₀ page₁ i → Puts (take i page₁ ++ printed_field b 44) page₁ page₂ j → Puts (take j page₂ ++ printed_field c 44) page₂ page₃ k → Puts (take k page₃ ++ printed_field d 10) page₃ page r
    → Puts (text_of (printed_numbers (numbers a b c d) ∷ [])) page₀ page r
numbers_put a b c d {page₀} {page = page} {r = r} first second third last =
    subst (λ (bs : Bytes). Puts bs page₀ page r) (sym (numbers_line_lem a b c d)) (puts_more (puts_more (puts_more first (printed_field b 44) second) (printed_field c 44) third) (printed_field d 10) last)

-- ---- reserve's fields

fields_line : (a b c : ℕ) → text_of (printed_fields (fields a b c) ∷ []) ≡ ((a ∷ 44 ∷ []) ++ printed_field b 44) ++ printed_field c 10
unfolding text_of printed_fields joined
fields_line a b c = simp append_assoc

pub fields_length : (a b c : ℕ) → length (text_of (printed_fields (fields a b c) ∷ [])) ≡ 4 + length (decimal b) + length (decimal c)
fields_length a b c = ap length (fields_line a b c) ∙ omega (arith, length-append ((a ∷ 44 ∷ []) ++ printed_field b 44) (printed_field c 10), length-append (a ∷ 44 ∷ []) (printed_field b 44), length-append (decimal b) (44 ∷ []), length-append (decimal c) (10 ∷ []))

pub fields_put : (a b c : ℕ) {page₀ page₁ page₂ page₃ page : Bytes} {i j k r : ℕ} → Puts (a ∷ []) page₀ page₁ i → Puts (take i page₁ ++ (44 ∷ [])) page₁ page₂ j → Puts (take j page₂ ++ printed_field b 44) page₂ page₃ k → Puts (take k page₃ ++ printed_field c 10) page₃ page r
    → Puts (text_of (printed_fields (fields a b c) ∷ [])) page₀ page r
fields_put a b c {page₀} {page = page} {r = r} first comma second last =
    subst (λ (bs : Bytes). Puts bs page₀ page r) (sym (fields_line a b c)) (puts_more (puts_more (puts_more first (44 ∷ []) comma) (printed_field b 44) second) (printed_field c 10) last)
