-- What the writers of columns leave: spaces and then a number, a name and then spaces, or spaces and then byte 10.
use mathlib.Core.Path.{◌≡◌, refl, sym, ◌∙◌, ap}
use mathlib.Core.List.{[], ◌∷◌, ◌++◌, append_assoc}
use Prim.Native.Nat.{ℕ, zero, suc, ◌+◌, ◌-◌, ◌≤◌, ◌<◌}
use native.Mathlib.Omega.{arith}
use borrow.Rule.Slice.PartMut.{mid_of, put_mid}
use lib.ListN.{length, set, take, drop}
use lib.Seq.{length-take-le}
use Rattle.theory.specs.Text.{Bytes, decimal}
use Rattle.theory.specs.Sheet.{spaces, right_aligned, left_aligned}
use Rattle.theory.proofs.Reading.Alignment.{spaces_length}
use Rattle.pages.specs.Pages.{Puts}
use Rattle.pages.proofs.Puts.{puts_size, puts_byte, puts_more, puts_fill}

spaces_end : (n : ℕ) → spaces (n + 1) ≡ spaces n ++ (32 ∷ [])
unfolding spaces
spaces_end zero = refl
spaces_end (suc n) = let more : suc n + 1 ≡ suc (n + 1) = omega arith in ap spaces more ∙ ap (λ (bs : Bytes). 32 ∷ bs) (spaces_end n)

-- the front of a page, filled with spaces
module _ (page : Bytes) (many : ℕ) {blank : Bytes} (within : many ≤ length page) (filled : blank ≡ spaces (length (take many page))) where
  spaces_front : Puts (spaces many) page (blank ++ drop many page) many
  spaces_front = record {
    many = sym (spaces_length many);
    is = ap (λ (bs : Bytes). bs ++ drop many page) (filled ∙ ap spaces (length-take-le many page within));
  }

  -- and a byte after them
  pub end_put : many < length page → Puts (spaces many ++ (10 ∷ [])) page (set (blank ++ drop many page) many 10) (many + 1)
  end_put room = puts_byte spaces_front 10 room

  pub blank_size : length (blank ++ drop many page) ≡ length page
  blank_size = puts_size spaces_front within

-- spaces up to a place, and from there on a number and a space
pub number_put : (page : Bytes) (width n start : ℕ) {blank last : Bytes} {r : ℕ} → start + length (decimal n) ≡ width → width < length page → blank ≡ spaces (length (take start page))
    → Puts (take start (blank ++ drop start page) ++ (decimal n ++ (32 ∷ []))) (blank ++ drop start page) last r
    → Puts (right_aligned width (decimal n) ++ (32 ∷ [])) page last r
unfolding right_aligned
number_put page width n start whole room filled number =
    let before : width - length (decimal n) ≡ start = omega arith in
    rw (before, append_assoc (spaces start) (decimal n) (32 ∷ [])) (puts_more (spaces_front page start (omega arith) filled) (decimal n ++ (32 ∷ [])) number)

-- a name, and after it spaces up to one after the column
pub name_put : (page name : Bytes) (width : ℕ) {lent part : Bytes} → length name ≤ width → width < length page → lent ≡ name
    → part ≡ spaces (length (mid_of (length name) (width + 1 - length name) (lent ++ drop (length name) page)))
    → Puts (left_aligned width name ++ (32 ∷ [])) page (put_mid (length name) (width + 1 - length name) (lent ++ drop (length name) page) part) (width + 1)
unfolding left_aligned
name_put page name width {lent} fits room copied filled =
    let front : Puts name page (lent ++ drop (length name) page) (length name) = record { many = refl; is = ap (λ (bs : Bytes). bs ++ drop (length name) page) copied } in
    let past : width + 1 - length name ≡ width - length name + 1 = omega arith in
    rw (append_assoc name (spaces (width - length name)) (32 ∷ []), ← spaces_end (width - length name), ← past)
    (puts_fill front spaces (width + 1) (omega arith) (omega arith) (spaces_length (width + 1 - length name)) filled)
