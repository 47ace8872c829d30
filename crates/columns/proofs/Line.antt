-- A rule's line as `put_line` writes it: each column is laid into the rest of the page, right after what stands before it.
use mathlib.Core.Path.{◌≡◌, refl, sym, ◌∙◌, ap, subst}
use mathlib.Core.List.{[], ◌∷◌, ◌++◌, append_assoc}
use Prim.Native.Nat.{ℕ, ◌+◌, ◌-◌, ◌≤◌, ◌<◌}
use native.Mathlib.Omega.{arith}
use borrow.Rule.Slice.PartMut.{mid_of, put_mid, mid_len}
use lib.ListN.{length}
use mir.Syntax.{w64}
use mir.Val.{Fits}
use Rattle.groundwork.proofs.Lists.{length_end}
use Rattle.theory.specs.Text.{Bytes, decimal, joined}
use Rattle.theory.specs.Sheet.{spaces, right_aligned, left_aligned, entry, columns, sheet_line}
use Rattle.theory.proofs.Reading.Alignment.{FitsColumns, spaces_length, right_length, left_length, columns_length}
use Rattle.pages.specs.Pages.{Puts}
use Rattle.pages.proofs.Puts.{puts_size, puts_more, puts_part}

-- a writer that is lent the rest of the page
module _ {bytes page now : Bytes} {r : ℕ} (puts : Puts bytes page now r) (within : r ≤ length page) where
  rest_next : {more part : Bytes} {q : ℕ} → Puts more (mid_of r (length now - r) now) part q → Puts (bytes ++ more) page (put_mid r (length now - r) now part) (r + q)
  rest_next {more} second = puts_more puts more (puts_part (omega (arith, puts_size puts within)) second)

  rest_size : length (mid_of r (length now - r) now) ≡ length page - r
  rest_size = let same = puts_size puts within in mid_len r (length now) now (omega arith) ∙ ap (λ (n : ℕ). n - r) same

-- a column with the space after it
abbrev Right : ℕ → ℕ → Bytes
Right width n = right_aligned width (decimal n) ++ (32 ∷ [])

abbrev Left : ℕ → Bytes → Bytes
Left width name = left_aligned width name ++ (32 ∷ [])

right_size : (width n : ℕ) → length (decimal n) ≤ width → length (Right width n) ≡ width + 1
right_size width n fits = omega (arith, length_end (right_aligned width (decimal n)) 32, right_length width (decimal n) fits)

-- four columns, each with its space, or with a space between them
parted : (a b c d rest : Bytes) → ((((a ++ (32 ∷ [])) ++ (b ++ (32 ∷ []))) ++ (c ++ (32 ∷ []))) ++ (d ++ (32 ∷ []))) ++ rest ≡ (a ++ 32 ∷ (b ++ 32 ∷ (c ++ 32 ∷ d))) ++ 32 ∷ rest
parted a b c d rest = simp append_assoc

one_more_lem : 32 ∷ spaces 35 ≡ spaces 36
unfolding spaces
one_more_lem = refl

module _ {number : ℕ} {name : Bytes} {subgoals multipliers : ℕ} (page : Bytes) (asked : (65 ≤ length page) × FitsColumns number (entry name subgoals multipliers)) where
  abbrev fits : FitsColumns number (entry name subgoals multipliers)
  fits = asked.1

  line_text_lem : (((Right 4 number ++ Left 16 name) ++ Right 2 subgoals) ++ Right 3 multipliers) ++ (spaces 35 ++ (10 ∷ [])) ≡ sheet_line number (entry name subgoals multipliers) ++ (10 ∷ [])
  unfolding sheet_line left_aligned columns joined
  line_text_lem =
      let all = columns number (entry name subgoals multipliers) in
      let left : 64 - length all ≡ 36 = omega (arith, columns_length number (entry name subgoals multipliers) fits) in
      parted (right_aligned 4 (decimal number)) (left_aligned 16 name) (right_aligned 2 (decimal subgoals)) (right_aligned 3 (decimal multipliers)) (spaces 35 ++ (10 ∷ []))
      ∙ sym (append_assoc all (32 ∷ spaces 35) (10 ∷ []))
      ∙ ap (λ (bs : Bytes). (all ++ bs) ++ (10 ∷ [])) (one_more_lem ∙ ap spaces (sym left))

  module _ {page₁ : Bytes} {r : ℕ} (first : Puts (Right 4 number) page page₁ r) where
    second_place : r ≡ 5
    second_place = first.many ∙ right_size 4 number fits.four_digits

    pub second_start : r ≤ length page₁
    second_start = omega (arith, second_place, puts_size first (omega (arith, second_place)))

    pub second_lent : (length name ≤ 16) × (16 < length (mid_of r (length page₁ - r) page₁))
    second_lent = (fits.sixteen_bytes, omega (arith, second_place, rest_size first (omega (arith, second_place))))

    module _ {part₂ : Bytes} {q : ℕ} (second : Puts (Left 16 name) (mid_of r (length page₁ - r) page₁) part₂ q) where
      abbrev page₂ : Bytes
      page₂ = put_mid r (length page₁ - r) page₁ part₂

      two : Puts (Right 4 number ++ Left 16 name) page page₂ (r + q)
      two = rest_next first (omega (arith, second_place)) second

      third_place : r + q ≡ 22
      third_place = omega (arith, second_place, second.many, length_end (left_aligned 16 name) 32, left_length 16 name fits.sixteen_bytes)

      pub third_fits : Fits w64 (r + q)
      third_fits = omega (arith, third_place)

      pub third_start : r + q ≤ length page₂
      third_start = omega (arith, third_place, puts_size two (omega (arith, third_place)))

      pub third_lent : (length (decimal subgoals) ≤ 2) × (2 < length (mid_of (r + q) (length page₂ - (r + q)) page₂))
      third_lent = (fits.two_digits, omega (arith, third_place, rest_size two (omega (arith, third_place))))

      module _ {part₃ : Bytes} {s : ℕ} (third : Puts (Right 2 subgoals) (mid_of (r + q) (length page₂ - (r + q)) page₂) part₃ s) where
        abbrev page₃ : Bytes
        page₃ = put_mid (r + q) (length page₂ - (r + q)) page₂ part₃

        three : Puts ((Right 4 number ++ Left 16 name) ++ Right 2 subgoals) page page₃ (r + q + s)
        three = rest_next two (omega (arith, third_place)) third

        fourth_place : r + q + s ≡ 25
        fourth_place = omega (arith, third_place, third.many, right_size 2 subgoals fits.two_digits)

        pub fourth_fits : Fits w64 (r + q + s)
        fourth_fits = omega (arith, fourth_place)

        pub fourth_start : r + q + s ≤ length page₃
        fourth_start = omega (arith, fourth_place, puts_size three (omega (arith, fourth_place)))

        pub fourth_lent : (length (decimal multipliers) ≤ 3) × (3 < length (mid_of (r + q + s) (length page₃ - (r + q + s)) page₃))
        fourth_lent = (fits.three_digits, omega (arith, fourth_place, rest_size three (omega (arith, fourth_place))))

        module _ {part₄ : Bytes} {t : ℕ} (fourth : Puts (Right 3 multipliers) (mid_of (r + q + s) (length page₃ - (r + q + s)) page₃) part₄ t) where
          abbrev page₄ : Bytes
          page₄ = put_mid (r + q + s) (length page₃ - (r + q + s)) page₃ part₄

          four : Puts (((Right 4 number ++ Left 16 name) ++ Right 2 subgoals) ++ Right 3 multipliers) page page₄ (r + q + s + t)
          four = rest_next three (omega (arith, fourth_place)) fourth

          last_place : r + q + s + t ≡ 29
          last_place = omega (arith, fourth_place, fourth.many, right_size 3 multipliers fits.three_digits)

          pub last_fits_lem : Fits w64 (r + q + s + t)
          last_fits_lem = omega (arith, last_place)

          pub last_left : r + q + s + t ≤ 64
          last_left = omega (arith, last_place)

          pub last_start : r + q + s + t ≤ length page₄
          last_start = omega (arith, last_place, puts_size four (omega (arith, last_place)))

          pub last_lent : 64 - (r + q + s + t) < length (mid_of (r + q + s + t) (length page₄ - (r + q + s + t)) page₄)
          last_lent = omega (arith, last_place, rest_size four (omega (arith, last_place)))

          pub line_fits_lem : {part₅ : Bytes} {u : ℕ} → Puts (spaces (64 - (r + q + s + t)) ++ (10 ∷ [])) (mid_of (r + q + s + t) (length page₄ - (r + q + s + t)) page₄) part₅ u → Fits w64 (r + q + s + t + u)
          line_fits_lem fifth = omega (arith, last_place, fifth.many, length_end (spaces (64 - (r + q + s + t))) 10, spaces_length (64 - (r + q + s + t)))

          pub line_put : {part₅ : Bytes} {u : ℕ} → Puts (spaces (64 - (r + q + s + t)) ++ (10 ∷ [])) (mid_of (r + q + s + t) (length page₄ - (r + q + s + t)) page₄) part₅ u
              → Puts (sheet_line number (entry name subgoals multipliers) ++ (10 ∷ [])) page (put_mid (r + q + s + t) (length page₄ - (r + q + s + t)) page₄ part₅) (r + q + s + t + u)
          line_put {part₅} {u} fifth =
              let blank : 64 - (r + q + s + t) ≡ 35 = omega (arith, last_place) in
              let all = rest_next four (omega (arith, last_place)) fifth in
              subst (λ (bytes : Bytes). Puts bytes page (put_mid (r + q + s + t) (length page₄ - (r + q + s + t)) page₄ part₅) (r + q + s + t + u))
              (ap (λ (n : ℕ). (((Right 4 number ++ Left 16 name) ++ Right 2 subgoals) ++ Right 3 multipliers) ++ (spaces n ++ (10 ∷ []))) blank ∙ line_text_lem)
              all
