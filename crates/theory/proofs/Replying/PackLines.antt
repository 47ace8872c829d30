-- The input cut into whole lines, and the pack and the queries line by line.
use mathlib.Core.Path.{◌≡◌, refl, ◌∙◌, ap}
use mathlib.Core.Bool.{Bool, true, false, cond}
use mathlib.Core.List.{List, [], ◌∷◌, ◌++◌, flatten, append-nil}
use Prim.Native.Nat.{ℕ}
use lib.Dec.{eqb}
use lib.ListN.{length, get_or}
use Rattle.groundwork.proofs.Truth.{not-true, and_not_left, and_not_right, eqb-different}
use Rattle.theory.specs.Text.{Bytes, bytes, same, on_first, lines_of}
use Rattle.theory.specs.Program.{whole_lines, through_end, after_end, pack_part, queries}
use Rattle.theory.proofs.Reading.Every.{every_first, every_rest}
use Rattle.theory.proofs.Reading.Separators.{is_free}

-- ---- whole lines

whole_first : (b : ℕ) (bs rest : Bytes) → is_free 10 (b ∷ bs) ≡ true → whole_lines (b ∷ rest) ≡ on_first b (whole_lines rest)
unfolding whole_lines
whole_first b bs rest free = rw (not-true (eqb b 10) (every_first _ b bs free))

-- a line with its byte 10, in front of the rest
whole_line : (line rest : Bytes) → is_free 10 line ≡ true → whole_lines (line ++ 10 ∷ rest) ≡ (line ++ (10 ∷ [])) ∷ whole_lines rest
unfolding whole_lines
whole_line [] rest free = refl
whole_line (b ∷ line) rest free = whole_first b line (line ++ 10 ∷ rest) free ∙ ap (on_first b) (whole_line line rest (every_rest _ b line free))

-- a line without one
whole_last : (b : ℕ) (line : Bytes) → is_free 10 (b ∷ line) ≡ true → whole_lines (b ∷ line) ≡ (b ∷ line) ∷ []
unfolding whole_lines
whole_last b [] free = whole_first b [] [] free
whole_last b (c ∷ line) free = whole_first b (c ∷ line) (c ∷ line) free ∙ ap (on_first b) (whole_last c line (every_rest _ b (c ∷ line) free))

flat_first : (b : ℕ) (lines : List Bytes) → flatten (on_first b lines) ≡ b ∷ flatten lines
unfolding flatten
flat_first b [] = refl
flat_first b (line ∷ lines) = refl

flat_whole : (bs : Bytes) → flatten (whole_lines bs) ≡ bs
unfolding flatten whole_lines
flat_whole [] = refl
flat_whole (b ∷ bs) = by (eqb b 10) (flat_whole bs)
  where
    by : (c : Bool) → flatten (whole_lines bs) ≡ bs → flatten (cond c ((b ∷ []) ∷ whole_lines bs) (on_first b (whole_lines bs))) ≡ b ∷ bs
    by true rest = ap (λ (r : Bytes). b ∷ r) rest
    by false rest = flat_first b (whole_lines bs) ∙ ap (λ (r : Bytes). b ∷ r) rest

-- ---- the line that ends the pack

abbrev pub is_end : Bytes → Bool
is_end line = same line (bytes "E\n")

-- a line of another length, or of another byte
pub not_end : (line : Bytes) → (length line ≡ 1 → get_or line 0 0 ≡ 69 → ⊥) → is_end (line ++ (10 ∷ [])) ≡ false
unfolding same bytes
not_end [] other = refl
not_end (b ∷ []) other = and_not_left (eqb b 69) _ (eqb-different b 69 (other refl))
not_end (b ∷ c ∷ line) other = and_not_right (eqb b 69) _ (and_not_right (eqb c 10) _ (longer line))
  where
    longer : (l : Bytes) → same (l ++ (10 ∷ [])) [] ≡ false
    longer [] = refl
    longer (x ∷ l) = refl

-- ---- the pack and the queries

module _ (rest : Bytes) where
  pub pack_end : pack_part (69 ∷ 10 ∷ rest) ≡ 69 ∷ 10 ∷ []
  unfolding pack_part through_end flatten whole_lines same bytes
  pack_end = refl

  pub queries_end : queries (69 ∷ 10 ∷ rest) ≡ lines_of rest
  unfolding queries after_end whole_lines same bytes
  queries_end = ap lines_of (flat_whole rest)

  module _ (line : Bytes) (free : is_free 10 line ≡ true) (other : is_end (line ++ (10 ∷ [])) ≡ false) where
    pub pack_line : pack_part (line ++ 10 ∷ rest) ≡ (line ++ (10 ∷ [])) ++ pack_part rest
    unfolding pack_part through_end flatten
    pack_line = rw (whole_line line rest free, other) refl

    pub queries_line : queries (line ++ 10 ∷ rest) ≡ queries rest
    unfolding queries after_end
    queries_line = rw (whole_line line rest free, other) refl

-- what has no byte 10 is not that line
last_other : (line : Bytes) → is_free 10 line ≡ true → is_end line ≡ false
unfolding same bytes
last_other [] free = refl
last_other (b ∷ []) free = and_not_right (eqb b 69) false refl
last_other (b ∷ c ∷ line) free = and_not_right (eqb b 69) _ (and_not_left (eqb c 10) _ (not-true (eqb c 10) (every_first _ c line (every_rest _ b (c ∷ line) free))))

pub pack_last : (line : Bytes) → is_free 10 line ≡ true → pack_part line ≡ line
unfolding pack_part through_end flatten whole_lines
pack_last [] free = refl
pack_last (b ∷ line) free = rw (whole_last b line free, last_other (b ∷ line) free) (append-nil (b ∷ line))

pub queries_last : (line : Bytes) → is_free 10 line ≡ true → queries line ≡ []
unfolding queries after_end flatten whole_lines lines_of
queries_last [] free = refl
queries_last (b ∷ line) free = rw (whole_last b line free, last_other (b ∷ line) free) refl
