-- The lines of some bytes, in words: what stands between bytes 10.
use mathlib.Core.Path.{◌≡◌, refl, sym, ◌∙◌, ap, subst}
use mathlib.Core.Bool.{Bool, true, cond, not}
use mathlib.Core.List.Memᴰ
use mathlib.Core.List.{List, [], ◌∷◌, ◌++◌, append_assoc}
use mathlib.Core.Logic.{◌⊎◌, inl, inr}
use Prim.Native.Nat.{ℕ}
use lib.Dec.{eqb}
use Rattle.groundwork.proofs.Truth.{by_truth, eqb-equal, eqb-unequal, eqb-different}
use Rattle.theory.specs.Lists.{◌∈◌, ending}
use Rattle.theory.specs.Text.{Bytes, on_first, lines_of}
use Rattle.theory.specs.Packs.{text_of}
use Rattle.theory.specs.ReplyTold.{NoLineEnds, HasLines, ended, unended}
use Rattle.theory.proofs.Reading.Every.{every_rest, members_every}
use Rattle.theory.proofs.Reading.Separators.{is_free, AllFree, lines_cut, cut_off, cut_other, lines_of_text, free_first}

-- ---- the lines that are cut are these

none_first : (b : ℕ) (l : Bytes) (ls : List Bytes) → (10 ≡ b → ⊥) → NoLineEnds (l ∷ ls) → NoLineEnds ((b ∷ l) ∷ ls)
none_first b l ls other none k m has = by_place (Memᴰ.cases_cons m) has
  where
    by_byte : (10 ≡ b) ⊎ (10 ∈ l) → ⊥
    by_byte (inl e) = other e
    by_byte (inr n) = none l (Memᴰ.head refl) n

    by_place : (k ≡ (b ∷ l)) ⊎ (k ∈ ls) → 10 ∈ k → ⊥
    by_place (inl e) has = by_byte (Memᴰ.cases_cons (subst (λ (x : Bytes). 10 ∈ x) e has))
    by_place (inr n) has = none k (Memᴰ.tail n) has

none_empty : (ls : List Bytes) → NoLineEnds ls → NoLineEnds ([] ∷ ls)
none_empty ls none k m has = by_place (Memᴰ.cases_cons m)
  where
    by_place : (k ≡ []) ⊎ (k ∈ ls) → ⊥
    by_place (inl e) = Memᴰ.not-nil (subst (λ (x : Bytes). 10 ∈ x) e has)
    by_place (inr n) = none k n has

after_end_lem : {bs : Bytes} {ls : List Bytes} → HasLines bs ls → HasLines (10 ∷ bs) ([] ∷ ls)
unfolding text_of
after_end_lem (ended ls none) = ended ([] ∷ ls) (none_empty ls none)
after_end_lem (unended ls b l none) = unended ([] ∷ ls) b l (none_empty _ none)

after_byte : {bs : Bytes} {ls : List Bytes} (b : ℕ) → (10 ≡ b → ⊥) → HasLines bs ls → HasLines (b ∷ bs) (on_first b ls)
unfolding text_of
after_byte b other (ended [] none) = unended [] b [] (none_first b [] [] other (none_empty [] none))
after_byte b other (ended (l ∷ ls) none) = ended ((b ∷ l) ∷ ls) (none_first b l ls other none)
after_byte b other (unended [] c l none) = unended [] b (c ∷ l) (none_first b (c ∷ l) [] other none)
after_byte b other (unended (k ∷ ls) c l none) = unended ((b ∷ k) ∷ ls) c l (none_first b k _ other none)

pub lines_told : (bs : Bytes) → HasLines bs (lines_of bs)
unfolding lines_of text_of
lines_told [] = ended [] (λ l m has. Memᴰ.not-nil m)
lines_told (b ∷ bs) =
    by_truth (λ (c : Bool). HasLines (b ∷ bs) (cond c ([] ∷ lines_of bs) (on_first b (lines_of bs)))) (eqb b 10)
    (λ e. subst (λ (c : ℕ). HasLines (c ∷ bs) ([] ∷ lines_of bs)) (sym (eqb-equal b 10 e)) (after_end_lem (lines_told bs)))
    (λ e. after_byte b (λ is. eqb-unequal b 10 e (sym is)) (lines_told bs))

-- ---- and no others

free_of : (l : Bytes) → (10 ∈ l → ⊥) → is_free 10 l ≡ true
free_of l none = members_every (λ (b : ℕ). not (eqb b 10)) l λ b m. rw (eqb-different b 10 (λ e. none (subst (λ (c : ℕ). c ∈ l) e m)))

all_free : (ls : List Bytes) → NoLineEnds ls → AllFree 10 ls
all_free ls none l m = free_of l (none l m)

last_line_lem : (b : ℕ) (l : Bytes) → is_free 10 (b ∷ l) ≡ true → lines_of (b ∷ l) ≡ (b ∷ l) ∷ []
unfolding lines_of
last_line_lem b [] free = cut_other 10 lines_of lines_cut b [] (free_first 10 b [] free)
last_line_lem b (c ∷ l) free = cut_other 10 lines_of lines_cut b (c ∷ l) (free_first 10 b (c ∷ l) free) ∙ ap (on_first b) (last_line_lem c l (every_rest _ b (c ∷ l) free))

pub lines_only : {bs : Bytes} {ls : List Bytes} → HasLines bs ls → ls ≡ lines_of bs
unfolding text_of
lines_only (ended ls none) = sym (lines_of_text ls (all_free ls none))
lines_only (unended ls b l none) = sym (through ls (all_free _ none))
  where
    through : (ls : List Bytes) → AllFree 10 (ending (b ∷ l) ls) → lines_of (text_of ls ++ b ∷ l) ≡ ending (b ∷ l) ls
    through [] free = last_line_lem b l (free (b ∷ l) (Memᴰ.head refl))
    through (k ∷ ls) free =
        ap lines_of (append_assoc k (10 ∷ text_of ls) (b ∷ l))
        ∙ cut_off 10 lines_of lines_cut k (text_of ls ++ b ∷ l) (free k (Memᴰ.head refl))
        ∙ ap (λ (rest : List Bytes). k ∷ rest) (through ls (λ other m. free other (Memᴰ.tail m)))
