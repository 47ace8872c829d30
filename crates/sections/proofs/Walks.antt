-- The walk over lines that begin with a letter: before the first, after one more, and where it ends.
use mathlib.Core.Path.{◌≡◌, refl, sym, ◌∙◌, ap}
use mathlib.Core.Bool.{Bool, true, false, cond}
use mathlib.Core.List.{List, [], ◌∷◌, cons≢nil}
use Prim.Native.Nat.{ℕ, suc, ◌+◌, ◌-◌, ◌≤◌, ◌<◌}
use native.Mathlib.Decide.{dec_lt}
use native.Mathlib.Omega.{arith}
use lib.Dec.{eqb}
use lib.ListN.{length, get_or, take, drop}
use Rattle.groundwork.proofs.Truth.{by_truth, eqb-different, equal-eqb}
use Rattle.theory.specs.Text.{Bytes, on_first, lines_of}
use Rattle.text.specs.Scans.{part, Finds}
use Rattle.text.proofs.Parts.{drop_more}
use Rattle.text.proofs.Cuts.{lines_done, lines_step}
use Rattle.sections.specs.Sections.{begins, leading, past, LinesOfLetter}

-- ---- lines that do or do not begin with the letter

pub past_none : (letter : ℕ) (ls : List Bytes) → leading letter ls ≡ [] → past letter ls ≡ ls
unfolding leading past
past_none letter [] none = refl
past_none letter (l ∷ ls) none =
    by_truth (λ (b : Bool). cond b (l ∷ leading letter ls) [] ≡ [] → cond b (past letter ls) (l ∷ ls) ≡ l ∷ ls) (begins letter l) (λ _ some. absurd (cons≢nil some)) (λ _ _. refl) none

-- another first byte
first_other : (letter b : ℕ) (bs : Bytes) → eqb b letter ≡ false → leading letter (lines_of (b ∷ bs)) ≡ []
unfolding leading begins lines_of
first_other letter b bs other = by_truth (λ (c : Bool). leading letter (cond c ([] ∷ lines_of bs) (on_first b (lines_of bs))) ≡ []) (eqb b 10) (λ _. refl) (λ _. on (lines_of bs))
  where
    on : (ls : List Bytes) → leading letter (on_first b ls) ≡ []
    on [] = rw other
    on (l ∷ ls) = rw other

module _ (text : Bytes) (letter at : ℕ) (inside : at < length text) where
  lines_other : (get_or text at 0 ≡ letter → ⊥) → leading letter (lines_of (drop at text)) ≡ []
  lines_other other = ap (λ (bs : Bytes). leading letter (lines_of bs)) (drop_more text at inside) ∙ first_other letter _ _ (eqb-different _ letter other)

  -- the letter as first byte: the line is not empty, since the letter is not byte 10
  begins_here : (end : ℕ) → 10 < letter → get_or text at 0 ≡ letter → Finds text 10 at end → begins letter (part text at end) ≡ true
  unfolding begins
  begins_here end large here found = by (dec_lt at end)
    where
      by : Dec (at < end) → begins letter (part text at end) ≡ true
      by (yes more) =
          let width : end - at ≡ suc (end - at - 1) = omega arith in
          ap (begins letter) (ap (λ (n : ℕ). take n (drop at text)) width ∙ ap (take (suc (end - at - 1))) (drop_more text at inside)) ∙ equal-eqb _ letter here
      by (no none) =
          let same : end ≡ at = omega (arith, found.low) in
          let ten : get_or text at 0 ≡ 10 = rw same at found.found inside in
          absurd (omega arith)

-- ---- the walk

-- so many lines of the letter stand before a place, and what is to come is as it was
pub record Walked (text : Bytes) (letter from lines at : ℕ) : Type 0 where
  pub few : lines ≤ at
  pub many : lines + length (leading letter (lines_of (drop at text))) ≡ length (leading letter (lines_of (drop from text)))
  pub rest : past letter (lines_of (drop at text)) ≡ past letter (lines_of (drop from text))

pub walked_none : (text : Bytes) (letter from : ℕ) → Walked text letter from 0 from
walked_none text letter from = record { few = omega arith; many = omega arith; rest = refl }

module _ {text : Bytes} {letter from lines at : ℕ} (walked : Walked text letter from lines at) where
  -- nothing more of the letter
  stopped : leading letter (lines_of (drop at text)) ≡ [] → LinesOfLetter text letter from (record { lines = lines; after = at })
  stopped none =
      let count = rw none at walked.many in
      record {
        many = omega arith;
        rest = sym (past_none letter _ none) ∙ walked.rest;
      }

  pub walked_all : length text ≤ at → LinesOfLetter text letter from (record { lines = lines; after = at })
  unfolding leading
  walked_all end = stopped (ap (leading letter) (lines_done text at end))

  module _ (inside : at < length text) where
    pub walked_other : (get_or text at 0 ≡ letter → ⊥) → LinesOfLetter text letter from (record { lines = lines; after = at })
    walked_other other = stopped (lines_other text letter at inside other)

    pub walked_more : {end : ℕ} → 10 < letter → get_or text at 0 ≡ letter → Finds text 10 at end → Walked text letter from (lines + 1) (end + 1)
    unfolding leading past
    walked_more {end} large here found =
        let line = lines_step text at end inside found in
        let letters = begins_here text letter at inside end large here found in
        let count = rw (line, letters) at walked.many in
        record {
          few = omega (arith, walked.few, found.low);
          many = omega arith;
          rest = rw (line, letters) at walked.rest;
        }
