-- The variables of a filled clause: those that were written, and the fresh ones, one for each `_`.
use mathlib.Core.Path.{◌≡◌, refl, sym, ◌∙◌, ap}
use mathlib.Core.Logic.{◌⊎◌, inl, inr, ⊎_elim}
use mathlib.Core.Bool.{true, false, cond}
use mathlib.Core.List.Memᴰ
use mathlib.Core.List.{List, [], ◌∷◌, ◌++◌}
use Prim.Native.Nat.{ℕ, suc, ◌+◌, ◌≤◌, ◌<◌}
use native.Mathlib.Decide.{dec_lt}
use native.Mathlib.Omega.{arith}
use lib.ListN.{length, length-append}
use Rattle.groundwork.proofs.Lists.{get_d_member, member_get_d, end_cases}
use Rattle.groundwork.proofs.Truth.{by_truth}
use Rattle.theory.specs.Lists.{◌∈◌}
use Rattle.theory.specs.Text.{Bytes, among}
use Rattle.theory.specs.Residuals.{numbered, rule_variables}
use Rattle.clause_theory.specs.ClauseTokens.{Mark, name, variable, opens, closes, comma, neck, stop, stray}
use Rattle.clause_theory.specs.Clauses.{Clause, clause_marks}
use Rattle.clause_theory.specs.Import.{clause_variables, is_lone, lones, nth, fresh_of, filled}
use Rattle.clause_theory.proofs.Distinct.{once_few, once_append}
use Rattle.clause_theory.proofs.Filling.{mark_variables, filled_marks, clause_variables_lem, filled_marks_lem}
use Rattle.clause_theory.proofs.FreshVariables.{fresh_length, fresh_apart, fresh_once}
use Rattle.theory.proofs.Judging.Variables.{once_none, numbered_once, member_numbered}

-- those that are not `_`
unfoldable pub named : List Bytes → List Bytes
named [] = []
named (x ∷ xs) = cond (is_lone x) (named xs) (x ∷ named xs)

-- variables with fresh ones for their `_`, from the ith of them on
pub filled_variables : List Bytes → ℕ → List Bytes → List Bytes
filled_variables fresh i [] = []
filled_variables fresh i (x ∷ xs) = cond (is_lone x) (nth fresh i ∷ filled_variables fresh (suc i) xs) (x ∷ filled_variables fresh i xs)

marks_filled : (fresh : List Bytes) (i : ℕ) (ms : List Mark) → mark_variables (filled_marks fresh i ms) ≡ filled_variables fresh i (mark_variables ms)
unfolding mark_variables filled_marks filled_variables
marks_filled fresh i [] = refl
marks_filled fresh i (name f ∷ ms) = marks_filled fresh i ms
marks_filled fresh i (variable x ∷ ms) =
    by_truth (λ b. mark_variables (cond b (variable (nth fresh i) ∷ filled_marks fresh (suc i) ms) (variable x ∷ filled_marks fresh i ms))
    ≡ cond b (nth fresh i ∷ filled_variables fresh (suc i) (mark_variables ms)) (x ∷ filled_variables fresh i (mark_variables ms)))
    (is_lone x)
    (λ e. ap (λ (xs : List Bytes). nth fresh i ∷ xs) (marks_filled fresh (suc i) ms))
    (λ e. ap (λ (xs : List Bytes). x ∷ xs) (marks_filled fresh i ms))
marks_filled fresh i (opens ∷ ms) = marks_filled fresh i ms
marks_filled fresh i (closes ∷ ms) = marks_filled fresh i ms
marks_filled fresh i (comma ∷ ms) = marks_filled fresh i ms
marks_filled fresh i (neck ∷ ms) = marks_filled fresh i ms
marks_filled fresh i (stop ∷ ms) = marks_filled fresh i ms
marks_filled fresh i (stray s ∷ ms) = marks_filled fresh i ms

pub filled_variables_lem : (c : Clause) → clause_variables (filled c) ≡ filled_variables (fresh_of c) 0 (clause_variables c)
filled_variables_lem c =
    sym (clause_variables_lem (filled c)) ∙ ap mark_variables (sym (filled_marks_lem c)) ∙ marks_filled (fresh_of c) 0 (clause_marks c) ∙ ap (filled_variables (fresh_of c) 0) (clause_variables_lem c)

-- ---- which they are

-- where variables are written and where `_` is, to prove a thing of one more variable
by_lone : (P : List Bytes → List Bytes → ℕ → Type 0) (fresh : List Bytes) (i : ℕ) (x : Bytes) (xs : List Bytes)
    → (is_lone x ≡ true → P (nth fresh i ∷ filled_variables fresh (suc i) xs) (named xs) (suc (lones xs)))
    → (is_lone x ≡ false → P (x ∷ filled_variables fresh i xs) (x ∷ named xs) (lones xs))
    → P (filled_variables fresh i (x ∷ xs)) (named (x ∷ xs)) (lones (x ∷ xs))
unfolding filled_variables named lones
by_lone P fresh i x xs lone written =
    by_truth (λ b. P (cond b (nth fresh i ∷ filled_variables fresh (suc i) xs) (x ∷ filled_variables fresh i xs)) (cond b (named xs) (x ∷ named xs)) (cond b (suc (lones xs)) (lones xs)))
    (is_lone x) lone written

module _ (fresh : List Bytes) where
  filled_member : (i : ℕ) (xs : List Bytes) → i + lones xs ≤ length fresh → (y : Bytes) → y ∈ filled_variables fresh i xs → (y ∈ named xs) ⊎ (y ∈ fresh)
  unfolding filled_variables named lones
  filled_member i [] room y m = absurd (Memᴰ.not-nil m)
  filled_member i (x ∷ xs) room y m =
      by_lone (λ fs ns n. i + n ≤ length fresh → y ∈ fs → (y ∈ ns) ⊎ (y ∈ fresh)) fresh i x xs
      (λ e room m. lone room (λ room n. filled_member (suc i) xs room y n) m) (λ e room m. written (λ n. filled_member i xs room y n) m) room m
    where
      lone : i + suc (lones xs) ≤ length fresh → (suc i + lones xs ≤ length fresh → y ∈ filled_variables fresh (suc i) xs → (y ∈ named xs) ⊎ (y ∈ fresh)) → y ∈ (nth fresh i ∷ filled_variables fresh (suc i) xs) → (y ∈ named xs) ⊎ (y ∈ fresh)
      lone room later (Memᴰ.head e) = inr (Memᴰ.cast e (get_d_member fresh i [] (omega arith)))
      lone room later (Memᴰ.tail m) = later (omega arith) m

      written : (y ∈ filled_variables fresh i xs → (y ∈ named xs) ⊎ (y ∈ fresh)) → y ∈ (x ∷ filled_variables fresh i xs) → (y ∈ (x ∷ named xs)) ⊎ (y ∈ fresh)
      written later (Memᴰ.head e) = inl (Memᴰ.head e)
      written later (Memᴰ.tail m) = ⊎_elim (λ n. inl (Memᴰ.tail n)) inr (later m)

  named_filled : (i : ℕ) (xs : List Bytes) (y : Bytes) → y ∈ named xs → y ∈ filled_variables fresh i xs
  unfolding filled_variables named
  named_filled i [] y m = m
  named_filled i (x ∷ xs) y m =
      by_lone (λ fs ns n. y ∈ ns → y ∈ fs) fresh i x xs (λ e m. Memᴰ.tail (named_filled (suc i) xs y m)) (λ e m. written (named_filled i xs y) m) m
    where
      written : (y ∈ named xs → y ∈ filled_variables fresh i xs) → y ∈ (x ∷ named xs) → y ∈ (x ∷ filled_variables fresh i xs)
      written later (Memᴰ.head e) = Memᴰ.head e
      written later (Memᴰ.tail m) = Memᴰ.tail (later m)

  fresh_filled : (i : ℕ) (xs : List Bytes) (j : ℕ) → i ≤ j → j < i + lones xs → nth fresh j ∈ filled_variables fresh i xs
  unfolding filled_variables lones
  fresh_filled i [] j from to = absurd (omega arith)
  fresh_filled i (x ∷ xs) j from to =
      by_lone (λ fs ns n. j < i + n → nth fresh j ∈ fs) fresh i x xs
      (λ e to. lone to (fresh_filled (suc i) xs j) (dec_lt i j))
      (λ e to. Memᴰ.tail (fresh_filled i xs j from to)) to
    where
      lone : j < i + suc (lones xs) → (suc i ≤ j → j < suc i + lones xs → nth fresh j ∈ filled_variables fresh (suc i) xs) → Dec (i < j) → nth fresh j ∈ (nth fresh i ∷ filled_variables fresh (suc i) xs)
      lone to later (yes after) = Memᴰ.tail (later after (omega arith))
      lone to later (no here) = let same : j ≡ i = omega arith in Memᴰ.head (ap (nth fresh) same)

named_member : (xs : List Bytes) (y : Bytes) → y ∈ named xs → y ∈ xs
unfolding named
named_member [] y m = m
named_member (x ∷ xs) y m = by_truth (λ b. y ∈ cond b (named xs) (x ∷ named xs) → y ∈ (x ∷ xs)) (is_lone x) (λ e m. Memᴰ.tail (named_member xs y m)) (λ e m. written (named_member xs y) m) m
  where
    written : (y ∈ named xs → y ∈ xs) → y ∈ (x ∷ named xs) → y ∈ (x ∷ xs)
    written later (Memᴰ.head e) = Memᴰ.head e
    written later (Memᴰ.tail m) = Memᴰ.tail (later m)

-- ---- how many they are

-- what is numbered was seen or is there
numbered_from_lem : (seen xs : List Bytes) (y : Bytes) → y ∈ numbered seen xs → (y ∈ seen) ⊎ (y ∈ xs)
unfolding numbered
numbered_from_lem seen [] y m = inl m
numbered_from_lem seen (x ∷ xs) y m =
    by_truth (λ b. y ∈ numbered (cond b seen (seen ++ (x ∷ []))) xs → (y ∈ seen) ⊎ (y ∈ (x ∷ xs))) (among x seen)
    (λ e m. ⊎_elim inl (λ n. inr (Memᴰ.tail n)) (numbered_from_lem seen xs y m))
    (λ e m. ⊎_elim (λ n. ⊎_elim inl (λ same. inr (Memᴰ.head same)) (end_cases seen n)) (λ n. inr (Memᴰ.tail n)) (numbered_from_lem (seen ++ (x ∷ [])) xs y m))
    m

none_seen : {xs : List Bytes} {y : Bytes} → (y ∈ []) ⊎ (y ∈ xs) → y ∈ xs
none_seen = ⊎_elim (λ m. absurd (Memᴰ.not-nil m)) (λ m. m)

pub filled_count : (c : Clause) → length (rule_variables (filled c).head (filled c).subgoals) ≡ length (numbered [] (named (clause_variables c))) + lones (clause_variables c)
unfolding rule_variables
filled_count c =
    let xs = clause_variables c in
    let fresh = fresh_of c in
    let all = filled_variables fresh 0 xs in
    let enough = fresh_length (lones xs) xs in
    let apart : (y : Bytes) → y ∈ numbered [] (named xs) → y ∈ fresh → ⊥ = λ y m n. fresh_apart (lones xs) xs y n (named_member xs y (none_seen (numbered_from_lem [] (named xs) y m))) in
    let both = numbered [] (named xs) ++ fresh in
    let up : length (numbered [] all) ≤ length both =
    once_few (numbered_once [] all once_none) both
    (λ y m. ⊎_elim (λ n. Memᴰ.append_left fresh (member_numbered [] (named xs) n)) (Memᴰ.append_right (numbered [] (named xs))) (filled_member fresh 0 xs (omega arith) y (none_seen (numbered_from_lem [] all y m)))) in
    let down : length both ≤ length (numbered [] all) =
    once_few (once_append (numbered_once [] (named xs) once_none) (fresh_once (lones xs) xs) apart) (numbered [] all)
    (λ y m. member_numbered [] all (⊎_elim (λ n. named_filled fresh 0 xs y (none_seen (numbered_from_lem [] (named xs) y n))) (made fresh xs (omega arith) y) (Memᴰ.append_cases (numbered [] (named xs)) m))) in
    ap (λ (vs : List Bytes). length (numbered [] vs)) (filled_variables_lem c) ∙ omega (arith, length-append (numbered [] (named xs)) fresh, enough, up, down)
  where
    made : (fresh xs : List Bytes) → length fresh ≤ lones xs → (y : Bytes) → y ∈ fresh → y ∈ filled_variables fresh 0 xs
    made fresh xs few y m = let at = member_get_d [] m in Memᴰ.cast (sym at.2) (fresh_filled fresh 0 xs at.0 (omega arith) (omega (arith, at.1)))
