-- A rule's variables in words: each once, those that occur, and each where it first occurs. Proves VariablesTold of
-- specs/ResidualsTold.
use mathlib.Core.Path.{◌≡◌, refl, sym, ◌∙◌, ap}
use mathlib.Core.Bool.{Bool, cond}
use mathlib.Core.Logic.{⊎_elim}
use mathlib.Core.List.Memᴰ
use mathlib.Core.List.{List, [], ◌∷◌, ◌++◌, append_assoc, append-nil}
use lib.ListN.{get_or, drop}
use Rattle.groundwork.proofs.Truth.{by_truth}
use Rattle.groundwork.proofs.Lists.{split_member, end_cases}
use Rattle.theory.specs.Lists.{◌∈◌}
use Rattle.theory.specs.Text.{Bytes, same, among}
use Rattle.theory.specs.Packs.{Atom}
use Rattle.theory.specs.Residuals.{numbered, atoms_variables, rule_variables}
use Rattle.theory.specs.ResidualsTold.{VariablesTold}
use Rattle.theory.proofs.Reading.Bytes.{same_equal, same_unequal}
use Rattle.theory.proofs.Judging.Variables.{among_member, member_numbered, rule_variables_once}

-- what was seen stays in front
numbered_front : (seen xs : List Bytes) → (rest : List Bytes) × (numbered seen xs ≡ seen ++ rest)
unfolding numbered
numbered_front seen [] = ([], sym (append-nil seen))
numbered_front seen (x ∷ xs) =
    by_truth (λ (b : Bool). (rest : List Bytes) × (numbered (cond b seen (seen ++ (x ∷ []))) xs ≡ seen ++ rest)) (among x seen)
    (λ h. numbered_front seen xs)
    (λ h. let (rest, is) = numbered_front (seen ++ (x ∷ [])) xs in (x ∷ rest, is ∙ append_assoc seen (x ∷ []) rest))

-- nothing else is numbered
numbered_occurs : (seen xs : List Bytes) {y : Bytes} → (y ∈ seen → ⊥) → y ∈ numbered seen xs → y ∈ xs
unfolding numbered
numbered_occurs seen [] unseen m = absurd (unseen m)
numbered_occurs seen (x ∷ xs) {y} unseen m =
    by_truth (λ (b : Bool). y ∈ numbered (cond b seen (seen ++ (x ∷ []))) xs → y ∈ (x ∷ xs)) (among x seen)
    (λ h m. Memᴰ.tail (numbered_occurs seen xs unseen m))
    (λ h m.
    by_truth (λ (b : Bool). y ∈ (x ∷ xs)) (same y x) (λ e. Memᴰ.head (same_equal y x e))
    (λ e. Memᴰ.tail (numbered_occurs (seen ++ (x ∷ [])) xs (λ n. ⊎_elim unseen (same_unequal y x e) (end_cases seen n)) m)))
    m

-- of two ways to part a list, where x is not in the first part of the one, that part lies within the first part of the other
within_lower : (seen rest lower higher : List Bytes) (x : Bytes) → seen ++ rest ≡ lower ++ x ∷ higher → (x ∈ seen → ⊥) → (y : Bytes) → y ∈ seen → y ∈ lower
within_lower [] rest lower higher x are unseen y m = absurd (Memᴰ.not-nil m)
within_lower (s ∷ seen) rest [] higher x are unseen y m = absurd (unseen (Memᴰ.head (sym (ap (λ (l : List Bytes). get_or l 0 []) are))))
within_lower (s ∷ seen) rest (l ∷ lower) higher x are unseen y m =
    ⊎_elim (λ (e : y ≡ s). Memᴰ.head (e ∙ ap (λ (l : List Bytes). get_or l 0 []) are))
    (λ (n : y ∈ seen). Memᴰ.tail (within_lower seen rest lower higher x (ap (drop 1) are) (λ k. unseen (Memᴰ.tail k)) y n))
    (Memᴰ.cases_cons m)

-- where a variable first occurs
abbrev FirstThere : List Bytes → List Bytes → Bytes → Type 0
FirstThere xs lower x = (before : List Bytes) × (after : List Bytes) × (xs ≡ before ++ x ∷ after) × ((y : Bytes) → y ∈ before → y ∈ lower)

-- one more in front, which is among those that are numbered before it
one_before : (v : Bytes) {xs lower : List Bytes} {x : Bytes} → v ∈ lower → FirstThere xs lower x → FirstThere (v ∷ xs) lower x
one_before v m (before, after, are, all) = (v ∷ before, after, ap (λ (l : List Bytes). v ∷ l) are, λ y n. ⊎_elim (λ (e : y ≡ v). Memᴰ.cast e m) (all y) (Memᴰ.cases_cons n))

first_there_lem : (seen xs lower higher : List Bytes) (x : Bytes) → numbered seen xs ≡ lower ++ x ∷ higher → (x ∈ seen → ⊥) → FirstThere xs lower x
unfolding numbered
first_there_lem seen [] lower higher x are unseen = absurd (unseen (split_member lower higher x are))
first_there_lem seen (v ∷ xs) lower higher x are unseen =
    by_truth (λ (b : Bool). numbered (cond b seen (seen ++ (v ∷ []))) xs ≡ lower ++ x ∷ higher → FirstThere (v ∷ xs) lower x) (among v seen)
    (λ h are.
    let (rest, front) = numbered_front seen xs in
    one_before v (within_lower seen rest lower higher x (sym front ∙ are) unseen v (among_member v seen h)) (first_there_lem seen xs lower higher x are unseen))
    (λ h are.
    by_truth (λ (b : Bool). FirstThere (v ∷ xs) lower x) (same x v)
    (λ e. ([], xs, ap (λ (y : Bytes). y ∷ xs) (sym (same_equal x v e)), λ y n. absurd (Memᴰ.not-nil n)))
    (λ e.
    let more = seen ++ (v ∷ []) in
    let (rest, front) = numbered_front more xs in
    let unseen-more : x ∈ more → ⊥ = λ n. ⊎_elim unseen (same_unequal x v e) (end_cases seen n) in
    one_before v (within_lower more rest lower higher x (sym front ∙ are) unseen-more v (Memᴰ.append_right seen (Memᴰ.head refl))) (first_there_lem more xs lower higher x are unseen-more)))
    are

pub variables_told : (head : Atom) (subgoals : List Atom) → VariablesTold head subgoals
unfolding rule_variables
variables_told head subgoals =
    let xs = atoms_variables (head ∷ subgoals) in
    let unseen : (x : Bytes) → x ∈ [] → ⊥ = λ x m. Memᴰ.not-nil m in
    record {
      once = rule_variables_once head subgoals;
      occurs = λ x. (numbered_occurs [] xs (unseen x), member_numbered [] xs);
      first_there = λ lower higher x are. first_there_lem [] xs lower higher x are (unseen x);
    }
