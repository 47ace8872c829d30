-- A rule's variables, numbered by first occurrence: each once, and every one that occurs.
use mathlib.Core.Path.{◌≡◌, refl, sym, subst}
use mathlib.Core.Logic.{⊎_elim}
use mathlib.Core.Bool.{true, false, cond, ◌||◌}
use mathlib.Core.List.{List, [], ◌∷◌, ◌++◌}
use mathlib.Core.List.Memᴰ
use Rattle.groundwork.proofs.Lists.{end_cases}
use Rattle.groundwork.proofs.Truth.{by_truth, never_both, or_not_left, or_not_right}
use Rattle.theory.specs.Lists.{◌∈◌}
use Rattle.theory.specs.Text.{Bytes, same, among}
use Rattle.theory.specs.Terms.{all_variables}
pub use Rattle.theory.specs.Forms.{Once, once_none, once_more}
use Rattle.theory.specs.Packs.{Atom}
use Rattle.theory.specs.Residuals.{numbered, atoms_variables, rule_variables}
use Rattle.theory.proofs.Reading.Bytes.{same_equal, same_unequal}

-- ---- among, as membership

pub among_member : (x : Bytes) (ys : List Bytes) → among x ys ≡ true → x ∈ ys
unfolding among
among_member x [] e = never_both e refl
among_member x (y ∷ ys) e =
    by_truth (λ b. (b || among x ys) ≡ true → x ∈ (y ∷ ys)) (same x y) (λ h k. Memᴰ.head (same_equal x y h)) (λ h k. Memᴰ.tail (among_member x ys k)) e

pub not_among : (x : Bytes) (ys : List Bytes) → among x ys ≡ false → x ∈ ys → ⊥
unfolding among
not_among x [] e m = elim m [ ]
not_among x (y ∷ ys) e (Memᴰ.head h) = same_unequal x y (or_not_left (same x y) (among x ys) e) h
not_among x (y ∷ ys) e (Memᴰ.tail m) = not_among x ys (or_not_right (same x y) (among x ys) e) m

-- ---- a list that holds each of its elements once

once_after : {xs : List Bytes} (x : Bytes) → Once xs → (x ∈ xs → ⊥) → Once (xs ++ (x ∷ []))
once_after x once_none new = once_more new once_none
once_after x (once_more {x = y} {xs = xs} apart rest) new =
    once_more
    (λ m. ⊎_elim apart (λ e. new (Memᴰ.head (sym e))) (end_cases xs m))
    (once_after x rest (λ m. new (Memᴰ.tail m)))

-- ---- numbered

pub numbered_once : (seen xs : List Bytes) → Once seen → Once (numbered seen xs)
unfolding numbered
numbered_once seen [] once = once
numbered_once seen (x ∷ xs) once = numbered_once (cond (among x seen) seen (seen ++ (x ∷ []))) xs
    (by_truth (λ b. Once (cond b seen (seen ++ (x ∷ [])))) (among x seen) (λ h. once) (λ h. once_after x once (not_among x seen h)))

-- what was seen stays
pub seen_numbered : (seen ys : List Bytes) {x : Bytes} → x ∈ seen → x ∈ numbered seen ys
unfolding numbered
seen_numbered seen [] m = m
seen_numbered seen (y ∷ ys) {x} m = seen_numbered (cond (among y seen) seen (seen ++ (y ∷ []))) ys
    (by_truth (λ b. x ∈ cond b seen (seen ++ (y ∷ []))) (among y seen) (λ h. m) (λ h. Memᴰ.append_left (y ∷ []) m))

pub member_numbered : (seen ys : List Bytes) {x : Bytes} → x ∈ ys → x ∈ numbered seen ys
unfolding numbered
member_numbered seen [] m = elim m [ ]
member_numbered seen (y ∷ ys) {x} (Memᴰ.head e) = seen_numbered (cond (among y seen) seen (seen ++ (y ∷ []))) ys
    (by_truth (λ b. x ∈ cond b seen (seen ++ (y ∷ []))) (among y seen) (λ h. Memᴰ.cast e (among_member y seen h)) (λ h. Memᴰ.append_right seen (Memᴰ.head e)))
member_numbered seen (y ∷ ys) (Memᴰ.tail m) = member_numbered (cond (among y seen) seen (seen ++ (y ∷ []))) ys m

-- ---- a rule's variables

pub rule_variables_once : (head : Atom) (subgoals : List Atom) → Once (rule_variables head subgoals)
unfolding rule_variables
rule_variables_once head subgoals = numbered_once [] (atoms_variables (head ∷ subgoals)) once_none

pub variable_of_atom : (atoms : List Atom) {a : Atom} {x : Bytes} → a ∈ atoms → x ∈ all_variables a.terms → x ∈ atoms_variables atoms
unfolding atoms_variables
variable_of_atom [] m n = elim m [ ]
variable_of_atom (b ∷ rest) {x = x} (Memᴰ.head e) n = Memᴰ.append_left (atoms_variables rest) (subst (λ (c : Atom). x ∈ all_variables c.terms) e n)
variable_of_atom (b ∷ rest) (Memᴰ.tail m) n = Memᴰ.append_right (all_variables b.terms) (variable_of_atom rest m n)

pub head_variable : (head : Atom) (subgoals : List Atom) (x : Bytes) → x ∈ all_variables head.terms → x ∈ rule_variables head subgoals
unfolding rule_variables
head_variable head subgoals x m = member_numbered [] (atoms_variables (head ∷ subgoals)) (variable_of_atom (head ∷ subgoals) (Memᴰ.head refl) m)

pub subgoal_variable : (head : Atom) (subgoals : List Atom) (a : Atom) → a ∈ subgoals → (x : Bytes) → x ∈ all_variables a.terms → x ∈ rule_variables head subgoals
unfolding rule_variables
subgoal_variable head subgoals a n x m = member_numbered [] (atoms_variables (head ∷ subgoals)) (variable_of_atom (head ∷ subgoals) (Memᴰ.tail n) m)
