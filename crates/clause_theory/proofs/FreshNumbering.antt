-- The fresh variables of a clause one after another: each has the next number whose variable the clause does not name.
use mathlib.Core.Path.{◌≡◌, refl, sym, ◌∙◌, ap}
use mathlib.Core.Bool.{Bool, true, false, cond, ◌||◌, or-false, or_assoc}
use mathlib.Core.List.{List, [], ◌∷◌, ◌++◌}
use Prim.Native.Nat.{ℕ, suc, ◌+◌, ◌-◌, ◌≤◌, ◌<◌}
use native.Mathlib.Decide.{dec_lt}
use native.Mathlib.Omega.{arith}
use lib.ListN.{length, drop, length-append}
use lib.Seq.{drop-drop, get_or-drop}
use Rattle.groundwork.proofs.Truth.{by_truth, never_both, or_left, or_right}
use Rattle.theory.specs.Text.{Bytes, bytes, same, among}
use Rattle.theory.specs.Residuals.{numbered}
use Rattle.clause_theory.specs.Clauses.{Clause}
use Rattle.clause_theory.specs.Import.{clause_variables, is_lone, lones, numbered_variable, fresh_variable, fresh_variables, nth, fresh_of}
use Rattle.clause_theory.proofs.FilledVariables.{named}
use Rattle.clause_theory.proofs.FreshVariables.{numbered_same, numbers_few, fresh_is}
use Rattle.theory.proofs.Reading.Bytes.{same_refl, same_equal}

-- ---- what is among the variables that are named

or_known : (a b c : Bool) → (b ≡ true → a ≡ true) → (a || c) ≡ (a || (b || c))
or_known true b c h = refl
or_known false true c h = never_both (h refl) refl
or_known false false c h = refl

among_append : (x : Bytes) (xs ys : List Bytes) → among x (xs ++ ys) ≡ (among x xs || among x ys)
unfolding among
among_append x [] ys = refl
among_append x (y ∷ xs) ys = ap (λ (b : Bool). same x y || b) (among_append x xs ys) ∙ sym (or_assoc (same x y) (among x xs) (among x ys))

among_numbered : (x : Bytes) (seen ys : List Bytes) → among x (numbered seen ys) ≡ (among x seen || among x ys)
unfolding numbered among
among_numbered x seen [] = sym (or-false (among x seen))
among_numbered x seen (y ∷ ys) =
    by_truth (λ b. among x (numbered (cond b seen (seen ++ (y ∷ []))) ys) ≡ (among x seen || (same x y || among x ys))) (among y seen)
    (λ e. among_numbered x seen ys ∙ or_known (among x seen) (same x y) (among x ys) (λ h. ap (λ (z : Bytes). among z seen) (same_equal x y h) ∙ e))
    (λ e.
    among_numbered x (seen ++ (y ∷ [])) ys
    ∙ ap (λ (b : Bool). b || among x ys) (among_append x seen (y ∷ []) ∙ ap (λ (b : Bool). among x seen || b) (or-false (same x y)))
    ∙ or_assoc (among x seen) (same x y) (among x ys))

among_named : (x : Bytes) → is_lone x ≡ false → (ys : List Bytes) → among x (named ys) ≡ among x ys
unfolding named among
among_named x other [] = refl
among_named x other (y ∷ ys) =
    by_truth (λ b. is_lone y ≡ b → among x (cond b (named ys) (y ∷ named ys)) ≡ (same x y || among x ys)) (is_lone y)
    (λ e lone. among_named x other ys ∙ ap (λ (b : Bool). b || among x ys) (sym (apart lone)))
    (λ e lone. ap (λ (b : Bool). same x y || b) (among_named x other ys)) refl
  where
    apart : is_lone y ≡ true → same x y ≡ false
    apart lone = by_truth (λ b. b ≡ false) (same x y) (λ e. never_both (ap is_lone (same_equal x y e) ∙ lone) other) (λ e. refl)

-- no numbered variable is `_`
numbered_not_lone : (n : ℕ) → is_lone (numbered_variable n) ≡ false
unfolding numbered_variable bytes same
numbered_not_lone n = refl

pub among_numbered_named : (n : ℕ) (xs : List Bytes) → among (numbered_variable n) (numbered [] (named xs)) ≡ among (numbered_variable n) xs
unfolding among
among_numbered_named n xs = among_numbered (numbered_variable n) [] (named xs) ∙ among_named (numbered_variable n) (numbered_not_lone n) xs

-- ---- the numbers one after another

numbered_apart : (n m : ℕ) → (n ≡ m → ⊥) → same (numbered_variable n) (numbered_variable m) ≡ false
numbered_apart n m other =
    by_truth (λ b. b ≡ false) (same (numbered_variable n) (numbered_variable m))
    (λ e. absurd (other (numbered_same n m (same_equal (numbered_variable n) (numbered_variable m) e))))
    (λ e. refl)

-- after i of a clause's `_`, the last of which has this number
pub record FreshAt (c : Clause) (i number : ℕ) : Type 0 where
  pub made : List Bytes
  pub many : length made ≡ i
  pub left : drop i (fresh_of c) ≡ fresh_variables (lones (clause_variables c) - i) (made ++ clause_variables c)
  pub below : (m : ℕ) → 1 ≤ m → m ≤ number → among (numbered_variable m) (made ++ clause_variables c) ≡ true
  pub above : (m : ℕ) → number < m → among (numbered_variable m) (made ++ clause_variables c) ≡ among (numbered_variable m) (clause_variables c)

pub fresh_none : (c : Clause) → FreshAt c 0 0
fresh_none c =
    let all : lones (clause_variables c) ≡ lones (clause_variables c) - 0 = omega arith in
    record { made = []; many = refl; left = ap (λ (k : ℕ). fresh_variables k (clause_variables c)) all; below = λ m from to. absurd (omega arith); above = λ m from. refl }

module _ {c : Clause} {i number : ℕ} (at : FreshAt c i number) where
  taken : List Bytes
  taken = at.made ++ clause_variables c

  pub fresh_next : i < lones (clause_variables c) → (r : ℕ) → number < r → among (numbered_variable r) (clause_variables c) ≡ false
      → ((m : ℕ) → number < m → m < r → among (numbered_variable m) (clause_variables c) ≡ true) → (nth (fresh_of c) i ≡ numbered_variable r) × FreshAt c (suc i) r
  unfolding taken fresh_variables among
  fresh_next more r from free full =
      let is : fresh_variable taken ≡ numbered_variable r = fresh_is taken r (omega arith) (at.above r from ∙ free) low in
      let one_more_lem : lones (clause_variables c) - i ≡ suc (lones (clause_variables c) - suc i) = omega (arith, more) in
      let here : i ≡ i + 0 = omega arith in
      let next : suc i ≡ i + 1 = omega arith in
      let first : drop i (fresh_of c) ≡ numbered_variable r ∷ fresh_variables (lones (clause_variables c) - suc i) (numbered_variable r ∷ taken) =
      at.left
      ∙ ap (λ (k : ℕ). fresh_variables k taken) one_more_lem
      ∙ ap (λ (x : Bytes). x ∷ fresh_variables (lones (clause_variables c) - suc i) (x ∷ taken)) is in (
        ap (nth (fresh_of c)) here ∙ sym (get_or-drop i (fresh_of c) 0 []) ∙ ap (λ (xs : List Bytes). nth xs 0) first,
        record {
          made = numbered_variable r ∷ at.made;
          many = ap suc at.many;
          left = ap (λ (k : ℕ). drop k (fresh_of c)) next ∙ sym (drop-drop 1 i (fresh_of c)) ∙ ap (drop 1) first;
          below = λ m one to. upto m one to (dec_lt m r);
          above = λ m after. ap (λ (b : Bool). b || among (numbered_variable m) taken) (numbered_apart m r (λ e. omega arith)) ∙ at.above m (omega arith);
        },
      )
    where
      low : (m : ℕ) → 1 ≤ m → m < r → among (numbered_variable m) taken ≡ true
      low m one to = at_number (dec_lt number m)
        where
          at_number : Dec (number < m) → among (numbered_variable m) taken ≡ true
          at_number (yes after) = at.above m after ∙ full m after to
          at_number (no before) = at.below m one (omega arith)

      upto : (m : ℕ) → 1 ≤ m → m ≤ r → Dec (m < r) → (same (numbered_variable m) (numbered_variable r) || among (numbered_variable m) taken) ≡ true
      upto m one to (yes before) = or_right (same (numbered_variable m) (numbered_variable r)) (among (numbered_variable m) taken) (low m one before)
      upto m one to (no here) =
          let is : m ≡ r = omega arith in
          or_left (same (numbered_variable m) (numbered_variable r)) (among (numbered_variable m) taken)
          (ap (λ (k : ℕ). same (numbered_variable k) (numbered_variable r)) is ∙ same_refl (numbered_variable r))

  -- no number is higher than there are named variables and fresh ones
  pub fresh_low : number ≤ length (numbered [] (named (clause_variables c))) + i
  fresh_low =
      let names = numbered [] (named (clause_variables c)) in
      let few = numbers_few 1 (suc number) (at.made ++ names) (λ m one below.
      among_append (numbered_variable m) at.made names
      ∙ ap (λ (b : Bool). among (numbered_variable m) at.made || b) (among_numbered_named m (clause_variables c))
      ∙ sym (among_append (numbered_variable m) at.made (clause_variables c))
      ∙ at.below m one (omega arith)) in
      omega (arith, few, length-append at.made names, at.many)
