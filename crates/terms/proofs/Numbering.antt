-- Variables numbered one at a time, as a loop meets them, and their places.
use mathlib.Core.Path.{◌≡◌, refl, sym, ◌∙◌, ap}
use mathlib.Core.Bool.{true, false, cond}
use mathlib.Core.List.{List, [], ◌∷◌, ◌++◌, append_assoc, append-nil}
use Prim.Native.Nat.{ℕ, zero, suc, ◌≤◌, ◌<◌}
use native.Mathlib.Omega.{arith}
use lib.ListN.{length, get_or, get_or-append}
use Rattle.groundwork.proofs.Truth.{by_truth}
use Rattle.groundwork.proofs.Lists.{get_d_member, member_get_d}
use Rattle.theory.specs.Lists.{◌∈◌}
use Rattle.theory.specs.Text.{Bytes, among}
use Rattle.theory.specs.Residuals.{numbered}
use Rattle.theory.proofs.Judging.RuleVariables.{numbered_length}
use Rattle.theory.proofs.Judging.Variables.{among_member, not_among, Once, once_none, once_more}

-- ---- among, by places

member_among : (x : Bytes) (ys : List Bytes) → x ∈ ys → among x ys ≡ true
member_among x ys m = by_truth (λ b. b ≡ true) (among x ys) (λ h. refl) (λ h. absurd (not_among x ys h m))

pub place_among : (x : Bytes) (seen : List Bytes) (i : ℕ) → i < length seen → get_or seen i [] ≡ x → among x seen ≡ true
place_among x seen i inside e = ap (λ y. among y seen) (sym e) ∙ member_among (get_or seen i []) seen (get_d_member seen i [] inside)

pub no_place_among : (x : Bytes) (seen : List Bytes) → ((i : ℕ) → i < length seen → get_or seen i [] ≡ x → ⊥) → among x seen ≡ false
no_place_among x seen nowhere =
    by_truth (λ b. b ≡ false) (among x seen) (λ h. let found = member_get_d [] (among_member x seen h) in absurd (nowhere found.0 found.1 found.2)) (λ h. refl)

-- no element has two places
pub place_once : {xs : List Bytes} → Once xs → (i j : ℕ) → i < length xs → j < length xs → get_or xs i [] ≡ get_or xs j [] → i ≡ j
place_once once_none i j h k e = absurd (omega arith)
place_once (once_more apart rest) zero zero h k e = refl
place_once (once_more {x = x} {xs = xs} apart rest) zero (suc j) h k e = absurd (apart (rw e (get_d_member xs j [] (omega arith))))
place_once (once_more {x = x} {xs = xs} apart rest) (suc i) zero h k e = absurd (apart (rw e at (get_d_member xs i [] (omega arith))))
place_once (once_more apart rest) (suc i) (suc j) h k e = ap suc (place_once rest i j (omega arith) (omega arith) e)

-- ---- one variable more

-- in front of those to come
module _ (seen : List Bytes) (x : Bytes) (xs : List Bytes) where
  numbered_known : among x seen ≡ true → numbered seen (x ∷ xs) ≡ numbered seen xs
  unfolding numbered
  numbered_known e = rw e

  pub numbered_new : among x seen ≡ false → numbered seen (x ∷ xs) ≡ numbered (seen ++ (x ∷ [])) xs
  unfolding numbered
  numbered_new e = rw e

-- after those passed
numbered_end : (seen xs : List Bytes) (x : Bytes) → numbered seen (xs ++ (x ∷ [])) ≡ numbered (numbered seen xs) (x ∷ [])
unfolding numbered
numbered_end seen [] x = refl
numbered_end seen (y ∷ xs) x = numbered_end (cond (among y seen) seen (seen ++ (y ∷ []))) xs x

module _ (seen xs : List Bytes) (x : Bytes) where
  pub numbered_end_known : among x (numbered seen xs) ≡ true → numbered seen (xs ++ (x ∷ [])) ≡ numbered seen xs
  unfolding numbered
  numbered_end_known e = numbered_end seen xs x ∙ numbered_known (numbered seen xs) x [] e

  pub numbered_end_new : among x (numbered seen xs) ≡ false → numbered seen (xs ++ (x ∷ [])) ≡ numbered seen xs ++ (x ∷ [])
  unfolding numbered
  numbered_end_new e = numbered_end seen xs x ∙ numbered_new (numbered seen xs) x [] e

-- what was seen stands in front
numbered_extends : (seen xs : List Bytes) → (new : List Bytes) × (numbered seen xs ≡ seen ++ new)
unfolding numbered
numbered_extends seen [] = ([], sym (append-nil seen))
numbered_extends seen (x ∷ xs) =
    by_truth (λ b. (new : List Bytes) × (numbered (cond b seen (seen ++ (x ∷ []))) xs ≡ seen ++ new)) (among x seen)
    (λ h. numbered_extends seen xs)
    (λ h. let more = numbered_extends (seen ++ (x ∷ [])) xs in (x ∷ more.0, more.1 ∙ append_assoc seen (x ∷ []) more.0))

-- one variable more, and there are as many or more
pub numbered_grows : (seen xs : List Bytes) (x : Bytes) → length (numbered seen xs) ≤ length (numbered seen (xs ++ (x ∷ [])))
numbered_grows seen xs x = omega (arith, ap length (numbered_end seen xs x), numbered_length (numbered seen xs) (x ∷ []))

pub numbered_place : (seen xs : List Bytes) (i : ℕ) → i < length seen → get_or (numbered seen xs) i [] ≡ get_or seen i []
numbered_place seen xs i inside =
    let more = numbered_extends seen xs in
    ap (λ l. get_or l i []) more.1 ∙ get_or-append seen more.0 [] i inside
