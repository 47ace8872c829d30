-- Fresh variables: `V` and the lowest number from 1 that is not taken. There is one, since no more numbers are taken than
-- variables; so many fresh variables are made as are asked for, all different and none of them taken.
use mathlib.Core.Path.{◌≡◌, refl, sym, ◌∙◌, ap}
use mathlib.Core.Bool.{true, false, cond}
use mathlib.Core.List.Memᴰ
use mathlib.Core.List.{List, [], ◌∷◌, tail-eq_of_cons-eq}
use Prim.Native.Nat.{ℕ, zero, suc, ◌+◌, ◌-◌, ◌≤◌, ◌<◌}
use native.Mathlib.Decide.{dec_lt}
use native.Mathlib.Omega.{arith}
use lib.ListN.{length}
use Rattle.groundwork.proofs.Truth.{by_truth, never_both}
use Rattle.theory.specs.Lists.{◌∈◌}
use Rattle.theory.specs.Text.{Bytes, among}
use Rattle.clause_theory.specs.Import.{numbered_variable, lowest_from, fresh_variable, fresh_variables}
use Rattle.clause_theory.proofs.Distinct.{once_few}
use Rattle.theory.proofs.Judging.Variables.{among_member, not_among, Once, once_none, once_more}
use Rattle.theory.proofs.Reading.Decimals.{decimal_same}

-- ---- the numbered variables, from one on

pub numbered_same : (n m : ℕ) → numbered_variable n ≡ numbered_variable m → n ≡ m
unfolding numbered_variable
numbered_same n m e = decimal_same n m (tail-eq_of_cons-eq e)

numbered_from : ℕ → ℕ → List Bytes
numbered_from n zero = []
numbered_from n (suc k) = numbered_variable n ∷ numbered_from (suc n) k

from_member : (n k : ℕ) {x : Bytes} → x ∈ numbered_from n k → (m : ℕ) × (n ≤ m) × (m < n + k) × (x ≡ numbered_variable m)
unfolding numbered_from
from_member n zero m = elim m [ ]
from_member n (suc k) (Memᴰ.head e) = (n, omega arith, omega arith, e)
from_member n (suc k) (Memᴰ.tail m) = let later = from_member (suc n) k m in (later.0, omega (arith, later.1), omega (arith, later.2), later.3)

from_once : (n k : ℕ) → Once (numbered_from n k)
unfolding numbered_from
from_once n zero = once_none
from_once n (suc k) = once_more first (from_once (suc n) k)
  where
    first : numbered_variable n ∈ numbered_from (suc n) k → ⊥
    first m = let later = from_member (suc n) k m in omega (arith, later.1, numbered_same n later.0 later.3)

from_length : (n k : ℕ) → length (numbered_from n k) ≡ k
unfolding numbered_from
from_length n zero = refl
from_length n (suc k) = ap suc (from_length (suc n) k)

-- no more of them are taken than there are taken variables
pub numbers_few : (from n : ℕ) (xs : List Bytes) → ((m : ℕ) → from ≤ m → m < n → among (numbered_variable m) xs ≡ true) → n ≤ from + length xs
numbers_few from n xs taken =
    omega (
      arith,
      from_length from (n - from),
      once_few (from_once from (n - from)) xs (λ x m.
          let at = from_member from (n - from) m in
          among_member x xs (ap (λ (y : Bytes). among y xs) at.3 ∙ taken at.0 at.1 (omega (arith, at.1, at.2)))),
    )

-- ---- the lowest that is free

module _ (taken : List Bytes) where
  record Lowest (tries n lowest : ℕ) : Type 0 where
    above : n ≤ lowest
    low : (m : ℕ) → n ≤ m → m < lowest → among (numbered_variable m) taken ≡ true
    free : lowest < n + tries → among (numbered_variable lowest) taken ≡ false

  lowest_from_lem : (tries n : ℕ) → Lowest tries n (lowest_from tries n taken)
  unfolding lowest_from
  lowest_from_lem zero n = record { above = omega arith; low = λ m from below. absurd (omega arith); free = λ below. absurd (omega arith) }
  lowest_from_lem (suc tries) n =
      by_truth (λ b. Lowest (suc tries) n (cond b (lowest_from tries (suc n) taken) n)) (among (numbered_variable n) taken)
      (λ e.
      let next = lowest_from_lem tries (suc n) in
      record { above = omega (arith, next.above); low = low e next; free = λ below. next.free (omega arith) })
      (λ e. record { above = omega arith; low = λ m from below. absurd (omega arith); free = λ below. e })
    where
      low : among (numbered_variable n) taken ≡ true → Lowest tries (suc n) (lowest_from tries (suc n) taken) → (m : ℕ) → n ≤ m → m < lowest_from tries (suc n) taken → among (numbered_variable m) taken ≡ true
      low e next m from below = at (dec_lt n m)
        where
          at : Dec (n < m) → among (numbered_variable m) taken ≡ true
          at (yes more) = next.low m more below
          at (no same) = let here : m ≡ n = omega arith in ap (λ (k : ℕ). among (numbered_variable k) taken) here ∙ e

  pub lowest_low : (m : ℕ) → 1 ≤ m → m < lowest_from (length taken) 1 taken → among (numbered_variable m) taken ≡ true
  lowest_low = (lowest_from_lem (length taken) 1).low

  pub lowest_free : among (numbered_variable (lowest_from (length taken) 1 taken)) taken ≡ false
  lowest_free =
      by_truth (λ b. b ≡ false) (among (numbered_variable lowest) taken)
      (λ here. let few = numbers_few 1 (suc lowest) taken (λ m from below. upto here m from (omega arith)) in never_both here ((lowest_from_lem (length taken) 1).free (omega arith)))
      (λ free. refl)
    where
      lowest : ℕ
      lowest = lowest_from (length taken) 1 taken

      upto : among (numbered_variable lowest) taken ≡ true → (m : ℕ) → 1 ≤ m → m ≤ lowest → among (numbered_variable m) taken ≡ true
      upto here m from to = at (dec_lt m lowest)
        where
          at : Dec (m < lowest) → among (numbered_variable m) taken ≡ true
          at (yes below) = lowest_low m from below
          at (no above) = let same : m ≡ lowest = omega arith in ap (λ (k : ℕ). among (numbered_variable k) taken) same ∙ here

  pub lowest_above : 1 ≤ lowest_from (length taken) 1 taken
  lowest_above = (lowest_from_lem (length taken) 1).above

  pub fresh_is : (n : ℕ) → 1 ≤ n → among (numbered_variable n) taken ≡ false → ((m : ℕ) → 1 ≤ m → m < n → among (numbered_variable m) taken ≡ true) → fresh_variable taken ≡ numbered_variable n
  unfolding fresh_variable
  fresh_is n from free low = ap numbered_variable (at (dec_lt lowest n) (dec_lt n lowest))
    where
      lowest : ℕ
      lowest = lowest_from (length taken) 1 taken

      at : Dec (lowest < n) → Dec (n < lowest) → lowest ≡ n
      at (yes below) other = never_both (low lowest lowest_above below) lowest_free
      at (no above) (yes below) = never_both (lowest_low n from below) free
      at (no above) (no below) = omega arith

  pub fresh_free : among (fresh_variable taken) taken ≡ false
  unfolding fresh_variable
  fresh_free = lowest_free

-- ---- several

pub fresh_length : (k : ℕ) (taken : List Bytes) → length (fresh_variables k taken) ≡ k
unfolding fresh_variables
fresh_length zero taken = refl
fresh_length (suc k) taken = ap suc (fresh_length k (fresh_variable taken ∷ taken))

pub fresh_apart : (k : ℕ) (taken : List Bytes) (x : Bytes) → x ∈ fresh_variables k taken → x ∈ taken → ⊥
unfolding fresh_variables
fresh_apart zero taken x m taken_has = elim m [ ]
fresh_apart (suc k) taken x (Memᴰ.head e) m = not_among (fresh_variable taken) taken (fresh_free taken) (Memᴰ.cast (sym e) m)
fresh_apart (suc k) taken x (Memᴰ.tail later) m = fresh_apart k (fresh_variable taken ∷ taken) x later (Memᴰ.tail m)

pub fresh_once : (k : ℕ) (taken : List Bytes) → Once (fresh_variables k taken)
unfolding fresh_variables
fresh_once zero taken = once_none
fresh_once (suc k) taken = once_more (λ m. fresh_apart k (fresh_variable taken ∷ taken) (fresh_variable taken) m (Memᴰ.head refl)) (fresh_once k (fresh_variable taken ∷ taken))
