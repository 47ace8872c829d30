-- How many of the first slots are of a subgoal, when more come.
use mathlib.Core.Path.{◌≡◌, refl}
use mathlib.Core.Bool.{Bool, true, false, cond}
use mathlib.Core.List.{List}
use Prim.Native.Nat.{ℕ, zero, suc, ◌+◌, ◌≤◌, ◌<◌}
use native.Mathlib.Numerals.{unary_clauses}
use native.Mathlib.Omega.{arith}
use lib.Dec.{eqb}
use Rattle.groundwork.proofs.Truth.{eqb-different}
use Rattle.tables.specs.declared.Slot.{Slot}
use Rattle.tables.specs.Tables.{slot_at, slots_of}

one_at_most : (b : Bool) → cond b 1 0 ≤ 1
one_at_most true = omega arith
one_at_most false = omega arith

module _ (slots : List Slot) (subgoal : ℕ) where
  -- those of the same slots
  pub slots_of_same : (slots₀ : List Slot) (n : ℕ) → ((k : ℕ) → k < n → (slot_at slots k).subgoal ≡ (slot_at slots₀ k).subgoal) → slots_of slots subgoal n ≡ slots_of slots₀ subgoal n
  unfolding slots_of
  slots_of_same slots₀ zero same = refl
  slots_of_same slots₀ (suc n) same = rw (same n (omega arith), slots_of_same slots₀ n (λ k h. same k (omega arith)))

  -- some more slots, which may be of the subgoal
  pub slots_of_most : (n more : ℕ) → slots_of slots subgoal (n + more) ≤ slots_of slots subgoal n + more
  unfolding slots_of
  slots_of_most n zero = simp unary_clauses (omega arith)
  slots_of_most n (suc more) = simp unary_clauses (omega (arith, slots_of_most n more, one_at_most (eqb (slot_at slots (n + more)).subgoal subgoal)))

  -- some more slots of others
  pub slots_of_others : (n more : ℕ) → ((j : ℕ) → j < more → (slot_at slots (n + j)).subgoal ≡ subgoal → ⊥) → slots_of slots subgoal (n + more) ≡ slots_of slots subgoal n
  unfolding slots_of
  slots_of_others n zero other = simp unary_clauses
  slots_of_others n (suc more) other = simp unary_clauses (rw (eqb-different _ subgoal (other more (omega arith))) (omega (arith, slots_of_others n more (λ j h. other j (omega arith)))))
