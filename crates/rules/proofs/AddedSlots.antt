-- Slots for the claims on a subgoal's predicate, added one at a time: the loop of `add_slots`.
use mathlib.Core.Path.{◌≡◌, ap}
use mathlib.Core.List.{List}
use Prim.Native.Nat.{ℕ, ◌+◌, ◌≤◌, ◌<◌}
use native.Mathlib.Omega.{arith}
use lib.ListN.{length, set}
use Rattle.groundwork.proofs.Stretches.{Stored, stored_more}
use Rattle.tables.specs.declared.Slot.{Slot}
use Rattle.tables.specs.Tables.{no_slot, claim_place}
use Rattle.rules.specs.Ends.{SlotsAdded}

-- the slot of the jth claim on a predicate
abbrev pub slot_for : ℕ → ℕ → ℕ → Slot
slot_for predicate subgoal j = record { place = claim_place predicate j; subgoal = subgoal }

module _ {slots₀ slots : List Slot} (from predicate subgoal : ℕ) {j : ℕ} (so_far : Stored no_slot (slot_for predicate subgoal) from slots₀ slots j) where
  pub slots_more : from + j < length slots → (place : ℕ) → place ≡ claim_place predicate j → Stored no_slot (slot_for predicate subgoal) from slots₀ (set slots (from + j) (record { place = place; subgoal = subgoal })) (j + 1)
  slots_more within place is = stored_more (from + j) _ so_far (omega arith) within (ap (λ (n : ℕ). record { place = n; subgoal = subgoal }) is)

  pub slots_all : (count : ℕ) → j ≤ count → count ≤ j → SlotsAdded slots₀ from predicate count subgoal slots
  slots_all count h k = record { size = so_far.size; added = λ i less. so_far.done i (omega arith); before = so_far.below }
