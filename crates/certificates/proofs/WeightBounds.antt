-- How large the weights of an `M` line can be: a claim changes a weight by at most the largest product, and at most sixteen claims are on one subgoal.
use mathlib.Core.Path.{◌≡◌, refl}
use mathlib.Core.Bool.{Bool, true, false, cond}
use mathlib.Core.List.{List}
use mathlib.Core.Option
use mathlib.Core.Option.{Option, some, none}
use Prim.Native.Nat.{ℕ, zero, suc, ◌+◌, ◌*◌, ◌-◌, ◌≤◌, ◌<◌}
use native.Mathlib.Omega.{arith}
use lib.Dec.{eqb}
use lib.IntN.{ℤ, pos, nat_abs, ◌-ℤ◌, ◌*ℤ◌}
use lib.ListN.{get_or}
use Rattle.groundwork.proofs.Truth.{eqb_same}
use Rattle.groundwork.proofs.Magnitude.{nat_abs_sub}
use Rattle.theory.specs.Text.{Bytes, natural}
use Rattle.theory.specs.Packs.{number_limit}
use Rattle.theory.specs.Written.{multiplier_from}
use Rattle.theory.proofs.Reading.Spelling.{natural_within}
use Rattle.tables.specs.declared.Slot.{Slot}
use Rattle.tables.specs.Tables.{slot_at, SafeClaims, SafeSlots, slots_of}
use Rattle.tables.specs.Lines.{at}
use Rattle.residuals.specs.Sums.{largest}
use Rattle.certificates.specs.Multipliers.{weight_after}
use Rattle.certificates.proofs.Weighing.{product_small}

multiplier_small : (field : Bytes) → multiplier_from field ≤ 9999
multiplier_small field = go (natural number_limit field) refl
  where
    go : (o : Option ℕ) → natural number_limit field ≡ o → Option.get_or o 0 ≤ 9999
    go none e = omega arith
    go (some n) e = natural_within number_limit field n e

-- each claim on the subgoal changes its weight by at most the largest product, and the others do not change it
module _ (claims : List ℤ) (slots : List Slot) (fs : List Bytes) (subgoal j : ℕ) (safe : SafeClaims claims) where
  pub weight_small : (index : ℕ) → nat_abs (weight_after claims slots fs subgoal j index) ≤ slots_of slots subgoal index * largest
  unfolding weight_after slots_of
  weight_small zero = omega arith
  weight_small (suc k) = changed (eqb (slot_at slots k).subgoal subgoal) (weight_small k)
    where
      old : ℤ
      old = weight_after claims slots fs subgoal j k

      product : ℤ
      product = pos (multiplier_from (at fs k)) *ℤ get_or claims ((slot_at slots k).place + j) (pos 0)

      changed : (b : Bool) → nat_abs old ≤ slots_of slots subgoal k * largest → nat_abs (old -ℤ cond b product (pos 0)) ≤ (slots_of slots subgoal k + cond b 1 0) * largest
      changed true before = omega (arith, nat_abs_sub old product, product_small (pos (multiplier_from (at fs k))) (get_or claims ((slot_at slots k).place + j) (pos 0)) (multiplier_small (at fs k)) (safe.small ((slot_at slots k).place + j)))
      changed false before = omega (arith, nat_abs_sub old (pos 0))

-- ---- slots

module _ (slots : List Slot) where
  slots_rise : (subgoal k more : ℕ) → slots_of slots subgoal k ≤ slots_of slots subgoal (k + more)
  unfolding slots_of
  slots_rise subgoal k zero = let none : k + 0 ≡ k = omega arith in rw none (omega arith)
  slots_rise subgoal k (suc more) = let next : k + suc more ≡ suc (k + more) = omega arith in rw next (omega (arith, slots_rise subgoal k more))

  own_counted : (k : ℕ) → slots_of slots (slot_at slots k).subgoal (suc k) ≡ slots_of slots (slot_at slots k).subgoal k + 1
  unfolding slots_of
  own_counted k = rw (eqb_same (slot_at slots k).subgoal)

  module _ (n subgoals : ℕ) (safe : SafeSlots slots n subgoals) where
    slots_below : (subgoal k : ℕ) → k ≤ n → slots_of slots subgoal k ≤ slots_of slots subgoal n
    slots_below subgoal k low = let all : k + (n - k) ≡ n = omega arith in rw all at (slots_rise subgoal k (n - k))

    pub slots_few : (subgoal k : ℕ) → k ≤ n → slots_of slots subgoal k ≤ 16
    slots_few subgoal k low = omega (arith, slots_below subgoal k low, safe.few subgoal)

    -- this slot is one of the sixteen
    pub slots_before : (k : ℕ) → k < n → slots_of slots (slot_at slots k).subgoal k ≤ 15
    slots_before k low = omega (arith, own_counted k, slots_few (slot_at slots k).subgoal (suc k) (omega arith))
