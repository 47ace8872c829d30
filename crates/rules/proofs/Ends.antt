-- The ends of `H` and `B` lines: past a limit, or within both.
use mathlib.Core.Path.{◌≡◌, sym, ◌∙◌}
use mathlib.Core.Bool.{Bool, true, false, cond}
use mathlib.Core.List.{List}
use Prim.Native.Nat.{ℕ, ◌+◌, ◌^◌, ◌≤◌, ◌<◌}
use lib.Bits.{bit_or}
use lib.Dec.{leb, ltb}
use Rattle.tables.specs.declared.Slot.{Slot}
use Rattle.tables.specs.Tables.{signature_at}
use Rattle.std.specs.Prelude.{Result, Ok, Err}
use Rattle.groundwork.proofs.Truth.{never_both, leb-gt, ltb-ge, or_not_left, or_not_right}
use Rattle.theory.specs.Packs.{rule_limit, subgoal_limit, variable_limit}
use Rattle.tables.specs.declared.Signature.{Signature}
use Rattle.tables.specs.declared.State.{State}
use Rattle.tables.specs.declared.Opened.{Opened}
use Rattle.tables.specs.declared.Fault.{Fault}
use Rattle.tables.specs.declared.Fault.TheVariants.{CountLimit}
use Rattle.tables.proofs.Outcomes.{line_passes, line_fails}
use Rattle.rules.specs.Ends.{with_rule, with_subgoal, is_past, ClosesH, SlotsAdded, ClosesB}

-- what is within both limits, and what the test and the answer tell of it
pub record Within (limit n many : ℕ) : Type 0 where
  pub unpassed : is_past limit n many ≡ false
  pub room : n < limit
  pub few : many ≤ variable_limit

module _ (limit n many : ℕ) where
  pub within : is_past limit n many ≡ false → Within limit n many
  within e = record { unpassed = e; room = leb-gt limit n (or_not_left (leb limit n) (ltb variable_limit many) e); few = ltb-ge variable_limit many (or_not_right (leb limit n) (ltb variable_limit many) e) }

  pub room_left : (past : Bool) → past ≡ is_past limit n many → past ≡ false → n < limit
  room_left past test e = (within (sym test ∙ e)).room

  module _ (done : State) {r : Result State Fault} (answer : r ≡ cond (is_past limit n many) (Err CountLimit) (Ok done)) where
    pub limits_kept : {next : State} → r ≡ Ok next → Within limit n many × (done ≡ next)
    limits_kept e =
        let found = line_passes CountLimit done (is_past limit n many) answer e in
        (within found.0, found.1)

    pub limit_broken : {f : Fault} → r ≡ Err f → f ≡ CountLimit
    limit_broken e = sym (line_fails CountLimit done (is_past limit n many) answer e).1

-- ---- what the functions answer

module _ (o : Opened) (s : State) (many : ℕ) (past : Bool) where
  module _ (test : past ≡ is_past rule_limit s.rules many) where
    pub head_refused : past ≡ true → ClosesH o s many (Err CountLimit)
    head_refused e = record { answer = rw (sym test ∙ e) }

    pub head_done : past ≡ false → {headed : ℕ} → headed ≡ bit_or s.headed (2 ^ o.predicate) → ClosesH o s many (Ok (with_rule o.predicate headed many s))
    head_done e is = record { answer = rw (sym test ∙ e, is) }

  module _ (signatures : List Signature) (slots₀ : List Slot) (test : past ≡ is_past subgoal_limit s.subgoals many) where
    pub subgoal_refused : past ≡ true → ClosesB o s many signatures slots₀ (Err CountLimit) slots₀
    subgoal_refused e = record { answer = rw (sym test ∙ e); slots_are = never_both (sym test ∙ e) }

    pub subgoal_done : past ≡ false → (count : ℕ) (slots : List Slot) → count ≡ (signature_at signatures o.predicate).claims → SlotsAdded slots₀ s.slots o.predicate count s.subgoals slots
        → ClosesB o s many signatures slots₀ (Ok (with_subgoal (s.slots + count) many s)) slots
    subgoal_done e count slots counted added = record { answer = rw (sym test ∙ e, counted); slots_are = λ within. rw counted at added }
