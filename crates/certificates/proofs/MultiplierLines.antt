-- `M` lines: their multipliers, and the residual.
use mathlib.Core.Path.{◌≡◌, sym, ◌∙◌, ap, ap₂}
use mathlib.Core.Bool.{Bool, true, false, cond}
use mathlib.Core.List.{List, []}
use mathlib.Core.Option
use Prim.Native.Nat.{ℕ, suc, ◌+◌, ◌-◌, ◌*◌, ◌/◌, ◌%◌, ◌≤◌, ◌<◌}
use native.Mathlib.Decide.{dec_lt}
use native.Mathlib.Numerals.{add-one}
use native.Mathlib.Omega.{arith}
use borrow.Author.Count.{below_more}
use lib.Dec.{eqb}
use lib.IntN.{ℤ, pos, nat_abs, ◌-ℤ◌, ◌*ℤ◌, +ℤ_idr}
use lib.ListN.{length, drop, get_or-eq_default}
use Rattle.std.specs.Prelude.{Result, Ok, Err}
use Rattle.groundwork.proofs.Truth.{by_truth, eqb-equal, eqb-unequal}
use Rattle.groundwork.proofs.Stretches.{elements}
use Rattle.theory.specs.Text.{Bytes, fields_of}
use Rattle.theory.specs.declared.Letter.TheVariants.{M}
use Rattle.theory.specs.Written.{Written, multiplier_from, multipliers_from}
use Rattle.theory.specs.Faults.{Manner, first_given, is_multiplier, residual_due, multiplier_tests, tests, fault}
use Rattle.theory.proofs.Reading.Places.{not_every}
use Rattle.forms.specs.declared.Form.{Form}
use Rattle.tables.specs.declared.Slot.{Slot}
use Rattle.tables.specs.declared.State.{State}
use Rattle.tables.specs.declared.Opened.{Opened}
use Rattle.tables.specs.declared.Fault.{Fault}
use Rattle.tables.specs.declared.Fault.TheVariants.{Number, Unjustified}
use Rattle.tables.specs.Tables.{slot_at, Tables, Holds, Safe, NoWeights}
use Rattle.tables.specs.Faults.{number_of}
use Rattle.tables.specs.Lines.{at, Passed, ClosedFor}
use Rattle.tables.proofs.Outcomes.{field_passes, field_fails}
use Rattle.residuals.specs.Sums.{width, form_numbers, SumsTo, largest, Summable}
use Rattle.residuals.proofs.WeightedSums.{same_place}
use Rattle.certificates.specs.Weights.{RoomFor, Weighs}
use Rattle.certificates.specs.Multipliers.{FieldM, weight_after, ProgressM, ClosesM}
use Rattle.certificates.proofs.HeadWeights.{head_summable}
use Rattle.certificates.proofs.MultiplierAnswers.{has_rule, sum_numbers, residual_answer}
use Rattle.certificates.proofs.MultiplierTables.{m_holds}
use Rattle.certificates.proofs.WeightBounds.{weight_small, slots_few, slots_before}

-- ---- fields

pub m_begin : (fs : List Bytes) (claims : List ℤ) (slots : List Slot) (weights : List ℤ) → NoWeights weights → ProgressM fs 0 claims slots weights
unfolding weight_after
m_begin fs claims slots weights none =
    record {
      good = λ i less. absurd (omega arith);
      size = none.size;
      head = λ j less. none.zero j;
      weight = λ subgoal j below less. none.zero (suc subgoal * 9 + j);
    }

pub m_count : {index : ℕ} {field : Bytes} {many : ℕ} {claims : List ℤ} {slots : List Slot} {weights₀ weights : List ℤ} {r : Result ℕ Fault} {n : ℕ} → FieldM index field many claims slots weights₀ r weights → r ≡ Ok n → many ≡ n
m_count {field = field} {many} done read = (field_passes many Number (is_multiplier field) done.answer read).1

module _ {fs : List Bytes} {index many : ℕ} {claims : List ℤ} {slots : List Slot} {weights₀ weights : List ℤ} {r : Result ℕ Fault} {n : ℕ} (before : ProgressM fs index claims slots weights₀) (done : FieldM index (at fs index) many claims slots weights₀ r weights) (read : r ≡ Ok n) where
  good_here : is_multiplier (at fs index) ≡ true
  good_here = (field_passes many Number (is_multiplier (at fs index)) done.answer read).0

  multiplier : multiplier_from (at fs index) ≡ (done.weighed good_here).0
  multiplier = ap (λ o. Option.get_or o 0) (done.weighed good_here).1

  abbrev slot : ℕ
  slot = (slot_at slots index).subgoal

  weighs : Weighs (pos (done.weighed good_here).0) claims (slot_at slots index).place (slot + 1) weights₀ weights
  weighs = (done.weighed good_here).2

  -- the weights of another subgoal stay
  other_kept : (subgoal j : ℕ) → (slot ≡ subgoal → ⊥) → j < 9 → elements weights (suc subgoal * 9 + j) ≡ elements weights₀ (suc subgoal * 9 + j)
  other_kept subgoal j differ less = go (dec_lt subgoal slot)
    where
      go : Dec (subgoal < slot) → elements weights (suc subgoal * 9 + j) ≡ elements weights₀ (suc subgoal * 9 + j)
      go (yes lower) = weighs.below (suc subgoal * 9 + j) (omega arith)
      go (no higher) = weighs.above (suc subgoal * 9 + j) (omega arith)

  weight_after_lem : (subgoal j : ℕ) → subgoal < 8 → j < 9 → elements weights (suc subgoal * 9 + j) ≡ weight_after claims slots fs subgoal j (suc index)
  unfolding weight_after
  weight_after_lem subgoal j below less = by_truth Weight (eqb slot subgoal) this other
    where
      old : ℤ
      old = weight_after claims slots fs subgoal j index

      Weight : Bool → Type 0
      Weight b = elements weights (suc subgoal * 9 + j) ≡ old -ℤ cond b (pos (multiplier_from (at fs index)) *ℤ elements claims ((slot_at slots index).place + j)) (pos 0)

      this : eqb slot subgoal ≡ true → Weight true
      this e =
          let is : slot ≡ subgoal = eqb-equal slot subgoal e in
          let before-place = same_place (elements weights₀) ((slot + 1) * 9 + j) (suc subgoal * 9 + j) (omega arith) ∙ before.weight subgoal j below less in
          same_place (elements weights) (suc subgoal * 9 + j) ((slot + 1) * 9 + j) (omega arith)
          ∙ (weighs.weight j less ∙ ap₂ (λ a b. a -ℤ pos b *ℤ elements claims ((slot_at slots index).place + j)) before-place (sym multiplier))

      other : eqb slot subgoal ≡ false → Weight false
      other e = other_kept subgoal j (eqb-unequal slot subgoal e) less ∙ (before.weight subgoal j below less ∙ sym (+ℤ_idr old))

  pub m_field : ProgressM fs (suc index) claims slots weights
  m_field =
      record {
        good = λ i less. below_more (λ (k : ℕ). is_multiplier (at fs k) ≡ true) index before.good good_here i (omega arith);
        size = done.size ∙ before.size;
        head = λ j less. weighs.below j (omega arith) ∙ before.head j less;
        weight = weight_after_lem;
      }

pub m_fault : {manner : Manner} {line : Bytes} {s : State} {w : Written} {o : Opened} {index many : ℕ} {claims : List ℤ} {slots : List Slot} {weights₀ weights : List ℤ} {r : Result ℕ Fault} {f : Fault}
    → Passed manner M line s w o → index < length (drop 1 (fields_of line)) → FieldM index (at (drop 1 (fields_of line)) index) many claims slots weights₀ r weights → r ≡ Err f → fault manner w line ≡ number_of f
unfolding tests multiplier_tests first_given
m_fault {line} {index = index} {many} passed less done bad =
    let fs = drop 1 (fields_of line) in
    let found = field_fails many Number (is_multiplier (at fs index)) done.answer bad in
    passed.left ∙ rw (not_every is_multiplier fs [] index less found.0) (ap number_of found.1)

-- ---- sizes

module _ {t : Tables} {s : State} {fs : List Bytes} {index : ℕ} {weights : List ℤ} (safe : Safe t s) where
  subgoal_small : ProgressM fs index t.claims t.slots weights → index ≤ s.slots → (subgoal j : ℕ) → subgoal < 8 → j < 9 → nat_abs (elements weights (suc subgoal * 9 + j)) ≤ 16 * largest
  subgoal_small progress few subgoal j below less =
      rw (progress.weight subgoal j below less)
      (omega (arith, weight_small t.claims t.slots fs subgoal j safe.claims index, slots_few t.slots s.slots s.subgoals safe.slots subgoal index few))

  pub m_room : index < s.slots → ProgressM fs index t.claims t.slots weights → RoomFor weights ((slot_at t.slots index).subgoal + 1)
  m_room few progress =
      let subgoal = (slot_at t.slots index).subgoal in
      record {
        size = progress.size;
        weight = λ j less.
            rw (add-one subgoal, progress.weight subgoal j (omega (arith, safe.slots.subgoal index few, safe.state.subgoals)) less)
            (omega (arith, weight_small t.claims t.slots fs subgoal j safe.claims index, slots_before t.slots s.slots s.subgoals safe.slots index few));
      }

  pub m_summable : index ≤ s.slots → ProgressM fs index t.claims t.slots weights → Summable weights t.rows
  m_summable few progress = record { size = progress.size; weight = λ i. weight i (dec_lt i 9) (dec_lt i 81); row = safe.rows }
    where
      weight : (i : ℕ) → Dec (i < 9) → Dec (i < 81) → nat_abs (elements weights i) ≤ 16 * largest
      weight i (yes low) below = rw (progress.head i low) (omega arith)
      weight i (no high) (yes below) =
          let place = same_place (elements weights) i (suc ((i - 9) / 9) * 9 + i % 9) (omega arith) in
          rw place (subgoal_small progress few ((i - 9) / 9) (i % 9) (omega arith) (omega arith))
      weight i (no high) (no above) =
          let past : length weights ≤ i = omega (arith, progress.size) in
          rw (get_or-eq_default weights (pos 0) past) (omega arith)

-- ---- the line's end

module _ {manner : Manner} {line : Bytes} {t : Tables} {s : State} {w : Written} {o : Opened} {weights₀ weights : List ℤ} {r : Result State Fault} (holds : Holds t s w) (safe : Safe t s) (passed : Passed manner M line s w o)
    (progress : ProgressM (drop 1 (fields_of line)) (length (drop 1 (fields_of line))) t.claims t.slots weights₀)
    (closes : ClosesM s t.claims weights₀ t.rows r weights) where
  pub m_close : ClosedFor manner line w r t
  m_close =
      record {
        answer = residual_answer holds safe passed progress closes;
        holds = λ next done. rw (closes.done next done).0 (m_holds t s w line passed.first holds (has_rule holds safe passed progress closes));
      }

  -- what an unjustified line leaves: weights whose sum is the residual
  pub m_left : (f : Fault) → r ≡ Err f → (f ≡ Unjustified) × (w.pack.rules ≡ [] → ⊥)
      × ((form : Form) → length form.coefficients ≡ 16 → SumsTo weights t.rows (width s.variables) (s.subgoals + 1) form → form_numbers form ≡ residual_due w.pack (multipliers_from (fields_of line)))
  m_left f refused =
      let left = closes.unjustified f refused in (
        left.0,
        has_rule holds safe passed progress closes,
        λ form long sums. sum_numbers holds safe passed progress closes form (rw left.1 at sums) long,
      )

-- ---- whatever the lines write

pub m_left_summable : {t : Tables} {s : State} {fs : List Bytes} {index : ℕ} {weights₀ weights : List ℤ} {r : Result State Fault} {f : Fault}
    → Safe t s → index ≤ s.slots → ProgressM fs index t.claims t.slots weights₀ → ClosesM s t.claims weights₀ t.rows r weights → r ≡ Err f → Summable weights t.rows
m_left_summable {f = f} safe few progress closes refused =
    rw (closes.unjustified f refused).1 (head_summable safe.claims (m_summable safe few progress) closes.head)

pub m_cleared : {s : State} {claims weights₀ : List ℤ} {rows : List ℕ} {r : Result State Fault} {weights : List ℤ} {next : State} → ClosesM s claims weights₀ rows r weights → r ≡ Ok next → NoWeights weights
m_cleared {next = next} closes done = (closes.done next done).1

pub m_safe : {t : Tables} {s : State} {weights₀ weights : List ℤ} {r : Result State Fault} {next : State} → Safe t s → s.multipliers < 16 → ClosesM s t.claims weights₀ t.rows r weights → r ≡ Ok next → Safe t next
m_safe {next = next} safe due closes done =
    rw (closes.done next done).0
    (record {
      sizes = safe.sizes;
      state = record {
        predicates = safe.state.predicates;
        rules = safe.state.rules;
        head = safe.state.head;
        subgoals = safe.state.subgoals;
        variables = safe.state.variables;
        slots = safe.state.slots;
        multipliers = omega arith;
        lines = omega (arith, safe.state.lines);
      };
      signatures = safe.signatures;
      claims = safe.claims;
      rows = safe.rows;
      slots = safe.slots;
    })
