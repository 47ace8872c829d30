-- The loop over the fields of a line: before the first, what a field needs, and after it.
use mathlib.Core.Path.{◌≡◌, refl, sym, ◌∙◌, ap, subst, subst⁻¹}
use mathlib.Core.List.{List, []}
use Prim.Native.Nat.{ℕ, suc, ◌+◌, ◌-◌, ◌≤◌, ◌<◌}
use native.Mathlib.Numerals.{add-one}
use native.Mathlib.Omega.{arith}
use lib.IntN.{pos}
use lib.ListN.{length, drop, replicate, length-take, length-drop}
use lib.Seq.{drop-drop, get_or-drop}
use Rattle.std.specs.Prelude.{Result, Ok, Err}
use Rattle.groundwork.proofs.Lists.{same_everywhere}
use Rattle.theory.specs.declared.Letter.{Letter}
use Rattle.theory.specs.declared.Letter.TheVariants.{P, C, G, H, B, M, E, NoLetter}
use Rattle.theory.specs.Text.{Bytes, fields_of}
use Rattle.theory.specs.Sizes.{structural}
use Rattle.theory.specs.Packs.{measure_in}
use Rattle.theory.specs.Written.{Written}
use Rattle.theory.specs.Faults.{Manner, fault, is_claim_number, is_multiplier}
use Rattle.text.specs.Scans.{part, parts_from, Finds}
use Rattle.text.proofs.Cuts.{parts_step, parts_done}
use Rattle.tables.specs.declared.State.{State}
use Rattle.tables.specs.declared.Fault.{Fault}
use Rattle.tables.specs.declared.Fault.TheVariants.{Number}
use Rattle.tables.specs.declared.Opened.{Opened}
use Rattle.tables.specs.Faults.{number_of}
use Rattle.tables.specs.Sorts.{Sort, declaring, numbering, stating, following, multiplying, ending, none, sort_of}
use Rattle.tables.specs.Tables.{Tables, Holds, NoWeights, Safe}
use Rattle.tables.specs.Lines.{skipped, most, Passed, at}
use Rattle.tables.proofs.Outcomes.{field_fails}
use Rattle.declarations.proofs.ClaimLines.{c_begin, c_field, c_count, c_fault}
use Rattle.atoms.specs.Fields.{FieldTerm}
use Rattle.atoms.proofs.TermFields.{t_misread, t_high}
use Rattle.atoms.proofs.AtomLines.{first_begin, first_field}
use Rattle.facts.proofs.FactLines.{g_fault}
use Rattle.rules.proofs.HeadLines.{h_fault}
use Rattle.rules.proofs.SubgoalLines.{b_begin, b_field, b_fault}
use Rattle.certificates.proofs.MultiplierLines.{m_begin, m_field, m_count, m_room, m_fault}
use Rattle.lines.specs.declared.Room.{Room}
use Rattle.lines.specs.Steps.{after_term, FieldNeeds, FieldLeaves, FieldReady, FieldDone, variables_before, Progress}
use Rattle.lines.specs.Between.{SafeRoom, Untouched, Weighed, FieldsRead}

-- the fields of a line that are read one by one
abbrev pub fields_from : Bytes → Opened → List Bytes
fields_from line o = parts_from 44 line o.from

-- ---- before the first field

-- the room before a field is read: it has the tables of the last rule, and no number of a claim
pub record Emptied (t : Tables) (x : Room) : Type 0 where
  pub row : x.row ≡ replicate 9 (pos 0)
  pub variables : x.variables ≡ t.variables
  pub rows : x.rows ≡ t.rows
  pub slots : x.slots ≡ t.slots

untouched_begin : (sort : Sort) (t : Tables) (x : Room) → Emptied t x → NoWeights x.weights → Untouched sort t x
untouched_begin declaring t x is clear = (is.variables, is.rows, clear)
untouched_begin numbering t x is clear = (is.variables, is.rows, clear)
untouched_begin stating t x is clear = clear
untouched_begin following t x is clear = clear
untouched_begin multiplying t x is clear = (is.variables, is.rows)
untouched_begin ending t x is clear = (is.variables, is.rows, clear)
untouched_begin none t x is clear = clear

weighed_begin : (sort : Sort) (fs : List Bytes) (t : Tables) (x : Room) → NoWeights x.weights → Weighed sort fs 0 t x
weighed_begin declaring fs t x clear = tt
weighed_begin numbering fs t x clear = tt
weighed_begin stating fs t x clear = tt
weighed_begin following fs t x clear = tt
weighed_begin multiplying fs t x clear = m_begin fs t.claims t.slots x.weights clear
weighed_begin ending fs t x clear = tt
weighed_begin none fs t x clear = tt

variables_high : (sort : Sort) (s : State) → s.variables ≤ 16 → variables_before sort s ≤ 17
variables_high declaring s few = omega arith
variables_high numbering s few = omega arith
variables_high stating s few = omega arith
variables_high following s few = omega arith
variables_high multiplying s few = omega arith
variables_high ending s few = omega arith
variables_high none s few = omega arith

progress_begin : (letter : Letter) {manner : Manner} {line : Bytes} {t : Tables} {s : State} {o : Opened} {x : Room} → Safe t s → Emptied t x → NoWeights x.weights → (w : Written) → Holds t s w → Passed manner letter line s w o
    → Progress (sort_of letter) line w s t 0 (variables_before (sort_of letter) s) x
progress_begin P safe is clear w holds passed = tt
progress_begin C {line = line} safe is clear w holds passed = rw is.row (c_begin (drop 2 (fields_of line)) (replicate 9 (pos 0)))
progress_begin G {line = line} {t} safe is clear w holds passed = rw (is.variables, is.rows) (first_begin (measure_in w.pack) (drop 2 (fields_of line)) t.variables t.rows safe.sizes.variables)
progress_begin H {line = line} {t} safe is clear w holds passed = rw (is.variables, is.rows) (first_begin (measure_in w.pack) (drop 2 (fields_of line)) t.variables t.rows safe.sizes.variables)
progress_begin B {line = line} safe is clear w holds passed = rw (is.variables, is.rows) (b_begin line holds passed.stands)
progress_begin M {line = line} {t} {x = x} safe is clear w holds passed = m_begin (drop 1 (fields_of line)) t.claims t.slots x.weights clear
progress_begin E safe is clear w holds passed = tt
progress_begin NoLetter safe is clear w holds passed = passed.named

pub fields_begin : (letter : Letter) {line : Bytes} {t : Tables} {s : State} {o : Opened} {x : Room} → Safe t s → Emptied t x → NoWeights x.weights
    → FieldsRead letter line t s o (variables_before (sort_of letter) s) o.from 0 x
fields_begin letter {line} {t} {s} {o} {x} safe is clear = record {
  rest = refl;
  low = omega arith;
  count = omega arith;
  high = variables_high (sort_of letter) s safe.state.variables;
  room = record {
    row_small = λ i. rw (is.row, same_everywhere (pos 0) 9 i) (omega arith);
    variables_size = ap length is.variables ∙ safe.sizes.variables;
    rows_size = ap length is.rows ∙ safe.sizes.rows;
    rows = rw is.rows safe.rows;
  };
  slots = is.slots;
  untouched = untouched_begin (sort_of letter) t x is clear;
  weighed = weighed_begin (sort_of letter) (parts_from 44 line o.from) t x clear;
  tells = progress_begin letter safe is clear;
}

-- ---- a field

module _ {line : Bytes} {t : Tables} {s : State} {o : Opened} (safe : Safe t s) (short : length line ≤ 1024) where
  module _ (letter : Letter) (few : length (fields_from line o) ≤ most (sort_of letter) s) {many from index : ℕ} {x₀ : Room} (read : FieldsRead letter line t s o many from index x₀) where
    module _ {stop : ℕ} (inside : from ≤ length line) (finds : Finds line 44 from stop) where
      -- the field found is the one at place `index`, and the others follow it
      next : parts_from 44 line (stop + 1) ≡ drop (index + 1) (fields_from line o)
      next = ap (drop 1) (sym (parts_step 44 line from stop inside finds) ∙ read.rest) ∙ drop-drop 1 index (fields_from line o)

      count_next : index + 1 + length (parts_from 44 line (stop + 1)) ≡ length (fields_from line o)
      count_next = omega (arith, read.count, ap length (parts_step 44 line from stop inside finds))

      less : index < length (fields_from line o)
      less = omega (arith, count_next)

      here : part line from stop ≡ at (fields_from line o) index
      here =
          let place : index + 0 ≡ index = omega arith in
          ap (λ (fs : List Bytes). at fs 0) (sym (parts_step 44 line from stop inside finds) ∙ read.rest) ∙ get_or-drop index (fields_from line o) 0 [] ∙ ap (at (fields_from line o)) place

      short_part : length (part line from stop) ≤ 1024
      short_part = omega (arith, length-take (stop - from) (drop from line), length-drop from line)

      few_slots : s.slots ≤ 128
      few_slots = omega (arith, safe.state.slots, safe.state.subgoals)

      ready : (sort : Sort) → length (fields_from line o) ≤ most sort s → Weighed sort (fields_from line o) index t x₀ → FieldNeeds sort index (part line from stop) s many t.claims x₀
      ready declaring few weighed = absurd (omega (arith, less))
      ready numbering few weighed = omega (arith, less)
      ready stating few weighed = (omega (arith, less), short_part, read.high)
      ready following few weighed = (omega (arith, less), short_part, read.high)
      ready multiplying few weighed =
          let slot : index < s.slots = omega (arith, less) in
          (omega (arith, few_slots), rw read.slots (safe.slots.place index slot), rw read.slots (omega (arith, safe.slots.subgoal index slot, safe.state.subgoals)), safe.claims, rw read.slots (m_room safe slot weighed))
      ready ending few weighed = absurd (omega (arith, less))
      ready none few weighed = absurd (omega (arith, less))

      pub fields_ready : FieldReady letter index (part line from stop) s many t.claims x₀
      fields_ready = record { of = λ sort e. subst (λ (k : Sort). FieldNeeds k index (part line from stop) s many t.claims x₀) e (ready (sort_of letter) few read.weighed) }

      -- the field by its place in the line
      placed : {manner : Manner} {l : Letter} {w : Written} → Passed manner l line s w o → part line from stop ≡ at (drop (skipped (sort_of l)) (fields_of line)) index
      placed passed = here ∙ ap (λ (fs : List Bytes). at fs index) passed.rest

      within : {manner : Manner} {l : Letter} {w : Written} → Passed manner l line s w o → index < length (drop (skipped (sort_of l)) (fields_of line))
      within passed = omega (arith, less, ap length passed.rest)

      module _ {r : Result ℕ Fault} (x : Room) where
        -- ---- a field that is misread

        misread : (letter : Letter) → length (fields_from line o) ≤ most (sort_of letter) s → FieldLeaves (sort_of letter) index (part line from stop) s many t.claims x₀ r x → (f : Fault) → r ≡ Err f
            → {manner : Manner} (w : Written) → Holds t s w → Passed manner letter line s w o → fault manner w line ≡ number_of f
        misread P few done f bad w holds passed = absurd done
        misread C few done f bad w holds passed = c_fault line s w o index many x₀.row x.row r f passed (within passed) (rw (placed passed) at done.0) bad
        misread G few done f bad w holds passed = g_fault passed (within passed) (rw (placed passed) at done.0) bad
        misread H few done f bad w holds passed = h_fault passed (within passed) (rw (placed passed) at done.0) bad
        misread B few done f bad w holds passed = b_fault passed (within passed) (rw (placed passed) at done.0) bad
        misread M few done f bad w holds passed = m_fault passed (within passed) (rw (placed passed, read.slots) at done.0) bad
        misread E few done f bad w holds passed = absurd done
        misread NoLetter few done f bad w holds passed = absurd done

        -- a field's fault is never the last one
        early : (sort : Sort) → length (fields_from line o) ≤ most sort s → FieldLeaves sort index (part line from stop) s many t.claims x₀ r x → (f : Fault) → r ≡ Err f → number_of f ≤ 11
        early declaring few done f bad = absurd done
        early numbering few done f bad = omega (arith, ap number_of (field_fails many Number (is_claim_number (part line from stop)) done.0.answer bad).1)
        early stating few done f bad = omega (arith, ap number_of (t_misread done.0 bad))
        early following few done f bad = omega (arith, ap number_of (t_misread done.0 bad))
        early multiplying few done f bad = omega (arith, ap number_of (field_fails many Number (is_multiplier (part line from stop)) done.0.answer bad).1)
        early ending few done f bad = absurd done
        early none few done f bad = absurd done

        -- ---- a field that is read

        module _ {n : ℕ} (good : r ≡ Ok n) where
          -- the room after a term
          term_room : {atom : ℕ} → FieldTerm structural atom index (part line from stop) many x₀.variables x₀.rows r x.variables x.rows → SafeRoom (after_term x₀ x)
          term_room done = record {
            row_small = read.room.row_small;
            variables_size = done.sizes.0 ∙ read.room.variables_size;
            rows_size = done.sizes.1 ∙ read.room.rows_size;
            rows = done.small read.room.rows;
          }

          room_after : (sort : Sort) → FieldLeaves sort index (part line from stop) s many t.claims x₀ r x → SafeRoom x
          room_after declaring done = absurd done
          room_after numbering done = subst⁻¹ SafeRoom done.1 (record {
            row_small = done.0.small read.room.row_small;
            variables_size = read.room.variables_size;
            rows_size = read.room.rows_size;
            rows = read.room.rows;
          })
          room_after stating done = subst⁻¹ SafeRoom done.1 (term_room done.0)
          room_after following done = subst⁻¹ SafeRoom done.1 (term_room done.0)
          room_after multiplying done = subst⁻¹ SafeRoom done.1 (record {
            row_small = read.room.row_small;
            variables_size = read.room.variables_size;
            rows_size = read.room.rows_size;
            rows = read.room.rows;
          })
          room_after ending done = absurd done
          room_after none done = absurd done

          slots_after : (sort : Sort) → FieldLeaves sort index (part line from stop) s many t.claims x₀ r x → x.slots ≡ t.slots
          slots_after declaring done = absurd done
          slots_after numbering done = ap (λ (y : Room). y.slots) done.1 ∙ read.slots
          slots_after stating done = ap (λ (y : Room). y.slots) done.1 ∙ read.slots
          slots_after following done = ap (λ (y : Room). y.slots) done.1 ∙ read.slots
          slots_after multiplying done = ap (λ (y : Room). y.slots) done.1 ∙ read.slots
          slots_after ending done = absurd done
          slots_after none done = absurd done

          high_after : (sort : Sort) → length (fields_from line o) ≤ most sort s → FieldLeaves sort index (part line from stop) s many t.claims x₀ r x → n ≤ 17
          high_after declaring few done = absurd done
          high_after numbering few done = omega (arith, c_count done.0 good, read.high)
          high_after stating few done = t_high done.0 good
          high_after following few done = t_high done.0 good
          high_after multiplying few done = omega (arith, m_count done.0 good, read.high)
          high_after ending few done = absurd done
          high_after none few done = absurd done

          untouched_after : (sort : Sort) → FieldLeaves sort index (part line from stop) s many t.claims x₀ r x → Untouched sort t x₀ → Untouched sort t x
          untouched_after declaring done before = absurd done
          untouched_after numbering done before = subst⁻¹ (Untouched numbering t) done.1 before
          untouched_after stating done before = subst⁻¹ (Untouched stating t) done.1 before
          untouched_after following done before = subst⁻¹ (Untouched following t) done.1 before
          untouched_after multiplying done before = subst⁻¹ (Untouched multiplying t) done.1 before
          untouched_after ending done before = absurd done
          untouched_after none done before = absurd done

          weighed_after : (sort : Sort) → FieldLeaves sort index (part line from stop) s many t.claims x₀ r x → Weighed sort (fields_from line o) index t x₀ → Weighed sort (fields_from line o) (suc index) t x
          weighed_after declaring done before = tt
          weighed_after numbering done before = tt
          weighed_after stating done before = tt
          weighed_after following done before = tt
          weighed_after multiplying done before = m_field before (rw (here, read.slots) at done.0) good
          weighed_after ending done before = tt
          weighed_after none done before = tt

          -- a sort's own laws, one field on, by the fields' places in the line
          progress : (sort : Sort) → length (fields_from line o) ≤ most sort s → FieldLeaves sort index (part line from stop) s many t.claims x₀ r x → part line from stop ≡ at (drop (skipped sort) (fields_of line)) index → index < length (drop (skipped sort) (fields_of line))
              → (w : Written) → Progress sort line w s t index many x₀ → Progress sort line w s t (suc index) n x
          progress declaring few done is inside w before = absurd done
          progress numbering few done is inside w before = c_field (drop 2 (fields_of line)) index many x₀.row x.row r n before (rw is at done.0) good
          progress stating few done is inside w before = first_field (omega (arith, less)) inside read.room.rows_size before (rw is at done.0) good
          progress following few done is inside w before = b_field (omega (arith, less)) inside read.room.rows_size before (rw is at done.0) good
          progress multiplying few done is inside w before = m_field before (rw (is, read.slots) at done.0) good
          progress ending few done is inside w before = tt
          progress none few done is inside w before = before

      pub fields_fault : {r : Result ℕ Fault} (x : Room) → FieldDone letter index (part line from stop) s many t.claims x₀ r x → (f : Fault) → r ≡ Err f
          → {manner : Manner} (w : Written) → Holds t s w → Passed manner letter line s w o → fault manner w line ≡ number_of f
      fields_fault x done = misread x letter few (done.of (sort_of letter) refl)

      pub fields_early : {r : Result ℕ Fault} (x : Room) → FieldDone letter index (part line from stop) s many t.claims x₀ r x → (f : Fault) → r ≡ Err f → number_of f ≤ 11
      fields_early x done = early x (sort_of letter) few (done.of (sort_of letter) refl)

      pub fields_more : {r : Result ℕ Fault} (x : Room) → FieldDone letter index (part line from stop) s many t.claims x₀ r x → {n : ℕ} → r ≡ Ok n → FieldsRead letter line t s o n (stop + 1) (index + 1) x
      fields_more x done good = record {
        rest = next;
        low = omega (arith, read.low, finds.low);
        count = count_next;
        high = high_after x good (sort_of letter) few (done.of (sort_of letter) refl);
        room = room_after x good (sort_of letter) (done.of (sort_of letter) refl);
        slots = slots_after x good (sort_of letter) (done.of (sort_of letter) refl);
        untouched = untouched_after x good (sort_of letter) (done.of (sort_of letter) refl) read.untouched;
        weighed = rw (add-one index) (weighed_after x good (sort_of letter) (done.of (sort_of letter) refl) read.weighed);
        tells = λ w holds passed. rw (add-one index) (progress x good (sort_of letter) few (done.of (sort_of letter) refl) (placed passed) (within passed) w (read.tells w holds passed));
      }

    -- past the line's end all are read
    pub fields_all : length line < from → index ≡ length (fields_from line o)
    fields_all past = omega (arith, read.count, ap length (parts_done 44 line from past))
