-- The table of a rule's variables and a row that counts them, when some variables have been counted: one variable more.
use mathlib.Core.Path.{◌≡◌, refl, sym, ap}
use mathlib.Core.Bool.{true, false}
use mathlib.Core.List.{List, [], ◌∷◌, ◌++◌}
use Prim.Native.Nat.{ℕ, ◌+◌, ◌≤◌, ◌<◌}
use native.Mathlib.Omega.{arith}
use lib.ListN.{length, get_or}
use Rattle.groundwork.proofs.Lists.{length_end}
use Rattle.theory.specs.Text.{Bytes, among, is_variable}
use Rattle.theory.specs.Terms.{Term, variables}
use Rattle.theory.specs.Sizes.{occurrences, occurrences_in}
use Rattle.theory.specs.Residuals.{numbered}
use Rattle.words.specs.Words.{words_of}
use Rattle.words.specs.declared.Words.{Words}
use Rattle.terms.specs.Rows.{Holds, OccurrencesStand, VariablesTabled, CountsOne, known_already, one_more_lem, none_left, past}
use Rattle.terms.proofs.Numbering.{place_among, numbered_end_known, numbered_end_new, numbered_grows}
use Rattle.terms.proofs.VariableTable.{found_is, not_found, holds_more}
use Rattle.terms.proofs.RowCounting.{RowCounts, row_known, row_new}

-- the variables seen before and those counted are in the table, and the row counts them; or they are more than 16
pub data Tallied (seen done : List Bytes) (base many : ℕ) (names : List Words) (rows : List ℕ) : Type 0 where
  all_placed : many ≡ length (numbered seen done) → Holds names (numbered seen done) → RowCounts rows base (numbered seen done) done → Tallied seen done base many names rows
  too_many : many ≡ 17 → 16 < length (numbered seen done) → Tallied seen done base many names rows

-- none counted yet
pub none_tallied : {seen : List Bytes} {base known : ℕ} {names : List Words} {rows : List ℕ} → Holds names seen → length seen ≡ known → ((i : ℕ) → i < 16 → get_or rows (base + 1 + i) 0 ≡ 0) → Tallied seen [] base known names rows
unfolding numbered occurrences
none_tallied holds number zeros = all_placed (sym number) holds (record { counts = λ i h. zeros i (omega (arith, holds.few)); zeros = λ i h _. zeros i h })

-- all variables of a term counted
pub tally_counted : {seen : List Bytes} (t : Term) {base many : ℕ} {names : List Words} {rows : List ℕ} → Tallied seen (variables t) base many names rows → VariablesTabled (λ xs. OccurrencesStand rows base xs t) seen t many names
unfolding occurrences_in
tally_counted t (all_placed number holds row) =
    record { few = λ h. number; many = λ h. absurd (omega (arith, holds.few)); holds = λ h. holds; row = λ h. record { counts = row.counts; zeros = row.zeros } }
tally_counted t (too_many number more) = record { few = λ h. absurd (omega arith); many = λ h. number; holds = λ h. absurd (omega arith); row = λ h. absurd (omega arith) }

module _ (seen done : List Bytes) (x : Bytes) (proper : is_variable x ≡ true) (base : ℕ) where
  abbrev all : List Bytes
  all = numbered seen done

  abbrev next : List Bytes
  next = done ++ (x ∷ [])

  pub one_tallied : {many : ℕ} {names : List Words} {rows : List ℕ} {r : ℕ} {names₁ : List Words} {rows₁ : List ℕ} → base + 17 ≤ length rows → Tallied seen done base many names rows → CountsOne (words_of x) names many rows base r names₁ rows₁ → Tallied seen next base r names₁ rows₁
  one_tallied {rows = rows} room (all_placed count holds row) (known_already at inside few place stored) =
      let here : get_or all at [] ≡ x = found_is x holds proper at (omega arith) (rw count at place) in
      let same : numbered seen next ≡ all = numbered_end_known seen done x (place_among x all at (omega arith) here) in
      all_placed (rw same count) (rw same holds) (rw (same, stored, ← here) (row_known rows base room all done at (omega arith) holds.once (omega arith) row))
  one_tallied {rows = rows} room (all_placed count holds row) (one_more_lem few place named stored) =
      let new : among x all ≡ false = not_found x holds proper (rw count at place) in
      let more : numbered seen next ≡ all ++ (x ∷ []) = numbered_end_new seen done x new in
      all_placed
      (omega (arith, ap length more, length_end all x))
      (rw (more, named, count) (holds_more x holds proper new (omega arith)))
      (rw (more, stored, count) (row_new rows base room seen done x new (omega arith) row))
  one_tallied room (all_placed count holds row) (none_left full place) =
      let more : numbered seen next ≡ all ++ (x ∷ []) = numbered_end_new seen done x (not_found x holds proper (rw count at place)) in
      too_many refl (omega (arith, ap length more, length_end all x))
  one_tallied room (all_placed count holds row) (past full) = absurd (omega (arith, holds.few))
  one_tallied room (too_many count more) (known_already at inside few place stored) = absurd (omega arith)
  one_tallied room (too_many count more) (one_more_lem few place named stored) = absurd (omega arith)
  one_tallied room (too_many count more) (none_left full place) = absurd (omega arith)
  one_tallied room (too_many count more) (past full) = too_many refl (omega (arith, numbered_grows seen done x))
