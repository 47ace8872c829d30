-- A row of counts, when the variable at one of its places occurs once more, or a new variable takes the next place.
use mathlib.Core.Path.{◌≡◌, sym, ◌∙◌}
use mathlib.Core.Bool.{false}
use mathlib.Core.List.{List, [], ◌∷◌, ◌++◌}
use Prim.Native.Nat.{ℕ, ◌+◌, ◌≤◌, ◌<◌}
use native.Mathlib.Decide.{ℕ_discrete}
use native.Mathlib.Omega.{arith}
use lib.ListN.{length, get_or}
use lib.Seq.{get_or-set_same, get_or-set_other}
use Rattle.groundwork.proofs.Lists.{length_end}
use Rattle.theory.specs.Text.{Bytes, among}
use Rattle.theory.specs.Sizes.{occurrences}
use Rattle.theory.specs.Residuals.{numbered}
use Rattle.theory.proofs.Judging.Variables.{Once}
use Rattle.theory.specs.Packs.{variable_limit}
use Rattle.terms.proofs.RowStores.{count_at, counted_at}
use Rattle.terms.proofs.Counting.{occurrences_same, count_elsewhere, count_next, count_before}

-- the row at base counts the occurrences of these variables in a list, with zeros after
pub record RowCounts (rows : List ℕ) (base : ℕ) (all xs : List Bytes) : Type 0 where
  pub counts : (i : ℕ) → i < length all → count_at rows base i ≡ occurrences (get_or all i []) xs
  pub zeros : (i : ℕ) → i < variable_limit → length all ≤ i → count_at rows base i ≡ 0

module _ (rows : List ℕ) (base at : ℕ) (free : at < 16) (room : base + 17 ≤ length rows) where
  at_other : (i : ℕ) → (i ≡ at → ⊥) → count_at (counted_at rows base at) base i ≡ count_at rows base i
  at_other i other = get_or-set_other rows (base + 1 + at) (base + 1 + i) (count_at rows base at + 1) 0 (λ e. other (omega arith))

  at_place : count_at (counted_at rows base at) base at ≡ count_at rows base at + 1
  at_place = get_or-set_same rows (base + 1 + at) (count_at rows base at + 1) 0 (omega arith)

  -- the counts, where those to be differ at one place only
  counts_by : (bound : ℕ) (to-be : ℕ → ℕ) → count_at rows base at + 1 ≡ to-be at → ((i : ℕ) → i < bound → (i ≡ at → ⊥) → count_at rows base i ≡ to-be i) → (i : ℕ) → i < bound → count_at (counted_at rows base at) base i ≡ to-be i
  counts_by bound to-be here others i k = by (ℕ_discrete i at)
    where
      by : Dec (i ≡ at) → count_at (counted_at rows base at) base i ≡ to-be i
      by (yes e) = rw e (at_place ∙ here)
      by (no other) = at_other i other ∙ others i k other

module _ (rows : List ℕ) (base : ℕ) (room : base + 17 ≤ length rows) where
  pub row_known : (all done : List Bytes) (at : ℕ) → length all ≤ 16 → Once all → at < length all → RowCounts rows base all done → RowCounts (counted_at rows base at) base all (done ++ (get_or all at [] ∷ []))
  row_known all done at few once inside row =
      let free : at < 16 = omega arith in
      record {
        counts =
            counts_by rows base at free room (length all) (λ i. occurrences (get_or all i []) (done ++ (get_or all at [] ∷ [])))
            (omega (arith, row.counts at inside, occurrences_same (get_or all at []) done))
            (λ i h other. row.counts i h ∙ sym (count_elsewhere all done at inside once i h other));
        zeros = λ i h k. at_other rows base at free room i (λ e. omega arith) ∙ row.zeros i h k;
      }

  module _ (seen done : List Bytes) (x : Bytes) (new : among x (numbered seen done) ≡ false) where
    abbrev all : List Bytes
    all = numbered seen done

    abbrev longer : List Bytes
    longer = all ++ (x ∷ [])

    pub row_new : length all < 16 → RowCounts rows base all done → RowCounts (counted_at rows base (length all)) base longer (done ++ (x ∷ []))
    row_new free row =
        record {
          counts =
              counts_by rows base (length all) free room (length longer) (λ i. occurrences (get_or longer i []) (done ++ (x ∷ [])))
              (omega (arith, row.zeros (length all) free (omega arith), count_next seen done x new))
              (λ i h other. let inside : i < length all = omega (arith, length_end all x) in row.counts i inside ∙ sym (count_before seen done x new i inside));
          zeros = λ i h k. let after : length all < i = omega (arith, length_end all x) in at_other rows base (length all) free room i (λ e. omega arith) ∙ row.zeros i h (omega arith);
        }
