-- A row after both steps: the sum of the arities at its beginning, then the occurrences. It is the term's form.
use mathlib.Core.Path.{◌≡◌, ◌∙◌, ap}
use mathlib.Core.List.{List}
use Prim.Native.Nat.{ℕ, ◌+◌, ◌-◌, ◌≤◌, ◌<◌}
use native.Mathlib.Decide.{dec_le}
use native.Mathlib.Omega.{arith}
use lib.IntN.{pos}
use lib.ListN.{length, get_or, take, set, length-set}
use lib.Seq.{get_or-set_same, get_or-set_other}
use Rattle.groundwork.proofs.Stretches.{replaced}
use Rattle.theory.specs.Text.{Bytes}
use Rattle.theory.specs.Terms.{Term}
use Rattle.theory.specs.Sizes.{sum_of_arities, structural}
use Rattle.theory.proofs.SectionForm.{section_form}
use Rattle.words.specs.declared.Words.{Words}
use Rattle.tokens.specs.declared.Tokens.{Tokens}
use Rattle.tokens.specs.declared.TokenRoom.{TokenRoom}
use Rattle.tokens.specs.TokenRows.{TokensStand}
use Rattle.terms.specs.Constants.{AritiesSummed}
use Rattle.terms.specs.Rows.{OccurrencesStand, Counted}
use Rattle.terms.specs.TermForms.{RowStands, FormTaken}
use Rattle.terms.proofs.AritySums.{term_summed}

-- both parts of a term's size in a row are its form
row_of_parts : (rows : List ℕ) (base : ℕ) (xs : List Bytes) (t : Term) → get_or rows base 0 ≡ sum_of_arities t → OccurrencesStand rows base xs t → RowStands structural rows base xs t
row_of_parts rows base xs t first second = record {
  constant = rw (section_form t).both (ap pos first);
  coefficient = λ i inside. rw (section_form t).both (ap pos (second.counts i inside));
  beyond = λ i outside few. second.zeros i few outside;
}

module _ (field : Bytes) (read : Tokens) (room : TokenRoom) (stand : TokensStand field read room) where
  module _ (sum : ℕ) (first : AritiesSummed (take read.symbols room.arities) sum) (names₀ : List Words) (known : ℕ) (rows₀ : List ℕ) (base r : ℕ) (names : List Words) (counts : List ℕ) (fits : base + 17 ≤ 1224) (second : Counted field names₀ known rows₀ base r names counts) where
    abbrev rows : List ℕ
    rows = set counts base sum

    elsewhere : (i : ℕ) → (i ≡ base → ⊥) → get_or rows i 0 ≡ get_or counts i 0
    elsewhere i other = get_or-set_other counts base i sum 0 other

    counted_fits : ((i : ℕ) → get_or rows₀ i 0 < 65536) → (i : ℕ) → Dec (i ≤ base) → Dec (base + 17 ≤ i) → get_or counts i 0 < 65536
    counted_fits safe i (yes low) d = rw (second.elsewhere.below i low) (safe i)
    counted_fits safe i (no low) (yes high) = rw (second.elsewhere.above i high) (safe i)
    counted_fits safe i (no low) (no high) =
        let place : i ≡ base + 1 + (i - (base + 1)) = omega arith in
        rw place (omega (arith, second.small.small (i - (base + 1)) (omega arith)))

    occurrences_kept : (xs : List Bytes) (t : Term) → length xs ≤ 16 → OccurrencesStand counts base xs t → OccurrencesStand rows base xs t
    occurrences_kept xs t few kept = record {
      counts = λ i inside. elsewhere (base + 1 + i) (λ e. omega arith) ∙ kept.counts i inside;
      zeros = λ i low past. elsewhere (base + 1 + i) (λ e. omega arith) ∙ kept.zeros i low past;
    }

    pub form_taken : FormTaken structural field names₀ known rows₀ base r names rows
    form_taken = record {
      high = second.high;
      full = second.full;
      size = length-set counts base sum ∙ second.elsewhere.size;
      below = λ i low. elsewhere i (λ e. omega arith) ∙ second.elsewhere.below i (omega arith);
      above = λ i high. elsewhere i (λ e. omega arith) ∙ second.elsewhere.above i high;
      small = λ safe i. replaced (λ (n : ℕ). n < 65536) counts base i sum 0 (omega (arith, first.small)) (counted_fits safe i (dec_le i base) (dec_le (base + 17) i));
      name_size = second.name_size;
      from = λ seen holds number size t e.
          let found = second.from seen holds number size t e in
          let constant = get_or-set_same counts base sum 0 (omega (arith, second.elsewhere.size)) ∙ term_summed first stand.symbols t e in
          record {
            few = found.few;
            many = found.many;
            holds = found.holds;
            row = λ within. row_of_parts rows base _ t constant (occurrences_kept _ t (found.holds within).few (found.row within));
          };
    }
