-- Both steps of a term's size (000, section 1.4), one after the other: the term's form, in a row of a table.
use Rattle.std.specs.Prelude.{◌≡◌, List, [], ℕ, ◌+◌, ◌≤◌, ◌<◌, pos, length, get_or}
use Rattle.std.proofs.Math.Option.{some}
use Rattle.theory.specs.Text.{Bytes}
use Rattle.theory.specs.Terms.{Term, read_term}
use Rattle.theory.specs.Sizes.{Measure}
use Rattle.theory.specs.Forms.{form_of}
use Rattle.theory.specs.Packs.{variable_limit}
use Rattle.words.specs.declared.Words.{Words}
use Rattle.terms.specs.Rows.{Holds, VariablesTabled}

-- the row from base on is the form of a term, by a measure, over a rule's variables, zeros after the last
pub record RowStands (m : Measure) (rows : List ℕ) (base : ℕ) (xs : List Bytes) (t : Term) : Type 0 where
  pub constant : pos (get_or rows base 0) ≡ (form_of m t).constant
  pub coefficient : (i : ℕ) → i < length xs → pos (get_or rows (base + 1 + i) 0) ≡ (form_of m t).coefficient (get_or xs i [])
  pub beyond : (i : ℕ) → length xs ≤ i → i < variable_limit → get_or rows (base + 1 + i) 0 ≡ 0

-- What the two steps leave of a field that is a term, whatever variables the table held before: the form by a measure.
pub record FormTaken (m : Measure) (field : Bytes) (names₀ : List Words) (known : ℕ) (rows₀ : List ℕ) (base r : ℕ) (names : List Words) (rows : List ℕ) : Type 0 where
  pub high : r ≤ variable_limit + 1
  pub full : variable_limit < known → r ≡ variable_limit + 1
  pub size : length rows ≡ length rows₀
  pub below : (i : ℕ) → i < base → get_or rows i 0 ≡ get_or rows₀ i 0
  pub above : (i : ℕ) → base + 17 ≤ i → get_or rows i 0 ≡ get_or rows₀ i 0
  pub small : ((i : ℕ) → get_or rows₀ i 0 < 65536) → (i : ℕ) → get_or rows i 0 < 65536
  pub name_size : length names ≡ length names₀
  pub from : (seen : List Bytes) → Holds names₀ seen → length seen ≡ known → length rows₀ ≡ 1224 → (t : Term) → read_term field ≡ some t → VariablesTabled (λ xs. RowStands m rows base xs t) seen t r names
