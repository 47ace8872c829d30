-- The second step of a term's size (000, section 1.4): a rule's variables in a table of words, and a row that counts how often
-- each occurs in the term.
use Rattle.std.specs.Prelude.{◌≡◌, List, [], ℕ, ◌+◌, ◌≤◌, ◌<◌, length, get_or, set, true}
use Rattle.std.proofs.Math.Option.{some}
use Rattle.theory.specs.Text.{Bytes, is_variable}
use Rattle.theory.specs.Terms.{Term, read_term, variables}
use Rattle.theory.specs.Sizes.{occurrences_in}
use Rattle.theory.specs.Packs.{line_limit, variable_limit}
use Rattle.theory.specs.Residuals.{numbered}
use Rattle.theory.proofs.Judging.Variables.{Once}
use Rattle.words.specs.Words.{words_of, words_at, StandsAt}
use Rattle.words.specs.declared.Words.{Words}

-- the table holds the words of these variables, each once
pub record Holds (names : List Words) (seen : List Bytes) : Type 0 where
  pub size : length names ≡ 32
  pub few : length seen ≤ variable_limit
  pub words : (i : ℕ) → i < length seen → words_at names i ≡ words_of (get_or seen i [])
  pub proper : (i : ℕ) → i < length seen → is_variable (get_or seen i []) ≡ true
  pub once : Once seen

-- all but the sixteen counts of the row at base are as they were
pub record Elsewhere (rows₀ : List ℕ) (base : ℕ) (rows : List ℕ) : Type 0 where
  pub size : length rows ≡ length rows₀
  pub below : (i : ℕ) → i ≤ base → get_or rows i 0 ≡ get_or rows₀ i 0
  pub above : (i : ℕ) → base + 17 ≤ i → get_or rows i 0 ≡ get_or rows₀ i 0

-- the first n of them are 0
pub record Cleared (rows₀ : List ℕ) (base : ℕ) (rows : List ℕ) (n : ℕ) : Type 0 where
  pub elsewhere : Elsewhere rows₀ base rows
  pub zeros : (i : ℕ) → i < n → get_or rows (base + 1 + i) 0 ≡ 0

-- the row counts no more than a line has bytes
pub record SmallRow (rows : List ℕ) (base : ℕ) : Type 0 where
  pub small : (i : ℕ) → i < variable_limit → get_or rows (base + 1 + i) 0 ≤ line_limit

-- one occurrence more of the variable with these words: it has a place already, or takes the next one, or there is none left
pub data CountsOne (words : Words) (names₀ : List Words) (known : ℕ) (rows₀ : List ℕ) (base : ℕ) : ℕ → List Words → List ℕ → Type 0 where
  known_already : {rows : List ℕ} (at : ℕ) → at < known → known ≤ variable_limit → StandsAt (words_at names₀) known words at
      → rows ≡ set rows₀ (base + 1 + at) (get_or rows₀ (base + 1 + at) 0 + 1) → CountsOne words names₀ known rows₀ base known names₀ rows
  one_more_lem : {names : List Words} {rows : List ℕ} → known < variable_limit → StandsAt (words_at names₀) known words known
      → names ≡ set names₀ known words → rows ≡ set rows₀ (base + 1 + known) (get_or rows₀ (base + 1 + known) 0 + 1)
      → CountsOne words names₀ known rows₀ base (known + 1) names rows
  none_left : known ≡ variable_limit → StandsAt (words_at names₀) known words known → CountsOne words names₀ known rows₀ base (variable_limit + 1) names₀ rows₀
  past : variable_limit < known → CountsOne words names₀ known rows₀ base (variable_limit + 1) names₀ rows₀

-- the row at base has, for each of these variables, how often it occurs in a term, with zeros after the last
pub record OccurrencesStand (rows : List ℕ) (base : ℕ) (xs : List Bytes) (t : Term) : Type 0 where
  pub counts : (i : ℕ) → i < length xs → get_or rows (base + 1 + i) 0 ≡ occurrences_in t (get_or xs i [])
  pub zeros : (i : ℕ) → i < variable_limit → length xs ≤ i → get_or rows (base + 1 + i) 0 ≡ 0

-- the table holds the variables of a term after those seen before, r is how many they are, and there is a row for them; or they
-- are too many
pub record VariablesTabled (Row : List Bytes → Type 0) (seen : List Bytes) (t : Term) (r : ℕ) (names : List Words) : Type 0 where
  pub few : length (numbered seen (variables t)) ≤ variable_limit → r ≡ length (numbered seen (variables t))
  pub many : variable_limit < length (numbered seen (variables t)) → r ≡ variable_limit + 1
  pub holds : r ≤ variable_limit → Holds names (numbered seen (variables t))
  pub row : r ≤ variable_limit → Row (numbered seen (variables t))

-- What the second step leaves of a field that is a term, whatever variables the table held before: how often each occurs.
pub record Counted (field : Bytes) (names₀ : List Words) (known : ℕ) (rows₀ : List ℕ) (base r : ℕ) (names : List Words) (rows : List ℕ) : Type 0 where
  pub high : r ≤ variable_limit + 1
  pub full : variable_limit < known → r ≡ variable_limit + 1
  pub elsewhere : Elsewhere rows₀ base rows
  pub small : SmallRow rows base
  pub name_size : length names ≡ length names₀
  pub from : (seen : List Bytes) → Holds names₀ seen → length seen ≡ known → length rows₀ ≡ 1224 → (t : Term) → read_term field ≡ some t → VariablesTabled (λ xs. OccurrencesStand rows base xs t) seen t r names
