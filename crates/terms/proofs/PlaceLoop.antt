-- The loop of `count_occurrences`: the variables at the places passed are counted.
use mathlib.Core.Path.{◌≡◌, refl, sym, ◌∙◌, ap}
use mathlib.Core.List.{List, [], ◌∷◌, ◌++◌, map, map-append}
use mathlib.Core.Option.{some}
use Prim.Native.Nat.{ℕ, ◌+◌, ◌≤◌, ◌<◌}
use native.Mathlib.Numerals.{add-one}
use native.Mathlib.Omega.{arith}
use lib.ListN.{length, get_or, take}
use lib.Seq.{take-suc}
use Rattle.theory.specs.Text.{Bytes}
use Rattle.theory.specs.Terms.{Term, read_term, variables}
use Rattle.text.specs.Scans.{part}
use Rattle.words.specs.Words.{words_of}
use Rattle.words.specs.declared.Words.{Words}
use Rattle.tokens.specs.TokenRows.{start_of, end_of, standing_at, PlacesStand}
use Rattle.terms.specs.Rows.{Holds, Elsewhere, Cleared, SmallRow, CountsOne, Counted}
use Rattle.terms.proofs.RowStores.{count_at, none_stored, stored_again}
use Rattle.terms.proofs.OneOccurrence.{leaves}
use Rattle.terms.proofs.Tally.{Tallied, none_tallied, tally_counted, one_tallied}

-- at a place; rows₀ is the table with the row cleared
pub record Counting (field : Bytes) (places : List ℕ) (count : ℕ) (names₀ : List Words) (known : ℕ) (rows₀ : List ℕ) (base i many : ℕ) (names : List Words) (rows : List ℕ) : Type 0 where
  pub past : i ≤ count
  pub high : many ≤ 17
  pub full : 16 < known → many ≡ 17
  pub name_size : length names ≡ length names₀
  pub elsewhere : Elsewhere rows₀ base rows
  pub small : (j : ℕ) → j < 16 → count_at rows base j ≤ i
  pub tallied : (seen : List Bytes) → Holds names₀ seen → length seen ≡ known → length rows₀ ≡ 1224 → Tallied seen (map (standing_at field) (take i places)) base many names rows

module _ (field : Bytes) (places : List ℕ) (count : ℕ) (stand : PlacesStand field places count) (names₀ : List Words) (known : ℕ) (few : known ≤ 17) (rows₀ : List ℕ) (base : ℕ) (room : base + 17 ≤ 1224) where
  -- ---- before the first place

  pub counting_none : (entry : List ℕ) → Cleared entry base rows₀ 16 → Counting field places count names₀ known rows₀ base 0 known names₀ rows₀
  counting_none entry cleared =
      record {
        past = omega arith;
        high = few;
        full = λ h. omega arith;
        name_size = refl;
        elsewhere = none_stored rows₀ base;
        small = λ j h. omega (arith, cleared.zeros j h);
        tallied = λ seen holds number size. none_tallied holds number cleared.zeros;
      }

  module _ (i many : ℕ) (names : List Words) (rows : List ℕ) (before : Counting field places count names₀ known rows₀ base i many names rows) where
    -- ---- one place

    pub counting_small : SmallRow rows base
    counting_small = record { small = λ j h. omega (arith, before.small j h, before.past, stand.few) }

    module _ (inside : i < count) where
      abbrev token : Bytes
      token = standing_at field (get_or places i 0)

      longer : map (standing_at field) (take (i + 1) places) ≡ map (standing_at field) (take i places) ++ (token ∷ [])
      longer = rw (add-one i, take-suc places i 0 (omega (arith, stand.wide)), map-append)

      after : (r : ℕ) (names₁ : List Words) (rows₁ : List ℕ) → CountsOne (words_of token) names many rows base r names₁ rows₁ → Counting field places count names₀ known rows₀ base (i + 1) r names₁ rows₁
      after r names₁ rows₁ counts =
          record {
            past = omega arith;
            high = (leaves counts).high;
            full = λ h. (leaves counts).full (before.full h);
            name_size = (leaves counts).name_size ∙ before.name_size;
            elsewhere = stored_again before.elsewhere (leaves counts).elsewhere;
            small = (leaves counts).small i before.small;
            tallied = λ seen holds counted size.
                rw longer (one_tallied seen _ token (stand.each i inside).proper base (omega (arith, before.elsewhere.size)) (before.tallied seen holds counted size) counts);
          }

      module _ (start end : ℕ) (begins : start ≡ start_of (get_or places i 0)) (ends : end ≡ end_of (get_or places i 0)) where
        pub counting_more : (words : Words) → words ≡ words_of (part field start end) → (r : ℕ) (names₁ : List Words) (rows₁ : List ℕ) → CountsOne words names many rows base r names₁ rows₁ → Counting field places count names₀ known rows₀ base (i + 1) r names₁ rows₁
        counting_more words is r names₁ rows₁ counts = after r names₁ rows₁ (rw (is, begins, ends) at counts)

    -- ---- after the last place

    module _ (ended : count ≤ i) where
      all_passed : (t : Term) → read_term field ≡ some t → map (standing_at field) (take i places) ≡ variables t
      all_passed t e = let same : i ≡ count = omega (arith, before.past) in ap (λ (n : ℕ). map (standing_at field) (take n places)) same ∙ sym (stand.all t e)

      pub counting_all : (entry : List ℕ) → Cleared entry base rows₀ 16 → Counted field names₀ known entry base many names rows
      counting_all entry cleared =
          record {
            high = before.high;
            full = before.full;
            elsewhere = stored_again cleared.elsewhere before.elsewhere;
            small = counting_small;
            name_size = before.name_size;
            from = λ seen holds number size t e. tally_counted t (rw (all_passed t e) at (before.tallied seen holds number (cleared.elsewhere.size ∙ size)));
          }
