-- One occurrence of a variable more: the ways through `count_variable`, and what they leave of the table and the row, whatever these held.
use mathlib.Core.Path.{◌≡◌, refl, ap, subst}
use mathlib.Core.List.{List}
use Prim.Native.Nat.{ℕ, ◌+◌, ◌≤◌, ◌<◌}
use native.Mathlib.Omega.{arith}
use lib.ListN.{length, set, length-set}
use Rattle.words.specs.Words.{words_at, StandsAt}
use Rattle.words.specs.declared.Words.{Words}
use Rattle.terms.specs.Rows.{Elsewhere, CountsOne, known_already, one_more_lem, none_left, past}
use Rattle.groundwork.proofs.Stretches.{replaced}
use Rattle.terms.proofs.RowStores.{count_at, counted_at, none_stored, one_stored}

-- ---- the ways through `count_variable`

module _ (words : Words) (names : List Words) (known : ℕ) (rows : List ℕ) (base at : ℕ) (few : known ≤ 16) (place : StandsAt (words_at names) known words at) where
  pub counts_known : at < known → CountsOne words names known rows base known names (counted_at rows base at)
  counts_known h = known_already at h few place refl

  module _ (past : known ≤ at) where
    same : at ≡ known
    same = omega (arith, place.high)

    nowhere : StandsAt (words_at names) known words known
    nowhere = subst (λ (i : ℕ). StandsAt (words_at names) known words i) same place

    pub counts_new : at < 16 → CountsOne words names known rows base (known + 1) (set names known words) (counted_at rows base at)
    counts_new room = one_more_lem (omega (arith, same)) nowhere refl (ap (counted_at rows base) same)

  pub counts_none : 16 ≤ at → CountsOne words names known rows base 17 names rows
  counts_none full = none_left (omega (arith, place.high)) (nowhere (omega arith))

-- ---- what they leave

pub record Leaves (names : List Words) (known : ℕ) (rows : List ℕ) (base r : ℕ) (names₁ : List Words) (rows₁ : List ℕ) : Type 0 where
  pub high : r ≤ 17
  pub full : known ≡ 17 → r ≡ 17
  pub name_size : length names₁ ≡ length names
  pub elsewhere : Elsewhere rows base rows₁
  -- a count grows by one at most
  pub small : (bound : ℕ) → ((i : ℕ) → i < 16 → count_at rows base i ≤ bound) → (i : ℕ) → i < 16 → count_at rows₁ base i ≤ bound + 1

-- nothing is stored
leaves_all : (names : List Words) (known : ℕ) (rows : List ℕ) (base : ℕ) → Leaves names known rows base 17 names rows
leaves_all names known rows base =
    record { high = omega arith; full = λ e. refl; name_size = refl; elsewhere = none_stored rows base; small = λ bound small i h. omega (arith, small i h) }

grown : (rows : List ℕ) (base at : ℕ) → at < 16 → (bound : ℕ) → ((i : ℕ) → i < 16 → count_at rows base i ≤ bound) → (i : ℕ) → i < 16 → count_at (counted_at rows base at) base i ≤ bound + 1
grown rows base at inside bound small i h =
    replaced (λ (n : ℕ). n ≤ bound + 1) rows (base + 1 + at) (base + 1 + i) (count_at rows base at + 1) 0 (omega (arith, small at inside)) (omega (arith, small i h))

module _ {words : Words} {names : List Words} {known : ℕ} {rows : List ℕ} {base : ℕ} where
  pub leaves : {r : ℕ} {names₁ : List Words} {rows₁ : List ℕ} → CountsOne words names known rows base r names₁ rows₁ → Leaves names known rows base r names₁ rows₁
  leaves (known_already at inside few place stored) =
      record {
        high = omega arith;
        full = λ e. e;
        name_size = refl;
        elsewhere = rw stored (one_stored rows base at (count_at rows base at + 1) (omega arith));
        small = rw stored (grown rows base at (omega arith));
      }
  leaves (one_more_lem few place named stored) =
      record {
        high = omega arith;
        full = λ e. absurd (omega arith);
        name_size = rw named (simp length-set);
        elsewhere = rw stored (one_stored rows base known (count_at rows base known + 1) few);
        small = rw stored (grown rows base known few);
      }
  leaves (none_left full place) = leaves_all names known rows base
  leaves (past full) = leaves_all names known rows base
