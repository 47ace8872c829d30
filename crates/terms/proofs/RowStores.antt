-- Stores into a row of a table, which leave the rest of the table as it was.
use mathlib.Core.Path.{refl, ◌∙◌}
use mathlib.Core.List.{List}
use Prim.Native.Nat.{ℕ, ◌+◌, ◌<◌}
use native.Mathlib.Omega.{arith}
use lib.ListN.{get_or, set, length-set}
use lib.Seq.{get_or-set_other}
use Rattle.terms.specs.Rows.{Elsewhere}

-- the count at a place of the row at base
abbrev pub count_at : List ℕ → ℕ → ℕ → ℕ
count_at rows base i = get_or rows (base + 1 + i) 0

-- the table with one more there
abbrev pub counted_at : List ℕ → ℕ → ℕ → List ℕ
counted_at rows base i = set rows (base + 1 + i) (count_at rows base i + 1)

pub none_stored : (rows : List ℕ) (base : ℕ) → Elsewhere rows base rows
none_stored rows base = record { size = refl; below = λ i h. refl; above = λ i h. refl }

pub one_stored : (rows : List ℕ) (base at n : ℕ) → at < 16 → Elsewhere rows base (set rows (base + 1 + at) n)
one_stored rows base at n h =
    record {
      size = length-set rows (base + 1 + at) n;
      below = λ i k. get_or-set_other rows (base + 1 + at) i n 0 (λ e. omega arith);
      above = λ i k. get_or-set_other rows (base + 1 + at) i n 0 (λ e. omega arith);
    }

pub stored_again : {rows₀ rows rows₁ : List ℕ} {base : ℕ} → Elsewhere rows₀ base rows → Elsewhere rows base rows₁ → Elsewhere rows₀ base rows₁
stored_again first again =
    record {
      size = again.size ∙ first.size;
      below = λ i h. again.below i h ∙ first.below i h;
      above = λ i h. again.above i h ∙ first.above i h;
    }
