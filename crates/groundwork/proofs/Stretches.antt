-- A store into a list, and loops that store into a stretch of an array, one element each turn.
use mathlib.Core.Path.{◌≡◌, refl, ◌∙◌}
use mathlib.Core.List.{List, [], ◌∷◌}
use Prim.Native.Nat.{ℕ, zero, suc, ◌+◌, ◌≤◌, ◌<◌}
use native.Mathlib.Nat.{zero-add}
use native.Mathlib.Omega.{arith}
use borrow.Author.Count.{below_none, below_more}
use lib.IntN.{ℤ, pos}
use lib.ListN.{length, get_or, set, length-set}
use lib.Seq.{get_or-set_same, get_or-set_other}

-- ---- one store, at a place of the list or past its end

module _ {A : Type 0} where
  -- what holds of an element and of the one that replaces it
  pub replaced : (P : A → Type 0) (l : List A) (i j : ℕ) (a d : A) → P a → P (get_or l j d) → P (get_or (set l i a) j d)
  replaced P [] i j a d new old = old
  replaced P (x ∷ l) zero zero a d new old = new
  replaced P (x ∷ l) zero (suc j) a d new old = old
  replaced P (x ∷ l) (suc i) zero a d new old = old
  replaced P (x ∷ l) (suc i) (suc j) a d new old = replaced P l i j a d new old

  pub default_stored : (d : A) (l : List A) (i : ℕ) → get_or (set l i d) i d ≡ d
  default_stored d [] i = refl
  default_stored d (x ∷ l) zero = refl
  default_stored d (x ∷ l) (suc i) = default_stored d l i

-- ---- a stretch of stores

-- the first i elements of the stretch from start on are a rule's, and all the others are as they were
pub record Stored {A : Type 0} (d : A) (rule : ℕ → A) (start : ℕ) (before after : List A) (i : ℕ) : Type 0 where
  pub size : length after ≡ length before
  pub done : (j : ℕ) → j < i → get_or after (start + j) d ≡ rule j
  pub below : (j : ℕ) → j < start → get_or after j d ≡ get_or before j d
  pub above : (j : ℕ) → start + i ≤ j → get_or after j d ≡ get_or before j d

module _ {A : Type 0} {d : A} {rule : ℕ → A} {start : ℕ} where
  pub stored_none : {before : List A} → Stored d rule start before before 0
  stored_none = record { size = refl; done = below_none _; below = λ j less. refl; above = λ j over. refl }

  module _ {before after : List A} {i : ℕ} (index : ℕ) (z : A) (stored : Stored d rule start before after i) (e : index ≡ start + i) where
    stored_next : get_or (set after index z) index d ≡ rule i → Stored d rule start before (set after index z) (i + 1)
    stored_next here =
        record {
          size = length-set after index z ∙ stored.size;
          done =
              below_more (λ (j : ℕ). get_or (set after index z) (start + j) d ≡ rule j) i
              (λ j less. get_or-set_other after index (start + j) z d (λ same. omega arith) ∙ stored.done j less)
              (rw (← e) here);
          below = λ j less. get_or-set_other after index j z d (λ same. omega arith) ∙ stored.below j less;
          above = λ j over. get_or-set_other after index j z d (λ same. omega arith) ∙ stored.above j (omega arith);
        }

    pub stored_more : index < length after → z ≡ rule i → Stored d rule start before (set after index z) (i + 1)
    stored_more within here = stored_next (get_or-set_same after index z d within ∙ here)

pub stored_front : {A : Type 0} {d : A} {rule : ℕ → A} {before after : List A} {i : ℕ} → Stored d rule 0 before after i → (j : ℕ) → j < i → get_or after j d ≡ rule j
stored_front stored j less = rw zero-add at (stored.done j less)

-- ---- copies

abbrev pub elements : List ℤ → ℕ → ℤ
elements s j = get_or s j (pos 0)

-- from a place on
abbrev pub from : List ℤ → ℕ → ℕ → ℤ
from s place j = elements s (place + j)

-- ---- zeros

abbrev pub zeros : ℕ → ℤ
zeros j = pos 0

pub zeros_more : {start : ℕ} {before after : List ℤ} {i : ℕ} (index : ℕ) → Stored (pos 0) zeros start before after i → index ≡ start + i → Stored (pos 0) zeros start before (set after index (pos 0)) (i + 1)
zeros_more {after = after} index stored e = stored_next index (pos 0) stored e (default_stored (pos 0) after index)
