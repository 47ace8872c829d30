-- The kind in a field of a `P` line: what `kind_of` and `read_kind` answer.
use mathlib.Core.Path.{◌≡◌, refl, sym, ◌∙◌, ap}
use mathlib.Core.Bool.{true, false, and-true}
use mathlib.Core.List.{[], ◌∷◌}
use Prim.Native.Nat.{ℕ, ◌+◌, ◌≤◌, ◌<◌}
use native.Mathlib.Omega.{arith}
use lib.Dec.{eqb}
use lib.ListN.{length, get_or}
use Rattle.std.specs.Prelude.{Option, Some, None}
use Rattle.groundwork.proofs.Truth.{equal-eqb, eqb-different, and_not_right, or_left, or_right, or_neither}
use Rattle.theory.specs.Text.{Bytes, bytes, same}
use Rattle.theory.specs.Packs.{Kind as PredicateKind, given, ruled}
use Rattle.theory.specs.Written.{field, kind_from}
use Rattle.theory.specs.Faults.{is_kind}
use Rattle.text.specs.Scans.{part, Finds, parts_from}
use Rattle.text.proofs.Cuts.{parts_done, parts_step}
use Rattle.tables.specs.declared.Kind.{Kind}
use Rattle.tables.specs.declared.Kind.TheVariants.{Ruled, Given}
use Rattle.tables.specs.Tables.{kind_of}
use Rattle.opening.specs.Opening.{kind_written}

-- ---- a field

same_one : (s : Bytes) (b : ℕ) → length s ≡ 1 → same s (b ∷ []) ≡ eqb (get_or s 0 0) b
unfolding same
same_one [] b h = absurd (omega arith)
same_one (a ∷ []) b h = and-true (eqb a b)
same_one (a ∷ c ∷ s) b h = absurd (omega arith)

other_length : (s : Bytes) (b : ℕ) → (length s ≡ 1 → ⊥) → same s (b ∷ []) ≡ false
unfolding same
other_length [] b h = refl
other_length (a ∷ []) b h = absurd (h refl)
other_length (a ∷ c ∷ s) b h = and_not_right (eqb a b) false refl

module _ (f : Bytes) where
  of_kind : (k : PredicateKind) → is_kind f ≡ true → kind_from f ≡ k → Some (kind_of k) ≡ kind_written f
  of_kind k good e = rw (good, e)

  of_none : is_kind f ≡ false → None ≡ kind_written f
  of_none none = rw none

  pub none_long : (length f ≡ 1 → ⊥) → None ≡ kind_written f
  unfolding bytes
  none_long h = of_none (or_neither (same f (71 ∷ [])) (same f (82 ∷ [])) (other_length f 71 h) (other_length f 82 h))

  pub given_is : length f ≡ 1 → get_or f 0 0 ≡ 71 → Some Given ≡ kind_written f
  unfolding bytes kind_from
  given_is one h = of_kind given (or_left _ _ letter) (rw letter)
    where
      letter : same f (71 ∷ []) ≡ true
      letter = same_one f 71 one ∙ equal-eqb (get_or f 0 0) 71 h

  pub ruled_is : length f ≡ 1 → get_or f 0 0 ≡ 82 → Some Ruled ≡ kind_written f
  unfolding bytes kind_from
  ruled_is one h = of_kind ruled (or_right (same f (71 ∷ [])) _ (same_one f 82 one ∙ equal-eqb (get_or f 0 0) 82 h)) (rw not_given)
    where
      not_given : same f (71 ∷ []) ≡ false
      not_given = same_one f 71 one ∙ eqb-different (get_or f 0 0) 71 (λ e. omega arith)

  pub neither_is : length f ≡ 1 → (get_or f 0 0 ≡ 71 → ⊥) → (get_or f 0 0 ≡ 82 → ⊥) → None ≡ kind_written f
  unfolding bytes
  neither_is one g r = of_none (or_neither _ _ (same_one f 71 one ∙ eqb-different (get_or f 0 0) 71 g) (same_one f 82 one ∙ eqb-different (get_or f 0 0) 82 r))

-- ---- the second field from a place on

module _ (line : Bytes) (from : ℕ) where
  second : (f : Bytes) → field 1 (parts_from 44 line from) ≡ f → {r : Option Kind} → r ≡ kind_written f → r ≡ kind_written (field 1 (parts_from 44 line from))
  second f is read = read ∙ ap kind_written (sym is)

  empty : field 1 (parts_from 44 line from) ≡ [] → None ≡ kind_written (field 1 (parts_from 44 line from))
  empty is = second [] is (none_long [] (λ e. omega arith))

  pub kind_past : length line < from → None ≡ kind_written (field 1 (parts_from 44 line from))
  kind_past past = empty (ap (field 1) (parts_done 44 line from past))

  module _ (inside : from ≤ length line) (stop : ℕ) (found : Finds line 44 from stop) where
    first_off : field 1 (parts_from 44 line from) ≡ field 0 (parts_from 44 line (stop + 1))
    first_off = ap (field 1) (parts_step 44 line from stop inside found)

    pub kind_missing : length line < stop + 1 → None ≡ kind_written (field 1 (parts_from 44 line from))
    kind_missing past = empty (first_off ∙ ap (field 0) (parts_done 44 line (stop + 1) past))

    pub kind_there : stop + 1 ≤ length line → (end : ℕ) → Finds line 44 (stop + 1) end → {r : Option Kind} → r ≡ kind_written (part line (stop + 1) end) → r ≡ kind_written (field 1 (parts_from 44 line from))
    kind_there more end next read = second _ (first_off ∙ ap (field 0) (parts_step 44 line (stop + 1) end more next)) read
