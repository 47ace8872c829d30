-- The sizes that a query gives: how each is written and read, what the test of a field says in words, and that none is above 65535.
use mathlib.Core.Path.{◌≡◌, refl, sym, ◌∙◌, ap, subst}
use mathlib.Core.Bool.{Bool, true, cond}
use mathlib.Core.List.Memᴰ
use mathlib.Core.List.{List}
use mathlib.Core.Option.{Option, some, none, map, get_or, some-injective, none-ne-some, map-eq-some_iff}
use Prim.Native.Nat.{ℕ, ◌≤◌}
use lib.ListN.{drop}
use Rattle.groundwork.proofs.Truth.{by_truth, never_both}
use Rattle.theory.specs.Lists.{is_some, ◌∈◌}
use Rattle.theory.specs.Text.{Bytes, bytes, same, is_decimal, natural, decimal, fields_of}
use Rattle.theory.specs.Reserve.{size_from, query_from, query_of}
use Rattle.theory.specs.Queries.{written_size, SizeField, unknown, known}
use Rattle.theory.proofs.Reading.Bytes.{same_equal}
use Rattle.theory.proofs.Reading.Decimals.{decimal_formed}
use Rattle.theory.proofs.Reading.Presence.{some_is, is_some_lem}
use Rattle.theory.proofs.Reading.Spelling.{natural_of_decimal, decimal_of_natural, natural_within}

-- a size that a query may give
abbrev pub SmallSize : Option ℕ → Type 0
SmallSize o = (s : ℕ) → o ≡ some s → s ≤ 65535

none_small : SmallSize none
none_small s e = absurd (none-ne-some s e)

some_small : {s : ℕ} → s ≤ 65535 → SmallSize (some s)
some_small {s} h t e = subst (λ (n : ℕ). n ≤ 65535) (some-injective s t e) h

-- ---- written and read

-- no number is written as `-`
number_not_unknown : (s : ℕ) → decimal s ≡ bytes "-" → ⊥
unfolding is_decimal bytes
number_not_unknown s e = never_both (ap is_decimal (sym e) ∙ decimal_formed s) refl

pub unknown_alone : (o : Option ℕ) → written_size o ≡ bytes "-" → o ≡ none
unfolding written_size
unknown_alone none e = refl
unknown_alone (some s) e = absurd (number_not_unknown s e)

pub size_again : (o : Option ℕ) → SmallSize o → size_from (written_size o) ≡ some o
unfolding size_from written_size same bytes
size_again none small = refl
size_again (some s) small =
    by_truth (λ (b : Bool). cond b (some none) (map some (natural 65535 (decimal s))) ≡ some (some s)) (same (decimal s) (bytes "-"))
    (λ e. absurd (number_not_unknown s (same_equal (decimal s) (bytes "-") e)))
    (λ e. rw (natural_of_decimal 65535 s (small s refl)))

size_read : (f : Bytes) (o : Option ℕ) → size_from f ≡ some o → (f ≡ written_size o) × SmallSize o
unfolding size_from written_size
size_read f o =
    by_truth (λ (b : Bool). cond b (some none) (map some (natural 65535 f)) ≡ some o → Read o) (same f (bytes "-"))
    (λ e is. subst Read (some-injective none o is) (same_equal f (bytes "-") e, none_small))
    (λ e is.
    let found = (map-eq-some_iff some (natural 65535 f)).0 is in
    subst Read found.2 (decimal_of_natural 65535 f found.0 found.1, some_small (natural_within 65535 f found.0 found.1)))
  where
    Read : Option ℕ → Type 0
    Read o = (f ≡ written_size o) × SmallSize o

pub size_written : (f : Bytes) (o : Option ℕ) → size_from f ≡ some o → f ≡ written_size o
size_written f o e = (size_read f o e).0

-- a size that a field gives
abbrev pub Small : Option (Option ℕ) → Type 0
Small o = (s : ℕ) → o ≡ some (some s) → s ≤ 65535

pub size_small : (f : Bytes) → Small (size_from f)
size_small f s e = (size_read f (some s) e).1 s refl

-- ---- in words

size_field_lem : (f : Bytes) (o : Option ℕ) → size_from f ≡ some o → SizeField f
unfolding written_size
size_field_lem f none e = unknown (size_written f none e)
size_field_lem f (some s) e = known s (size_small f s e) (size_written f (some s) e)

pub size_told : (f : Bytes) → is_some (size_from f) ≡ true → SizeField f
size_told f e = let found = is_some_lem (size_from f) e in size_field_lem f found.0 found.1

pub size_passes : (f : Bytes) → SizeField f → is_some (size_from f) ≡ true
unfolding written_size
size_passes f (unknown e) = rw e (some_is _ none (size_again none none_small))
size_passes f (known s h e) = rw e (some_is _ (some s) (size_again (some s) (some_small h)))

-- ---- the sizes of a query

-- no known size is above 65535
abbrev pub AllSmall : List (Option ℕ) → Type 0
AllSmall sizes = (s : ℕ) → some s ∈ sizes → s ≤ 65535

-- whatever a field is, it gives no size or a small one
pub read_small : (f : Bytes) → SmallSize (get_or (size_from f) none)
read_small f = go (size_from f) refl
  where
    go : (o : Option (Option ℕ)) → size_from f ≡ o → SmallSize (get_or o none)
    go none e s h = none_small s h
    go (some size) e s h = size_small f s (e ∙ ap some h)

pub query_small : (query : Bytes) → AllSmall (query_of query).sizes
unfolding query_of query_from
query_small query s m =
    let found = Memᴰ.of_map (λ (f : Bytes). get_or (size_from f) none) (drop 2 (fields_of query)) m in
    read_small found.0 s found.2
