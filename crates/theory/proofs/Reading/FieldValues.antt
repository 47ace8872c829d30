-- Fields that each write one value, and the field of a kind: what is read from them is what was written, and back.
use mathlib.Core.Path.{◌≡◌, refl, sym}
use mathlib.Core.Bool.{Bool, true, false, cond, ◌||◌}
use mathlib.Core.List.Memᴰ
use mathlib.Core.List.{List, [], ◌∷◌, map}
use mathlib.Core.Option.{Option, some, get_or}
use Rattle.theory.specs.Lists.{every, is_some, ◌∈◌}
use Rattle.theory.specs.Text.{Bytes, bytes, same}
use Rattle.theory.specs.Packs.{Kind, given, ruled, kind_letter}
use Rattle.theory.specs.Written.{kind_from}
use Rattle.theory.specs.Faults.{is_kind}
use Rattle.theory.proofs.Reading.Bytes.{same_equal}
use Rattle.theory.proofs.Reading.Every.{every_first, every_rest, every_cons, every_member}
use Rattle.theory.proofs.Reading.Presence.{some_is, is_some_lem}

-- ---- fields that each write one value

module _ {A : Type 0} (reading : Bytes → Option A) where
  abbrev pub is_read : Bytes → Bool
  is_read f = is_some (reading f)

  abbrev pub value_of : A → Bytes → A
  value_of d f = get_or (reading f) d

  pub value_read : (d : A) (f : Bytes) → is_read f ≡ true → reading f ≡ some (value_of d f)
  value_read d f h = let found = is_some_lem (reading f) h in rw found.1

  pub values_written : (writing : A → Bytes) (d : A) → ((f : Bytes) (a : A) → reading f ≡ some a → f ≡ writing a)
      → (fs : List Bytes) → every is_read fs ≡ true → map writing (map (value_of d) fs) ≡ fs
  values_written writing d back [] h = refl
  values_written writing d back (f ∷ fs) h =
      let first = back f (value_of d f) (value_read d f (every_first is_read f fs h)) in
      let rest = values_written writing d back fs (every_rest is_read f fs h) in
      rw (← first, rest)

  -- what holds of all that is read holds of the values
  pub values_within : (Q : A → Type 0) (d : A) → ((f : Bytes) (a : A) → reading f ≡ some a → Q a)
      → (fs : List Bytes) → every is_read fs ≡ true → (a : A) → a ∈ map (value_of d) fs → Q a
  values_within Q d within fs h a m =
      let found = Memᴰ.of_map (value_of d) fs m in
      rw found.2 at (within found.0 (value_of d found.0) (value_read d found.0 (every_member is_read h found.1)))

  pub written_read : (writing : A → Bytes) (vs : List A) → ((a : A) → a ∈ vs → reading (writing a) ≡ some a) → every is_read (map writing vs) ≡ true
  unfolding every
  written_read writing [] back = refl
  written_read writing (a ∷ vs) back =
      every_cons is_read (writing a) (map writing vs) (some_is (reading (writing a)) a (back a (Memᴰ.head refl))) (written_read writing vs λ b m. back b (Memᴰ.tail m))

  pub written_values : (writing : A → Bytes) (d : A) (vs : List A) → ((a : A) → a ∈ vs → reading (writing a) ≡ some a) → map (value_of d) (map writing vs) ≡ vs
  written_values writing d [] back = refl
  written_values writing d (a ∷ vs) back =
      rw (back a (Memᴰ.head refl), written_values writing d vs (λ b m. back b (Memᴰ.tail m)))

-- ---- the field of a kind

pub kind_written : (f : Bytes) → is_kind f ≡ true → kind_letter (kind_from f) ≡ f
unfolding kind_from kind_letter
kind_written f h = go (same f (bytes "G")) refl h
  where
    go : (b : Bool) → same f (bytes "G") ≡ b → (b || same f (bytes "R")) ≡ true → kind_letter (cond b given ruled) ≡ f
    go true e k = sym (same_equal f (bytes "G") e)
    go false e k = sym (same_equal f (bytes "R") k)

pub written_kind : (k : Kind) → kind_from (kind_letter k) ≡ k
unfolding kind_from kind_letter same bytes
written_kind given = refl
written_kind ruled = refl

pub written_is_kind : (k : Kind) → is_kind (kind_letter k) ≡ true
unfolding kind_letter same bytes
written_is_kind given = refl
written_is_kind ruled = refl
