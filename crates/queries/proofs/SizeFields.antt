-- A size field that is read: what `read_size` answers.
use mathlib.Core.Path.{◌≡◌, refl, sym, ◌∙◌, ap}
use mathlib.Core.Bool.{Bool, true, false}
use mathlib.Core.List.{[], ◌∷◌}
use mathlib.Core.Option as M
use Prim.Native.Nat.{ℕ}
use native.Mathlib.Omega.{arith}
use lib.Dec.{eqb}
use lib.Pointwise.{pointwise}
use mir.Syntax.{w16}
use mir.Val.{Fits}
use Rattle.std.specs.Prelude.{Option, Some, None, Ok, Err}
use Rattle.std.specs.Option.{ok_or, is_some as is_known}
use Rattle.theory.specs.Lists.{is_some}
use Rattle.theory.specs.Text.{Bytes, bytes, same, natural}
use Rattle.theory.specs.Reserve.{size_from}
use Rattle.theory.specs.declared.QueryRefusal.{QueryRefusal}
use Rattle.theory.specs.declared.QueryRefusal.TheVariants.{SizeField}
use Rattle.theory.proofs.Reading.Spelling.{natural_within}
use Rattle.numbers.specs.Numbers.{option_of}
use Rattle.queries.proofs.Given.{got_some, got_none}
use Rattle.queries.specs.Queries.{entry_of, size_read}

-- whether a field is `-`, as the code tests it
dash_told : (field : Bytes) → pointwise eqb field (45 ∷ []) ≡ same field (bytes "-")
unfolding same bytes
dash_told [] = refl
dash_told (b ∷ []) = refl
dash_told (b ∷ c ∷ rest) = refl

module _ (field dash : Bytes) (is : dash ≡ 45 ∷ []) (b : Bool) (told : b ≡ pointwise eqb field dash) where
  same_dash : b ≡ same field (bytes "-")
  same_dash = told ∙ ap (pointwise eqb field) is ∙ dash_told field

  pub size_unknown : b ≡ true → Ok None ≡ size_read (size_from field)
  unfolding size_from
  size_unknown e = rw (sym same_dash ∙ e) refl

  -- the number that is read, or the refusal where there is none
  module _ (other : b ≡ false) (r : Option ℕ) (read : option_of r ≡ natural 65535 field) where
    as_read : size_from field ≡ M.map M.some (option_of r)
    unfolding size_from
    as_read = rw (sym same_dash ∙ other, ← read) refl

    pub size_known : (n : ℕ) → ok_or r SizeField ≡ Ok n → Ok (Some n) ≡ size_read (size_from field)
    size_known n e = rw (as_read, got_some r _ e) refl

    pub size_malformed : {f : QueryRefusal} → ok_or r SizeField ≡ Err f → Err f ≡ size_read (size_from field)
    size_malformed e = rw (as_read, (got_none r _ e).0, (got_none r _ e).1) refl

    pub size_fits : (n : ℕ) → ok_or r SizeField ≡ Ok n → Fits w16 n
    size_fits n e = omega (arith, natural_within 65535 field n (sym read ∙ ap option_of (got_some r _ e)))

-- ---- what is read of it

module _ (field : Bytes) where
  pub fine_size : {size : Option ℕ} → Ok size ≡ size_read (size_from field) → is_some (size_from field) ≡ true
  unfolding is_some
  fine_size = by (size_from field)
    where
      by : {size : Option ℕ} (o : M.Option (M.Option ℕ)) → Ok size ≡ size_read o → is_some o ≡ true
      by M.none e = cc
      by (M.some s) e = refl

  pub no_size : {f : QueryRefusal} → Err f ≡ size_read (size_from field) → (f ≡ SizeField) × (is_some (size_from field) ≡ false)
  unfolding is_some
  no_size = by (size_from field)
    where
      by : {f : QueryRefusal} (o : M.Option (M.Option ℕ)) → Err f ≡ size_read o → (f ≡ SizeField) × (is_some o ≡ false)
      by M.none e = (cc, refl)
      by (M.some s) e = cc

  pub size_entry : {size : Option ℕ} → Ok size ≡ size_read (size_from field) → size ≡ entry_of (M.get_or (size_from field) M.none)
  size_entry = by (size_from field)
    where
      by : {size : Option ℕ} (o : M.Option (M.Option ℕ)) → Ok size ≡ size_read o → size ≡ entry_of (M.get_or o M.none)
      by M.none e = cc
      by (M.some s) e = cc

-- whether a size is known, as the code has it
pub known_told : (size : M.Option ℕ) → is_some size ≡ is_known (entry_of size)
unfolding is_some
known_told M.none = refl
known_told (M.some s) = refl
