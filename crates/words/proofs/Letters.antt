-- Letters may stand in a name.
use mathlib.Core.Path.{◌≡◌}
use mathlib.Core.Bool.{true, or-true}
use Prim.Native.Nat.{ℕ}
use Rattle.theory.specs.Text.{is_lower, is_upper, is_name_byte}

module _ (b : ℕ) where
  pub lower_in_name : is_lower b ≡ true → is_name_byte b ≡ true
  unfolding is_name_byte
  lower_in_name h = rw h

  pub upper_in_name : is_upper b ≡ true → is_name_byte b ≡ true
  unfolding is_name_byte
  upper_in_name h = simp (h, or-true)
