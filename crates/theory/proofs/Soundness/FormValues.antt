-- Values of forms: a form's value at sizes, and the operations on forms.
use mathlib.Core.Path.{◌≡◌, refl, sym, ◌∙◌, ap}
use mathlib.Core.List.Memᴰ
use mathlib.Core.List.{List, [], ◌∷◌}
use Prim.Native.Nat.{ℕ}
use native.Mathlib.Omega.{arith}
use lib.IntN.{ℤ, pos, negsuc, ◌+ℤ◌, ◌-ℤ◌, ◌*ℤ◌}
use lib.Signed.{◌≤ℤ◌}
use Rattle.groundwork.proofs.Difference.{diff_eq, to-diff, by_diff}
use Rattle.groundwork.proofs.Ring.{*ℤ_distrib_left, *ℤ_distrib_right, *ℤ_assoc, neg_as_times, +ℤ_middle}
use Rattle.groundwork.proofs.Order.{nonneg_pos, add_nonneg, mul_nonneg}
use Rattle.theory.specs.Lists.{◌∈◌}
use Rattle.theory.specs.Text.{Bytes}
use Rattle.theory.specs.Forms.{Form, zero_form, plus, times, minus, constant_form, value_at}
use Rattle.theory.specs.Limits.{NonNegative}

-- two forms are equal when their numbers are
pub form_path : {f g : Form} → f.constant ≡ g.constant → ((x : Bytes) → f.coefficient x ≡ g.coefficient x) → f ≡ g
form_path p q = λ i. record { constant = p i; coefficient = λ x. q x i }

-- a variable that does not count
pub nothing_plus : (s : ℕ) (z : ℤ) → pos 0 *ℤ pos s +ℤ z ≡ z
nothing_plus s = by_diff _ λ p n. simp to-diff (diff_eq _ _ _ _ (omega arith))

module _ (size_of : Bytes → ℕ) where
  pub value_plus : (xs : List Bytes) (f g : Form) → value_at size_of xs (plus f g) ≡ value_at size_of xs f +ℤ value_at size_of xs g
  unfolding value_at plus
  value_plus [] f g = refl
  value_plus (x ∷ xs) f g = rw (value_plus xs f g, *ℤ_distrib_right) (+ℤ_middle (f.coefficient x *ℤ pos (size_of x)) (g.coefficient x *ℤ pos (size_of x)) (value_at size_of xs f) (value_at size_of xs g))

  pub value_times : (xs : List Bytes) (k : ℤ) (f : Form) → value_at size_of xs (times k f) ≡ k *ℤ value_at size_of xs f
  unfolding value_at times
  value_times [] k f = refl
  value_times (x ∷ xs) k f = rw (value_times xs k f, *ℤ_assoc) (sym (*ℤ_distrib_left k _ _))

  pub value_minus : (xs : List Bytes) (f g : Form) → value_at size_of xs (minus f g) ≡ value_at size_of xs f -ℤ value_at size_of xs g
  unfolding minus
  value_minus xs f g = value_plus xs f (times (negsuc 0) g) ∙ ap (λ z. value_at size_of xs f +ℤ z) (value_times xs (negsuc 0) g ∙ sym (neg_as_times (value_at size_of xs g)))

  -- a form without these variables
  pub value_without : (xs : List Bytes) (f : Form) → ((x : Bytes) → x ∈ xs → f.coefficient x ≡ pos 0) → value_at size_of xs f ≡ f.constant
  unfolding value_at
  value_without [] f none = refl
  value_without (x ∷ xs) f none = rw (none x (Memᴰ.head refl)) (nothing_plus (size_of x) _ ∙ value_without xs f (λ y m. none y (Memᴰ.tail m)))

  pub value_constant : (xs : List Bytes) (c : ℤ) → value_at size_of xs (constant_form c) ≡ c
  unfolding constant_form
  value_constant xs c = value_without xs (constant_form c) (λ x m. refl)

  pub value_zero : (xs : List Bytes) → value_at size_of xs zero_form ≡ pos 0
  unfolding zero_form
  value_zero xs = value_without xs zero_form (λ x m. refl)

  pub value_nonneg : (xs : List Bytes) (f : Form) → NonNegative xs f → pos 0 ≤ℤ value_at size_of xs f
  unfolding value_at
  value_nonneg [] f h = h.constant
  value_nonneg (x ∷ xs) f h =
      add_nonneg _ _ (mul_nonneg _ _ (h.coefficient x (Memᴰ.head refl)) (nonneg_pos (size_of x)))
      (value_nonneg xs f (record { constant = h.constant; coefficient = λ y m. h.coefficient y (Memᴰ.tail m) }))
