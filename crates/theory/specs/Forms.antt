-- Document 01, "Forms": a constant and a whole number for each variable; the form of a term; a form's value.
use Rattle.std.specs.Prelude.{List, [], ◌∷◌, ℕ, ℤ, pos, negsuc, ◌+ℤ◌, ◌*ℤ◌}
use Rattle.theory.specs.Lists.{◌∈◌}
use Rattle.theory.specs.Text.{Bytes}
use Rattle.theory.specs.Terms.{Term}
use Rattle.theory.specs.Sizes.{Measure, constant_of, coefficient_of}

-- A form. Its coefficient for a variable goes by the variable's name; the residual area lists them by number (Residuals).
pub record Form : Type 0 where
  pub constant : ℤ
  pub coefficient : Bytes → ℤ

-- the form that sums start from
unfoldable pub zero_form : Form
zero_form = record { constant = pos 0; coefficient = λ x. pos 0 }

unfoldable pub plus : Form → Form → Form
plus f g = record { constant = f.constant +ℤ g.constant; coefficient = λ x. f.coefficient x +ℤ g.coefficient x }

unfoldable pub times : ℤ → Form → Form
times k f = record { constant = k *ℤ f.constant; coefficient = λ x. k *ℤ f.coefficient x }

unfoldable pub minus : Form → Form → Form
minus f g = plus f (times (negsuc 0) g)

unfoldable pub constant_form : ℤ → Form
constant_form c = record { constant = c; coefficient = λ x. pos 0 }

-- A term's size by a measure, as a form: both parts together.
unfoldable pub form_of : Measure → Term → Form
form_of m t = record { constant = pos (constant_of m t); coefficient = λ x. pos (coefficient_of m t x) }

-- each of some variables stands in the list once
pub data Once : List Bytes → Type 0 where
  once_none : Once []
  once_more : {x : Bytes} {xs : List Bytes} → (x ∈ xs → ⊥) → Once xs → Once (x ∷ xs)

-- a form's value where each of some variables has a size
unfoldable pub value_at : (Bytes → ℕ) → List Bytes → Form → ℤ
value_at size_of [] f = f.constant
value_at size_of (x ∷ xs) f = f.coefficient x *ℤ pos (size_of x) +ℤ value_at size_of xs f
