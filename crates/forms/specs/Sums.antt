-- Forms as the code has them, a constant and 16 coefficients, and the definitions' forms that they stand for.
use Rattle.std.specs.Prelude.{◌≡◌, List, [], ℕ, ◌≤◌, ◌<◌, ℤ, pos, nat_abs, ◌+ℤ◌, ◌*ℤ◌, length, get_or}
use Rattle.theory.specs.Text.{Bytes}
use Rattle.theory.specs.Forms.{Form as NamedForm}
use Rattle.forms.specs.declared.Form.{Form}

-- the coefficient of the variable at a place, from 0
abbrev pub at : Form → ℕ → ℤ
at f i = get_or f.coefficients i (pos 0)

-- no number of the form is larger than a bound
pub record Within (bound : ℕ) (f : Form) : Type 0 where
  pub constant : nat_abs f.constant ≤ bound
  pub coefficient : (i : ℕ) → i < 16 → nat_abs (at f i) ≤ bound

pub record Zero (r : Form) : Type 0 where
  pub constant : r.constant ≡ pos 0
  pub coefficient : (i : ℕ) → i < 16 → at r i ≡ pos 0

pub record Sum (f g r : Form) : Type 0 where
  pub constant : r.constant ≡ f.constant +ℤ g.constant
  pub coefficient : (i : ℕ) → i < 16 → at r i ≡ at f i +ℤ at g i

pub record Multiple (f : Form) (k : ℤ) (r : Form) : Type 0 where
  pub constant : r.constant ≡ k *ℤ f.constant
  pub coefficient : (i : ℕ) → i < 16 → at r i ≡ k *ℤ at f i

-- the definitions' form f, over the variables xs, each by its place among them
pub record StandsFor (xs : List Bytes) (f : NamedForm) (r : Form) : Type 0 where
  pub few : length xs ≤ 16
  pub constant : r.constant ≡ f.constant
  pub coefficient : (i : ℕ) → i < length xs → at r i ≡ f.coefficient (get_or xs i [])
  pub beyond : (i : ℕ) → length xs ≤ i → i < 16 → at r i ≡ pos 0
