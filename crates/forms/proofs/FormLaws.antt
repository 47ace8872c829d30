-- For callers: the code's operations on forms that stand for the definitions' forms give what stands for the definitions' operations.
use mathlib.Core.List.{List}
use Prim.Native.Nat.{◌≤◌}
use native.Mathlib.Omega.{arith}
use lib.IntN.{ℤ, *ℤ-zero}
use lib.ListN.{length}
use Rattle.theory.specs.Text.{Bytes}
use Rattle.theory.specs.Forms.{Form as NamedForm, zero_form, plus as plus_named, times as times_named}
use Rattle.forms.specs.declared.Form.{Form}
use Rattle.forms.specs.Sums.{Zero, Sum, Multiple, StandsFor}

module _ {xs : List Bytes} where
  pub stands_zero : {r : Form} → length xs ≤ 16 → Zero r → StandsFor xs zero_form r
  unfolding zero_form
  stands_zero few zero =
      record {
        few = few;
        constant = zero.constant;
        coefficient = λ i known. zero.coefficient i (omega arith);
        beyond = λ i unknown. zero.coefficient i;
      }

  pub stands_plus : {f g : NamedForm} {a b r : Form} → StandsFor xs f a → StandsFor xs g b → Sum a b r → StandsFor xs (plus_named f g) r
  unfolding plus_named
  stands_plus first second sum =
      record {
        few = first.few;
        constant = rw (sum.constant, first.constant, second.constant);
        coefficient = λ i known. rw (sum.coefficient i (omega arith), first.coefficient i known, second.coefficient i known);
        beyond = λ i unknown less. rw (sum.coefficient i less, first.beyond i unknown less, second.beyond i unknown less);
      }

  pub stands_times : {f : NamedForm} {a r : Form} {k : ℤ} → StandsFor xs f a → Multiple a k r → StandsFor xs (times_named k f) r
  unfolding times_named
  stands_times {k = k} form multiple =
      record {
        few = form.few;
        constant = rw (multiple.constant, form.constant);
        coefficient = λ i known. rw (multiple.coefficient i (omega arith), form.coefficient i known);
        beyond = λ i unknown less. rw (multiple.coefficient i less, form.beyond i unknown less) (*ℤ-zero k);
      }
