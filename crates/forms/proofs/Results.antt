-- What plus and times share: a signed result that fits is the integer that it should be, and an array is filled from the front.
use mathlib.Core.Path.{◌≡◌, ◌∙◌}
use mathlib.Core.List.{List}
use Prim.Native.Nat.{ℕ, ◌+◌, ◌^◌, ◌≤◌, ◌<◌}
use native.Mathlib.Omega.{arith}
use native.Mathlib.Nat.{mul-le-mul}
use borrow.Author.Count.{below_more}
use lib.IntN.{ℤ, pos, nat_abs, ◌+ℤ◌, ◌*ℤ◌}
use lib.ListN.{length, get_or, set}
use lib.Seq.{get_or-set_same, get_or-set_other}
use mir.Syntax.{w64}
use mir.Val.{SFits, to_z, of_z}
use mir.Facts.{to_z-of_z}
use Rattle.groundwork.proofs.Magnitude.{nat_abs_add, nat_abs_mul}
use Rattle.forms.proofs.Kept.{small_fits}
use Rattle.forms.specs.declared.Form.{Form}
use Rattle.forms.specs.Sums.{at, Within}

-- ---- results

-- what the code reads of an integer that it keeps as 64 bits
abbrev pub kept : ℤ → ℤ
kept z = to_z w64 (of_z w64 z)

-- the code's operation on x and y gives what the operation gives on integers
pub record Exact (operation : ℤ → ℤ → ℤ) (x y : ℤ) : Type 0 where
  pub left : kept x ≡ x
  pub fits : SFits w64 (operation (kept x) (kept y))
  pub result : kept (operation (kept x) (kept y)) ≡ operation x y

exact : (operation : ℤ → ℤ → ℤ) (x y : ℤ) → nat_abs x < 2 ^ 63 → nat_abs y < 2 ^ 63 → nat_abs (operation x y) < 2 ^ 63 → Exact operation x y
exact operation x y hx hy h =
    let left : kept x ≡ x = to_z-of_z (small_fits w64 x hx) in
    let right : kept y ≡ y = to_z-of_z (small_fits w64 y hy) in
    let fits = small_fits w64 (operation x y) h in
    record { left = left; fits = rw (left, right) fits; result = rw (left, right) (to_z-of_z fits) }

exact_sum : (x y : ℤ) → nat_abs x ≤ 2 ^ 61 → nat_abs y ≤ 2 ^ 61 → Exact ◌+ℤ◌ x y
exact_sum x y hx hy = exact ◌+ℤ◌ x y (omega arith) (omega arith) (omega (arith, nat_abs_add x y))

pub exact_product : (x y : ℤ) → nat_abs x ≤ 2 ^ 36 → nat_abs y ≤ 2 ^ 24 → Exact ◌*ℤ◌ x y
exact_product x y hx hy = exact ◌*ℤ◌ x y (omega arith) (omega arith) (omega (arith, nat_abs_mul x y, mul-le-mul hx hy))

-- ---- under what plus requires, and what times requires

module _ {f g : Form} (small : Within (2 ^ 61) f × Within (2 ^ 61) g) where
  pub constants_add : Exact ◌+ℤ◌ f.constant g.constant
  constants_add = exact_sum f.constant g.constant small.0.constant small.1.constant

  pub coefficients_add : (i : ℕ) → i < 16 → Exact ◌+ℤ◌ (at f i) (at g i)
  coefficients_add i h = exact_sum (at f i) (at g i) (small.0.coefficient i h) (small.1.coefficient i h)

module _ {f : Form} (k : ℤ) (small : Within (2 ^ 24) f × nat_abs k ≤ 2 ^ 36) where
  pub constant_multiplies : Exact ◌*ℤ◌ k f.constant
  constant_multiplies = exact_product k f.constant small.1 small.0.constant

  pub coefficient_multiplies : (i : ℕ) → i < 16 → Exact ◌*ℤ◌ k (at f i)
  coefficient_multiplies i h = exact_product k (at f i) small.1 (small.0.coefficient i h)

-- ---- arrays

-- the elements below i are a rule's, and so are those below i + 1 after a store at i of the rule's number there
pub rule_more : (rule : ℕ → ℤ) (s : List ℤ) (i : ℕ) (z : ℤ) → i < length s → ((j : ℕ) → j < i → get_or s j (pos 0) ≡ rule j) → z ≡ rule i → (j : ℕ) → j < i + 1 → get_or (set s i z) j (pos 0) ≡ rule j
rule_more rule s i z within below here =
    below_more (λ (j : ℕ). get_or (set s i z) j (pos 0) ≡ rule j) i
    (λ j less. get_or-set_other s i j z (pos 0) (λ same. omega arith) ∙ below j less)
    (get_or-set_same s i z (pos 0) within ∙ here)
