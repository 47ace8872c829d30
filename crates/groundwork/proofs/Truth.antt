-- Truth values as equations: a test is `≡ true` or `≡ false`, and what each of the two tells.
use mathlib.Core.Path.{◌≡◌, refl, sym, ◌∙◌, subst}
use mathlib.Core.Bool.{Bool, true, false, not, ◌&&◌, ◌||◌, true≢false, and-eq-true_iff, or-true}
use Prim.Native.Nat.{ℕ}
use lib.Dec.{T, eqb}
-- The kit's own laws on tests of numbers, under names that say both sides.
pub use borrow.Author.Tests.{leb-true as leb-le, leb-false as leb-gt, le-leb, lt-leb as gt-leb}
pub use borrow.Author.Tests.{ltb-true as ltb-lt, ltb-false as ltb-ge, lt-ltb, le-ltb as ge-ltb}
pub use borrow.Author.Tests.{eqb-true as eqb-equal, eqb-false as eqb-unequal, ne_eqb as eqb-different, eq-eqb as equal-eqb}
pub use borrow.Author.Tests.{not-true, not-false}

-- ---- between `T b` and an equation

pub true_from : (b : Bool) → T b → b ≡ true
true_from true t = refl
true_from false t = absurd t

pub holds_from : (b : Bool) → b ≡ true → T b
holds_from b e = subst T (sym e) tt

pub fails_from : (b : Bool) → b ≡ false → T (not b)
fails_from b e = subst (λ (c : Bool). T (not c)) (sym e) tt

-- ---- a test decides

pub record Decides (r : Bool) (P : Type 0) : Type 0 where
  pub yes : r ≡ true → P
  pub no : r ≡ false → P → ⊥

-- ---- cases

pub never_both : {X : Type 0} {b : Bool} → b ≡ true → b ≡ false → X
never_both e f = absurd (true≢false (sym e ∙ f))

-- a case split that keeps the equation
pub by_truth : (P : Bool → Type 0) (b : Bool) → (b ≡ true → P true) → (b ≡ false → P false) → P b
by_truth P true f g = f refl
by_truth P false f g = g refl

-- ---- and, or

pub and_left : (a b : Bool) → (a && b) ≡ true → a ≡ true
and_left a b e = ((and-eq-true_iff a b).0 e).0

pub and_right : (a b : Bool) → (a && b) ≡ true → b ≡ true
and_right a b e = ((and-eq-true_iff a b).0 e).1

pub and_both : (a b : Bool) → a ≡ true → b ≡ true → (a && b) ≡ true
and_both a b e f = (and-eq-true_iff a b).1 (e, f)

pub and_not_left : (a b : Bool) → a ≡ false → (a && b) ≡ false
and_not_left a b e = rw e

pub and_not_right : (a b : Bool) → b ≡ false → (a && b) ≡ false
and_not_right true b e = e
and_not_right false b e = refl

pub or_left : (a b : Bool) → a ≡ true → (a || b) ≡ true
or_left a b e = rw e

pub or_right : (a b : Bool) → b ≡ true → (a || b) ≡ true
or_right a b e = rw e (or-true a)

pub or_not_left : (a b : Bool) → (a || b) ≡ false → a ≡ false
or_not_left true b e = e
or_not_left false b e = refl

pub or_not_right : (a b : Bool) → (a || b) ≡ false → b ≡ false
or_not_right true b e = absurd (true≢false e)
or_not_right false b e = e

pub or_neither : (a b : Bool) → a ≡ false → b ≡ false → (a || b) ≡ false
or_neither a b e f = rw e f

-- ---- equality of numbers

pub eqb_same : (i : ℕ) → eqb i i ≡ true
eqb_same i = equal-eqb i i refl
