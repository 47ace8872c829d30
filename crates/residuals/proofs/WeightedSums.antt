-- Sums over places: the first values of a function, and rows times weights.
use mathlib.Core.Path.{◌≡◌, refl, sym, ◌∙◌, ap, ap₂}
use mathlib.Core.Bool.{true, false, cond}
use Prim.Native.Nat.{ℕ, zero, suc, ◌<◌}
use native.Mathlib.Omega.{arith}
use lib.Dec.{eqb}
use lib.IntN.{ℤ, pos, ◌+ℤ◌, ◌-ℤ◌, ◌*ℤ◌, +ℤ_idl, +ℤ_idr, +ℤ_assoc, zero-*ℤ, *ℤ-zero}
use Rattle.groundwork.proofs.Truth.{by_truth, eqb-equal, eqb-unequal, eqb-different}
use Rattle.groundwork.proofs.Difference.{diff_eq, to-diff, by_diff₃}
use Rattle.groundwork.proofs.Ring.{*ℤ_distrib_left, *ℤ_assoc, -ℤ_middle}

pub same_place : (f : ℕ → ℤ) (a b : ℕ) → a ≡ b → f a ≡ f b
same_place f a b e = ap f e

unfoldable pub sum_below : (ℕ → ℤ) → ℕ → ℤ
sum_below f zero = pos 0
sum_below f (suc n) = sum_below f n +ℤ f n

pub sum_same : (f g : ℕ → ℤ) (n : ℕ) → ((k : ℕ) → k < n → f k ≡ g k) → sum_below f n ≡ sum_below g n
unfolding sum_below
sum_same f g zero same = refl
sum_same f g (suc n) same = ap₂ ◌+ℤ◌ (sum_same f g n (λ k less. same k (omega arith))) (same n (omega arith))

pub sum_none : (f : ℕ → ℤ) (n : ℕ) → ((k : ℕ) → k < n → f k ≡ pos 0) → sum_below f n ≡ pos 0
unfolding sum_below
sum_none f zero none = refl
sum_none f (suc n) none = ap₂ ◌+ℤ◌ (sum_none f n (λ k less. none k (omega arith))) (none n (omega arith))

-- the first value by itself
pub sum_first : (f : ℕ → ℤ) (n : ℕ) → sum_below f (suc n) ≡ f 0 +ℤ sum_below (λ k. f (suc k)) n
unfolding sum_below
sum_first f zero = +ℤ_idl (f 0) ∙ sym (+ℤ_idr (f 0))
sum_first f (suc n) = ap (λ z. z +ℤ f (suc n)) (sum_first f n) ∙ +ℤ_assoc (f 0) (sum_below (λ k. f (suc k)) n) (f (suc n))

pub sum_minus : (f g : ℕ → ℤ) (n : ℕ) → sum_below (λ k. f k -ℤ g k) n ≡ sum_below f n -ℤ sum_below g n
unfolding sum_below
sum_minus f g zero = refl
sum_minus f g (suc n) = ap (λ z. z +ℤ (f n -ℤ g n)) (sum_minus f g n) ∙ sym (-ℤ_middle (sum_below f n) (f n) (sum_below g n) (g n))

pub sum_times : (m : ℤ) (f : ℕ → ℤ) (n : ℕ) → sum_below (λ k. m *ℤ f k) n ≡ m *ℤ sum_below f n
unfolding sum_below
sum_times m f zero = sym (*ℤ-zero m)
sum_times m f (suc n) = ap (λ z. z +ℤ m *ℤ f n) (sum_times m f n) ∙ sym (*ℤ_distrib_left m (sum_below f n) (f n))

-- all values but one left out
pub sum_one : (f : ℕ → ℤ) (one n : ℕ) → one < n → sum_below (λ k. cond (eqb one k) (f k) (pos 0)) n ≡ f one
unfolding sum_below
sum_one f one zero less = absurd (omega arith)
sum_one f one (suc n) less = by_truth (λ b. sum_below others n +ℤ cond b (f n) (pos 0) ≡ f one) (eqb one n) last (earlier (sum_one f one n))
  where
    others : ℕ → ℤ
    others k = cond (eqb one k) (f k) (pos 0)

    last : eqb one n ≡ true → sum_below others n +ℤ f n ≡ f one
    last here =
        let is : one ≡ n = eqb-equal one n here in
        let none = sum_none others n (λ k below. rw (eqb-different one k (λ e. omega arith))) in
        rw (none, is) (+ℤ_idl (f n))

    earlier : (one < n → sum_below others n ≡ f one) → eqb one n ≡ false → sum_below others n +ℤ pos 0 ≡ f one
    earlier found not-here = +ℤ_idr (sum_below others n) ∙ found (let differ = eqb-unequal one n not-here in omega arith)

-- ---- rows times weights

-- a weight of its own, at place 0 alone
abbrev pub own : ℤ → ℕ → ℤ
own c zero = c
own c (suc i) = pos 0

-- at one place: the weight of the constant, and eight rows times their weights
abbrev pub weighted_sum : (ℕ → ℤ) → (ℕ → ℤ) → ℕ → ℤ
weighted_sum weight row i = own (weight 0) i +ℤ sum_below (λ k. weight (suc k) *ℤ row k) 8

own_minus : (c d : ℤ) (i : ℕ) → own (c -ℤ d) i ≡ own c i -ℤ own d i
own_minus c d zero = refl
own_minus c d (suc i) = refl

own_times : (m c : ℤ) (i : ℕ) → own (m *ℤ c) i ≡ m *ℤ own c i
own_times m c zero = refl
own_times m c (suc i) = sym (*ℤ-zero m)

own_none : (i : ℕ) → own (pos 0) i ≡ pos 0
own_none zero = refl
own_none (suc i) = refl

pub weighted_same : (u v row : ℕ → ℤ) (i : ℕ) → ((j : ℕ) → j < 9 → u j ≡ v j) → weighted_sum u row i ≡ weighted_sum v row i
weighted_same u v row i same =
    ap₂ ◌+ℤ◌ (ap (λ c. own c i) (same 0 (omega arith))) (sum_same _ _ 8 (λ k less. ap (λ z. z *ℤ row k) (same (suc k) (omega arith))))

pub weighted_none : (row : ℕ → ℤ) (i : ℕ) → weighted_sum (λ j. pos 0) row i ≡ pos 0
weighted_none row i = ap₂ ◌+ℤ◌ (own_none i) (sum_none _ 8 (λ k less. zero-*ℤ (row k)))

minus_*ℤ : (a b c : ℤ) → (a -ℤ b) *ℤ c ≡ a *ℤ c -ℤ b *ℤ c
minus_*ℤ = by_diff₃ _ λ p n q m r o. simp to-diff (diff_eq _ _ _ _ (omega arith))

pub weighted_minus : (u v row : ℕ → ℤ) (i : ℕ) → weighted_sum (λ j. u j -ℤ v j) row i ≡ weighted_sum u row i -ℤ weighted_sum v row i
weighted_minus u v row i =
    let rows = sum_same _ _ 8 (λ k less. minus_*ℤ (u (suc k)) (v (suc k)) (row k)) ∙ sum_minus (λ k. u (suc k) *ℤ row k) (λ k. v (suc k) *ℤ row k) 8 in
    ap₂ ◌+ℤ◌ (own_minus (u 0) (v 0) i) rows ∙ sym (-ℤ_middle (own (u 0) i) _ (own (v 0) i) _)

pub weighted_times : (m : ℤ) (v row : ℕ → ℤ) (i : ℕ) → weighted_sum (λ j. m *ℤ v j) row i ≡ m *ℤ weighted_sum v row i
weighted_times m v row i =
    let rows = sum_same _ _ 8 (λ k less. *ℤ_assoc m (v (suc k)) (row k)) ∙ sum_times m (λ k. v (suc k) *ℤ row k) 8 in
    ap₂ ◌+ℤ◌ (own_times m (v 0) i) rows ∙ sym (*ℤ_distrib_left m (own (v 0) i) _)
