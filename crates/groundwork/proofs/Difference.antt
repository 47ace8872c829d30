-- Every integer as a difference of two naturals, so that omega finishes goals on integers.
--     an equation: by-diff₃ _ λ p n q m r o. simp to-diff (diff-eq _ _ _ _ (omega arith))
--     an order, premises and all: by-diff₂ _ λ p n q m. simp to-diff (omega by-naturals)
use mathlib.Core.Path.{◌≡◌, sym, ◌∙◌, ap, subst}
use mathlib.Core.Bool.{Bool, true, false, not, cond}
use Prim.Native.Nat.{ℕ, zero, suc, ◌+◌, ◌*◌, ◌-◌, ◌≤◌}
use native.Mathlib.Omega.{arith}
use lib.Dec.{T, ltb, ltb→lt, nltb→le, leb→le, le→leb}
use lib.IntN.{ℤ, pos, negsuc, neg_ℤ, sub_ℕ, ◌+ℤ◌, ◌*ℤ◌}
use lib.Signed.{◌≤ℤ◌, le_z}

-- p − n; shut, so that simp and omega meet it as it is written
unfoldable pub diff : ℕ → ℕ → ℤ
diff p n = sub_ℕ p n

by_test : (c : Bool) (x y : ℤ) (P : ℤ → Type 0) → (T c → P x) → (T (not c) → P y) → P (cond c x y)
by_test true x y P f g = f tt
by_test false x y P f g = g tt

-- to prove P of p − n: one case where it is pos k, and one where it is negsuc k
pub diff_ind : (P : ℤ → Type 0) (p n : ℕ) → ((k : ℕ) → p ≡ k + n → P (pos k)) → ((k : ℕ) → n ≡ suc k + p → P (negsuc k)) → P (diff p n)
unfolding diff
diff_ind P p n f g =
    by_test (ltb p n) _ _ P
    (λ t. let below = ltb→lt p n t in g (n - suc p) (omega arith))
    (λ t. let above = nltb→le p n t in f (p - n) (omega arith))

-- the same for two differences: the four cases of the signs
pub diff_ind₂ : (P : ℤ → ℤ → Type 0) (p n q m : ℕ)
    → ((k j : ℕ) → p ≡ k + n → q ≡ j + m → P (pos k) (pos j))
    → ((k j : ℕ) → p ≡ k + n → m ≡ suc j + q → P (pos k) (negsuc j))
    → ((k j : ℕ) → n ≡ suc k + p → q ≡ j + m → P (negsuc k) (pos j))
    → ((k j : ℕ) → n ≡ suc k + p → m ≡ suc j + q → P (negsuc k) (negsuc j))
    → P (diff p n) (diff q m)
diff_ind₂ P p n q m both left right neither =
    diff_ind (λ z. P z (diff q m)) p n
    (λ k e. diff_ind (P (pos k)) q m (λ j f. both k j e f) (λ j f. left k j e f))
    (λ k e. diff_ind (P (negsuc k)) q m (λ j f. right k j e f) (λ j f. neither k j e f))

pub pos_diff : (k p n : ℕ) → p ≡ k + n → pos k ≡ diff p n
pos_diff k p n e = diff_ind (λ z. pos k ≡ z) p n (λ j f. ap pos (omega arith)) (λ j f. absurd (omega arith))

pub negsuc_diff : (k p n : ℕ) → n ≡ suc k + p → negsuc k ≡ diff p n
negsuc_diff k p n e = diff_ind (λ z. negsuc k ≡ z) p n (λ j f. absurd (omega arith)) (λ j f. ap negsuc (omega arith))

-- two differences are equal when the cross sums are
pub diff_eq : (p n q m : ℕ) → p + m ≡ q + n → diff p n ≡ diff q m
diff_eq p n q m e =
    diff_ind (λ z. z ≡ diff q m) p n (λ k f. pos_diff k q m (omega arith)) (λ k f. negsuc_diff k q m (omega arith))

-- ---- the operations on differences

pub pos_is : (k : ℕ) → pos k ≡ diff k 0
pos_is k = pos_diff k k 0 (omega arith)

pub negsuc_is : (k : ℕ) → negsuc k ≡ diff 0 (suc k)
negsuc_is k = negsuc_diff k 0 (suc k) (omega arith)

neg_pos : (k : ℕ) → neg_ℤ (pos k) ≡ diff 0 k
neg_pos zero = pos_is 0
neg_pos (suc k) = negsuc_is k

pub neg_diff : (p n : ℕ) → neg_ℤ (diff p n) ≡ diff n p
neg_diff p n =
    diff_ind (λ z. neg_ℤ z ≡ diff n p) p n (λ k e. neg_pos k ∙ diff_eq _ _ _ _ (omega arith)) (λ k e. pos_diff (suc k) n p e)

pub add_diff : (p n q m : ℕ) → diff p n +ℤ diff q m ≡ diff (p + q) (n + m)
unfolding diff
add_diff p n q m =
    diff_ind₂ (λ x y. x +ℤ y ≡ diff (p + q) (n + m)) p n q m
    (λ k j e f. pos_diff (k + j) (p + q) (n + m) (omega arith))
    (λ k j e f. diff_eq k (suc j) (p + q) (n + m) (omega arith))
    (λ k j e f. diff_eq j (suc k) (p + q) (n + m) (omega arith))
    (λ k j e f. negsuc_diff (suc (k + j)) (p + q) (n + m) (omega arith))

pub mul_diff : (p n q m : ℕ) → diff p n *ℤ diff q m ≡ diff (p * q + n * m) (p * m + n * q)
mul_diff p n q m =
    diff_ind₂ (λ x y. x *ℤ y ≡ diff (p * q + n * m) (p * m + n * q)) p n q m
    (λ k j e f. pos_is (k * j) ∙ diff_eq _ _ _ _ (rw (e, f) (omega arith)))
    (λ k j e f. neg_pos (k * suc j) ∙ diff_eq _ _ _ _ (rw (e, f) (omega arith)))
    (λ k j e f. neg_pos (suc k * j) ∙ diff_eq _ _ _ _ (rw (e, f) (omega arith)))
    (λ k j e f. pos_is (suc k * suc j) ∙ diff_eq _ _ _ _ (rw (e, f) (omega arith)))

-- turns a term on integers into one difference
pub ruleset to-diff = (add_diff, mul_diff, neg_diff, pos_is, negsuc_is)

-- ---- the order on differences

from_test : (p n q m : ℕ) → T (le_z (diff p n) (diff q m)) → p + m ≤ q + n
from_test p n q m =
    diff_ind₂ (λ x y. T (le_z x y) → p + m ≤ q + n) p n q m
    (λ k j e f t. omega (arith, leb→le k j t))
    (λ k j e f t. absurd t)
    (λ k j e f t. omega arith)
    (λ k j e f t. omega (arith, leb→le j k t))

to_test : (p n q m : ℕ) → p + m ≤ q + n → T (le_z (diff p n) (diff q m))
to_test p n q m h =
    diff_ind₂ (λ x y. T (le_z x y)) p n q m
    (λ k j e f. le→leb k j (omega arith))
    (λ k j e f. absurd (omega arith))
    (λ k j e f. tt)
    (λ k j e f. le→leb j k (omega arith))

pub le_diff : (p n q m : ℕ) → p + m ≤ q + n → diff p n ≤ℤ diff q m
le_diff p n q m h = record { le = to_test p n q m h }

pub diff_le : (p n q m : ℕ) → diff p n ≤ℤ diff q m → p + m ≤ q + n
diff_le p n q m h = from_test p n q m h.le

pub nonneg_diff : (p n : ℕ) → pos 0 ≤ℤ diff p n → n ≤ p
nonneg_diff p n h = omega (arith, diff_le 0 0 p n (rw (pos_is 0) at h))

pub diff_nonneg : (p n : ℕ) → n ≤ p → pos 0 ≤ℤ diff p n
diff_nonneg p n h = rw (pos_is 0) (le_diff 0 0 p n (omega arith))

-- what omega reads and proves of an order between differences
pub ruleset by-naturals = (arith, le_diff, diff_le, nonneg_diff, diff_nonneg)

-- ---- every integer is a difference

pub by_diff : (P : ℤ → Type 0) → ((p n : ℕ) → P (diff p n)) → (z : ℤ) → P z
by_diff P f (pos k) = subst P (sym (pos_is k)) (f k 0)
by_diff P f (negsuc k) = subst P (sym (negsuc_is k)) (f 0 (suc k))

pub by_diff₂ : (P : ℤ → ℤ → Type 0) → ((p n q m : ℕ) → P (diff p n) (diff q m)) → (a b : ℤ) → P a b
by_diff₂ P f a b = by_diff (λ z. P z b) (λ p n. by_diff (P (diff p n)) (f p n) b) a

pub by_diff₃ : (P : ℤ → ℤ → ℤ → Type 0) → ((p n q m r o : ℕ) → P (diff p n) (diff q m) (diff r o)) → (a b c : ℤ) → P a b c
by_diff₃ P f a b c = by_diff (λ z. P z b c) (λ p n. by_diff₂ (P (diff p n)) (f p n) b c) a

pub by_diff₄ : (P : ℤ → ℤ → ℤ → ℤ → Type 0) → ((p n q m r o s t : ℕ) → P (diff p n) (diff q m) (diff r o) (diff s t)) → (a b c d : ℤ) → P a b c d
by_diff₄ P f a b c d = by_diff (λ z. P z b c d) (λ p n. by_diff₃ (P (diff p n)) (f p n) b c d) a
