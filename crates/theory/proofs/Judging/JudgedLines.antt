-- Judging lines from the top: either no line has a fault, or the first that has one decides.
use mathlib.Core.Path.{◌≡◌, refl, ap, subst}
use mathlib.Core.Bool.{Bool, true, false, cond}
use mathlib.Core.List.{List, [], ◌∷◌, ◌++◌}
use Prim.Native.Nat.{ℕ, ◌+◌}
use native.Mathlib.Omega.{arith}
use native.Mathlib.Nat.{add-zero}
use lib.Dec.{eqb}
use lib.ListN.{length}
use Rattle.groundwork.proofs.Truth.{eqb-equal, eqb-unequal}
use Rattle.theory.specs.Text.{Bytes}
use Rattle.theory.specs.Written.{Written, write, write_all}
use Rattle.theory.specs.Faults.{Manner, fault}
use Rattle.theory.specs.Check.{Judgement, numbers, plain, multiplier_lines, refused, judge}
use Rattle.theory.specs.Outcomes.{AllFine}

-- at the end of k lines that write w, none with a fault
abbrev pub at_end : Written → ℕ → Judgement
at_end w k = cond w.ended (plain (numbers 0 k (length w.pack.rules) (multiplier_lines w.pack.rules))) (plain (numbers 6 0 0 0))

-- the judgement of lines in some manner, after k lines that write w
pub data JudgedAs (m : Manner) (w : Written) (k : ℕ) (ls : List Bytes) : Judgement → Type 0 where
  all_fine : AllFine m w ls → JudgedAs m w k ls (at_end (write_all w ls) (k + length ls))
  fault_at : (before : List Bytes) (l : Bytes) (after : List Bytes) → ls ≡ before ++ l ∷ after → AllFine m w before → (fault m (write_all w before) l ≡ 0 → ⊥)
      → JudgedAs m w k ls (refused (write_all w before) (k + length before + 1) l (fault m (write_all w before) l))

-- one line more in front, without a fault
in_front_lem : (m : Manner) (w : Written) (k : ℕ) (l : Bytes) (ls : List Bytes) {j : Judgement} → fault m w l ≡ 0 → JudgedAs m (write w l) (k + 1) ls j → JudgedAs m w k (l ∷ ls) j
unfolding write_all
in_front_lem m w k l ls fine (all_fine rest) =
    subst (λ (n : ℕ). JudgedAs m w k (l ∷ ls) (at_end (write_all (write w l) ls) n)) (omega arith) (all_fine (fine, rest))
in_front_lem m w k l ls fine (fault_at before n after are rest has) =
    let v = write_all (write w l) before in
    subst (λ (i : ℕ). JudgedAs m w k (l ∷ ls) (refused v i n (fault m v n))) (omega arith) (fault_at (l ∷ before) n after (ap (λ (rest : List Bytes). l ∷ rest) are) (fine, rest) has)

pub judged_as : (m : Manner) (w : Written) (k : ℕ) (ls : List Bytes) → JudgedAs m w k ls (judge m w k ls)
unfolding judge write_all
judged_as m w k [] = subst (λ (n : ℕ). JudgedAs m w k [] (at_end w n)) (add-zero k) (all_fine tt)
judged_as m w k (l ∷ ls) = go (eqb (fault m w l) 0) refl (judged_as m (write w l) (k + 1) ls)
  where
    go : (b : Bool) → eqb (fault m w l) 0 ≡ b → JudgedAs m (write w l) (k + 1) ls (judge m (write w l) (k + 1) ls)
        → JudgedAs m w k (l ∷ ls) (cond b (judge m (write w l) (k + 1) ls) (refused w (k + 1) l (fault m w l)))
    go true e rest = in_front_lem m w k l ls (eqb-equal (fault m w l) 0 e) rest
    go false e rest = subst (λ (n : ℕ). JudgedAs m w k (l ∷ ls) (refused w n l (fault m w l))) (omega arith) (fault_at [] l ls refl tt (eqb-unequal (fault m w l) 0 e))
