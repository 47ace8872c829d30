-- Each fresh variable, made after others, has the lowest number that makes it another than these and those of the clause.
use mathlib.Core.Path.{◌≡◌, refl, subst}
use mathlib.Core.Logic.{inl, inr, ⊎_elim}
use mathlib.Core.List.{List, [], ◌∷◌, ◌++◌, nil≢cons, head-eq_of_cons-eq, tail-eq_of_cons-eq}
use mathlib.Core.List.Memᴰ
use Prim.Native.Nat.{ℕ, zero, suc, ◌≤◌, ◌<◌}
use lib.ListN.{length}
use Rattle.theory.specs.Lists.{◌∈◌}
use Rattle.theory.specs.Text.{Bytes, bytes}
use Rattle.theory.specs.Terms.{all_variables}
use Rattle.theory.specs.Packs.{Atom}
use Rattle.theory.specs.Residuals.{atoms_variables}
use Rattle.clause_theory.specs.Clauses.{Clause}
use Rattle.clause_theory.specs.Import.{clause_variables, lones, numbered_variable, lowest_from, fresh_variable, fresh_variables, fresh_of}
use Rattle.clause_theory.specs.Imported.{StandsIn, Fresh}
use Rattle.clause_theory.proofs.FreshVariables.{lowest_above, lowest_low, fresh_free}
use Rattle.theory.proofs.Judging.Variables.{among_member, not_among, variable_of_atom}

-- v has the lowest number that makes it another than those that are taken
pub record Lowest (taken : List Bytes) (v : Bytes) : Type 0 where
  pub number : ℕ
  pub from : 1 ≤ number
  pub is : v ≡ numbered_variable number
  pub own : v ∈ taken → ⊥
  pub lowest : (m : ℕ) → 1 ≤ m → m < number → numbered_variable m ∈ taken

fresh_first : (taken : List Bytes) → Lowest taken (fresh_variable taken)
unfolding fresh_variable
fresh_first taken = record {
  number = lowest_from (length taken) 1 taken;
  from = lowest_above taken;
  is = refl;
  own = not_among (fresh_variable taken) taken (fresh_free taken);
  lowest = λ m from below. among_member (numbered_variable m) taken (lowest_low taken m from below);
}

-- it is all the same in which order they were taken
fresh_moved : (x : Bytes) (made taken : List Bytes) (v : Bytes) → Lowest (made ++ (x ∷ taken)) v → Lowest (x ∷ (made ++ taken)) v
fresh_moved x made taken v f = record {
  number = f.number;
  from = f.from;
  is = f.is;
  own = λ m. f.own (inwards m);
  lowest = λ m from below. outwards (f.lowest m from below);
}
  where
    inwards : {y : Bytes} → y ∈ (x ∷ (made ++ taken)) → y ∈ (made ++ (x ∷ taken))
    inwards (Memᴰ.head e) = Memᴰ.append_right made (Memᴰ.head e)
    inwards (Memᴰ.tail m) = ⊎_elim (Memᴰ.append_left (x ∷ taken)) (λ n. Memᴰ.append_right made (Memᴰ.tail n)) (Memᴰ.append_cases made m)

    last : {y : Bytes} → y ∈ (x ∷ taken) → y ∈ (x ∷ (made ++ taken))
    last (Memᴰ.head e) = Memᴰ.head e
    last (Memᴰ.tail m) = Memᴰ.tail (Memᴰ.append_right made m)

    outwards : {y : Bytes} → y ∈ (made ++ (x ∷ taken)) → y ∈ (x ∷ (made ++ taken))
    outwards m = ⊎_elim (λ n. Memᴰ.tail (Memᴰ.append_left taken n)) last (Memᴰ.append_cases made m)

pub fresh_each : (k : ℕ) (taken made later : List Bytes) (v : Bytes) → fresh_variables k taken ≡ made ++ v ∷ later → Lowest (made ++ taken) v
unfolding fresh_variables
fresh_each zero taken [] later v is = absurd (nil≢cons is)
fresh_each zero taken (x ∷ made) later v is = absurd (nil≢cons is)
fresh_each (suc k) taken [] later v is = subst (Lowest taken) (head-eq_of_cons-eq is) (fresh_first taken)
fresh_each (suc k) taken (x ∷ made) later v is =
    subst (λ (y : Bytes). Lowest (y ∷ (made ++ taken)) v) (head-eq_of_cons-eq is) (fresh_moved (fresh_variable taken) made taken v (fresh_each k (fresh_variable taken ∷ taken) made later v (tail-eq_of_cons-eq is)))

-- ---- in a clause

pub stands_from : (c : Clause) (x : Bytes) → x ∈ clause_variables c → StandsIn c x
unfolding atoms_variables
stands_from c x m = at (c.head ∷ c.subgoals) m (λ a n. n)
  where
    at : (atoms : List Atom) → x ∈ atoms_variables atoms → ((a : Atom) → a ∈ atoms → a ∈ (c.head ∷ c.subgoals)) → StandsIn c x
    at [] m all = absurd (Memᴰ.not-nil m)
    at (a ∷ atoms) m all = ⊎_elim (λ n. record { atom = a; is_in = all a (Memᴰ.head refl); has = n }) (λ n. at atoms n (λ b k. all b (Memᴰ.tail k))) (Memᴰ.append_cases (all_variables a.terms) m)

pub from_stands : (c : Clause) (x : Bytes) → StandsIn c x → x ∈ clause_variables c
from_stands c x s = variable_of_atom (c.head ∷ c.subgoals) s.is_in s.has

pub fresh_in : (c : Clause) (made later : List Bytes) (v : Bytes) → fresh_of c ≡ made ++ v ∷ later → Fresh c made v
unfolding numbered_variable bytes
fresh_in c made later v is =
    let l = fresh_each (lones (clause_variables c)) (clause_variables c) made later v is in
    record {
      number = l.number;
      from = l.from;
      is = l.is;
      own = λ taken. l.own (⊎_elim (Memᴰ.append_left (clause_variables c)) (λ s. Memᴰ.append_right made (from_stands c v s)) taken);
      lowest = λ m from below. ⊎_elim inl (λ n. inr (stands_from c (numbered_variable m) n)) (Memᴰ.append_cases made (l.lowest m from below));
    }
