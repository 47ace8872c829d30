-- The predicate that a line or a query means: it is declared under the key of what the line states, and the line has a field
-- for each of its arguments.
use mathlib.Core.Path.{◌≡◌, refl, sym, ◌∙◌, ap}
use mathlib.Core.Bool.{Bool, cond}
use mathlib.Core.List.{List}
use mathlib.Core.Option.{Option, some, none, some-injective, none-ne-some}
use Prim.Native.Nat.{ℕ, ◌+◌, ◌-◌}
use native.Mathlib.Omega.{arith}
use lib.Dec.{ltb}
use lib.ListN.{length, drop, length-map, length-drop}
use Rattle.groundwork.proofs.Truth.{by_truth, ltb-ge, ge-ltb}
use Rattle.theory.specs.Text.{Bytes}
use Rattle.theory.specs.declared.Letter.{Letter}
use Rattle.theory.specs.declared.Letter.TheVariants.{C, G, H, B}
use Rattle.theory.specs.Packs.{Predicate, key, claim_key, atom_key, declared_as}
use Rattle.theory.specs.Written.{field, claim_from, atom_from, integer_from}
use Rattle.theory.specs.Faults.{less, line_arity, key_with, declared_for}
use Rattle.theory.specs.Reserve.{query_key, query_from}
use Rattle.theory.proofs.Judging.Keys.{declared_arity}
use Rattle.theory.proofs.Reading.TermFields.{terms_arity}

-- ---- fields less those that are no arguments

pub less_is : (n k m : ℕ) → less n k ≡ some m → n ≡ m + k
unfolding less
less_is n k m = by_truth (λ (b : Bool). cond b none (some (n - k)) ≡ some m → n ≡ m + k) (ltb n k)
    (λ few e. absurd (none-ne-some m e))
    (λ enough e. omega (arith, ltb-ge n k enough, some-injective (n - k) m e))

pub less_plus : (n k m : ℕ) → n ≡ m + k → less n k ≡ some m
unfolding less
less_plus n k m is = rw (ge-ltb n k (omega arith)) (ap some (omega arith))

-- ---- a key that there may be

module _ (name : Bytes) (ps : List Predicate) where
  -- under the key of an arity that is there, what is declared is declared
  pub declared_with : (o : Option ℕ) (n : ℕ) → o ≡ some n → declared_for (key_with name o) ps ≡ declared_as (key name n) ps
  unfolding declared_for
  declared_with o n is = rw is

  -- where something is found, it has the arity
  pub found_arity : (o : Option ℕ) (x : Predicate) → declared_for (key_with name o) ps ≡ some x → o ≡ some x.arguments
  unfolding declared_for
  found_arity none x e = absurd (none-ne-some x e)
  found_arity (some n) x e = ap some (declared_arity (key name n) ps x e)

  -- the same where the arity is a number less another
  module _ (n k : ℕ) (x : Predicate) (found : declared_for (key_with name (less n k)) ps ≡ some x) where
    pub found_less : n ≡ x.arguments + k
    found_less = less_is n k x.arguments (found_arity (less n k) x found)

    pub found_key : declared_as (key name x.arguments) ps ≡ some x
    found_key = sym (declared_with (less n k) x.arguments (found_arity (less n k) x found)) ∙ found

-- ---- the keys of what lines state

pub claim_key_lem : (fields : List Bytes) (n : ℕ) → length fields ≡ n + 3 → claim_key (claim_from fields) ≡ key (field 1 fields) n
unfolding claim_from
claim_key_lem fields n is = ap (key (field 1 fields)) (length-map (drop 3 fields) integer_from ∙ omega (arith, length-drop 3 fields))

pub atom_key_lem : (fields : List Bytes) (n : ℕ) → length fields ≡ n + 2 → atom_key (atom_from fields) ≡ key (field 1 fields) n
unfolding atom_from
atom_key_lem fields n is = ap (key (field 1 fields)) (omega (arith, terms_arity (drop 2 fields), length-drop 2 fields))

-- a query has a size for each field after the first two
pub sizes_count : (fields : List Bytes) → length (query_from fields).sizes ≡ length fields - 2
unfolding query_from
sizes_count fields = length-map (drop 2 fields) _ ∙ length-drop 2 fields

pub query_key_lem : (fields : List Bytes) (n : ℕ) → length fields ≡ n + 2 → query_key (query_from fields) ≡ key (field 0 fields) n
unfolding query_from
query_key_lem fields n is = ap (key (field 0 fields)) (omega (arith, sizes_count fields))

-- lines that state an atom
pub data StatesAtom : Letter → Type 0 where
  fact : StatesAtom G
  head : StatesAtom H
  subgoal : StatesAtom B

pub atom_arity : {l : Letter} → StatesAtom l → (fields : List Bytes) → line_arity l fields ≡ less (length fields) 2
unfolding line_arity
atom_arity StatesAtom.fact fields = refl
atom_arity StatesAtom.head fields = refl
atom_arity StatesAtom.subgoal fields = refl

-- ---- what is found

module _ (fields : List Bytes) (ps : List Predicate) (x : Predicate) where
  module _ (found : declared_for (key_with (field 1 fields) (line_arity C fields)) ps ≡ some x) where
    pub claim_full : length fields ≡ x.arguments + 3
    unfolding line_arity
    claim_full = found_less (field 1 fields) ps (length fields) 3 x found

    pub claim_declared : declared_as (claim_key (claim_from fields)) ps ≡ some x
    unfolding line_arity
    claim_declared = rw (claim_key_lem fields x.arguments claim_full) (found_key (field 1 fields) ps (length fields) 3 x found)

  module _ (found : declared_for (key_with (field 0 fields) (less (length fields) 2)) ps ≡ some x) where
    pub query_full : length fields ≡ x.arguments + 2
    query_full = found_less (field 0 fields) ps (length fields) 2 x found

    pub query_declared : declared_as (query_key (query_from fields)) ps ≡ some x
    query_declared = rw (query_key_lem fields x.arguments query_full) (found_key (field 0 fields) ps (length fields) 2 x found)

  module _ {l : Letter} (states : StatesAtom l) (found : declared_for (key_with (field 1 fields) (line_arity l fields)) ps ≡ some x) where
    pub atom_full : length fields ≡ x.arguments + 2
    atom_full = found_less (field 1 fields) ps (length fields) 2 x (rw (atom_arity states fields) at found)

    pub atom_declared : declared_as (atom_key (atom_from fields)) ps ≡ some x
    atom_declared = rw (atom_key_lem fields x.arguments atom_full) (found_key (field 1 fields) ps (length fields) 2 x (rw (atom_arity states fields) at found))
