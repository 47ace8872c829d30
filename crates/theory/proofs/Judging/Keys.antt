-- Keys: the test is equality, and what is found under a key has it.
use mathlib.Core.Path.{◌≡◌, refl, sym, ◌∙◌, ap, ap₂, subst}
use mathlib.Core.Bool.{Bool, true, false, cond}
use mathlib.Core.Logic.{◌⊎◌, inl, inr, ⊎_elim}
use mathlib.Core.List.Memᴰ
use mathlib.Core.List.{List, [], ◌∷◌}
use mathlib.Core.Option.{some, none, some-injective, none-ne-some, some-ne-none}
use Prim.Native.Nat.{ℕ, ◌<◌}
use lib.ListN.{length, get_or}
use Rattle.groundwork.proofs.Truth.{by_truth, never_both, and_left, and_right, and_both, equal-eqb, eqb-equal}
use Rattle.groundwork.proofs.Lists.{get_d_member}
use Rattle.theory.specs.Lists.{◌∈◌}
use Rattle.theory.specs.Text.{same}
use Rattle.theory.specs.Packs.{Predicate, Claim, no_claim, Key, key, same_key, key_of, claim_key, declared_as, claims_on}
use Rattle.theory.proofs.Reading.Bytes.{same_refl, same_equal}
use Rattle.theory.proofs.Reading.Kept.{kept_first, kept_rest, kept_cases}

pub same_key_refl : (k : Key) → same_key k k ≡ true
unfolding same_key
same_key_refl k = and_both _ _ (same_refl k.name) (equal-eqb k.arity k.arity refl)

pub same_key_equal : (k l : Key) → same_key k l ≡ true → k ≡ l
unfolding same_key
same_key_equal k l e = ap₂ key (same_equal k.name l.name (and_left _ _ e)) (eqb-equal k.arity l.arity (and_right (same k.name l.name) _ e))

pub same_key_other : (k l : Key) → (l ≡ k → ⊥) → same_key k l ≡ false
same_key_other k l other = by_truth (λ (b : Bool). b ≡ false) (same_key k l) (λ e. absurd (other (sym (same_key_equal k l e)))) (λ e. refl)

pub same_key_here : (k l : Key) → l ≡ k → same_key k l ≡ true
same_key_here k l here = subst (λ (m : Key). same_key m l ≡ true) here (same_key_refl l)

pub declared_member : (k : Key) (ps : List Predicate) (x : Predicate) → declared_as k ps ≡ some x → (x ∈ ps) × (k ≡ key_of x)
unfolding declared_as
declared_member k [] x e = absurd (none-ne-some x e)
declared_member k (p ∷ ps) x e =
    by_truth (λ t. cond t (some p) (declared_as k ps) ≡ some x → (x ∈ (p ∷ ps)) × (k ≡ key_of x)) (same_key k (key_of p))
    (λ found e. let is = some-injective p x e in (Memᴰ.head (sym is), subst (λ (y : Predicate). k ≡ key_of y) is (same_key_equal k (key_of p) found)))
    (λ other e. let below = declared_member k ps x e in (Memᴰ.tail below.0, below.1))
    e

-- what is declared under a key has its arity
pub declared_arity : (k : Key) (ps : List Predicate) (x : Predicate) → declared_as k ps ≡ some x → k.arity ≡ x.arguments
declared_arity k ps x e = ap (λ (l : Key). l.arity) (declared_member k ps x e).1

-- where nothing is found, nothing has the key
pub declared_none : (k : Key) (ps : List Predicate) → declared_as k ps ≡ none → (x : Predicate) → x ∈ ps → key_of x ≡ k → ⊥
unfolding declared_as
declared_none k [] e x m here = Memᴰ.not-nil m
declared_none k (p ∷ ps) e x m here =
    by_truth (λ t. cond t (some p) (declared_as k ps) ≡ none → ⊥) (same_key k (key_of p))
    (λ found e. some-ne-none p e)
    (λ other e. ⊎_elim (λ is. never_both (same_key_here k (key_of p) (ap key_of (sym is) ∙ here)) other) (λ n. declared_none k ps e x n here) (Memᴰ.cases_cons m))
    e

pub on_member : (k : Key) (cs : List Claim) (c : Claim) → c ∈ claims_on k cs → (c ∈ cs) × (k ≡ claim_key c)
unfolding claims_on
on_member k [] c m = absurd (Memᴰ.not-nil m)
on_member k (d ∷ cs) c m = step (on_member k cs c) (kept_cases (same_key k (claim_key d)) d (claims_on k cs) m)
  where
    step : (c ∈ claims_on k cs → (c ∈ cs) × (k ≡ claim_key c)) → ((c ≡ d) × (same_key k (claim_key d) ≡ true)) ⊎ (c ∈ claims_on k cs) → (c ∈ (d ∷ cs)) × (k ≡ claim_key c)
    step below (inl here) = (Memᴰ.head here.0, subst (λ (y : Claim). k ≡ claim_key y) (sym here.0) (same_key_equal k (claim_key d) here.1))
    step below (inr there) = let found = below there in (Memᴰ.tail found.0, found.1)

pub member_on : (k : Key) (cs : List Claim) (c : Claim) → c ∈ cs → claim_key c ≡ k → c ∈ claims_on k cs
unfolding claims_on
member_on k [] c m here = elim m [ ]
member_on k (d ∷ cs) c (Memᴰ.head is) here = kept_first (same_key k (claim_key d)) d (claims_on k cs) is (same_key_here k (claim_key d) (ap claim_key (sym is) ∙ here))
member_on k (d ∷ cs) c (Memᴰ.tail m) here = kept_rest (same_key k (claim_key d)) d (claims_on k cs) (member_on k cs c m here)

-- each of them has as many coefficients as the key says
pub on_arity : (k : Key) (cs : List Claim) (j : ℕ) → j < length (claims_on k cs) → length (get_or (claims_on k cs) j no_claim).coefficients ≡ k.arity
on_arity k cs j h = ap (λ (l : Key). l.arity) (sym (on_member k cs (get_or (claims_on k cs) j no_claim) (get_d_member (claims_on k cs) j no_claim h)).1)
