-- The claims on a predicate: of two lists of claims together, and with one claim more.
use mathlib.Core.Path.{◌≡◌, refl, sym, ◌∙◌, ap, subst}
use mathlib.Core.Bool.{Bool, true, false, cond}
use mathlib.Core.List.{List, [], ◌∷◌, ◌++◌}
use Prim.Native.Nat.{ℕ, ◌+◌, ◌≤◌, ◌<◌}
use native.Mathlib.Omega.{arith}
use lib.ListN.{length, length-append}
use Rattle.groundwork.proofs.Truth.{by_truth}
use Rattle.theory.specs.Packs.{Claim, Key, same_key, claim_key, claims_on}
use Rattle.theory.proofs.Judging.Keys.{same_key_refl, same_key_equal}

pub claims_on_kept : (k : Key) (c : Claim) (cs : List Claim) → same_key k (claim_key c) ≡ true → claims_on k (c ∷ cs) ≡ c ∷ claims_on k cs
unfolding claims_on
claims_on_kept k c cs e = rw e

pub claims_on_left_out : (k : Key) (c : Claim) (cs : List Claim) → same_key k (claim_key c) ≡ false → claims_on k (c ∷ cs) ≡ claims_on k cs
unfolding claims_on
claims_on_left_out k c cs e = rw e

pub claims_on_append : (k : Key) (cs ds : List Claim) → claims_on k (cs ++ ds) ≡ claims_on k cs ++ claims_on k ds
unfolding claims_on
claims_on_append k [] ds = refl
claims_on_append k (c ∷ cs) ds =
    by_truth (λ (b : Bool). cond b (c ∷ claims_on k (cs ++ ds)) (claims_on k (cs ++ ds)) ≡ cond b (c ∷ claims_on k cs) (claims_on k cs) ++ claims_on k ds) (same_key k (claim_key c))
    (λ e. ap (λ (l : List Claim). c ∷ l) (claims_on_append k cs ds))
    (λ e. claims_on_append k cs ds)

length_claims_on : (k : Key) (cs ds : List Claim) → length (claims_on k (cs ++ ds)) ≡ length (claims_on k cs) + length (claims_on k ds)
length_claims_on k cs ds = ap length (claims_on_append k cs ds) ∙ length-append (claims_on k cs) (claims_on k ds)

-- with a claim more the limit still holds for every key, if there was room for the claim
pub few_claims_end : (limit : ℕ) (cs : List Claim) (c : Claim) → ((k : Key) → length (claims_on k cs) ≤ limit) → length (claims_on (claim_key c) cs) < limit
    → (k : Key) → length (claims_on k (cs ++ (c ∷ []))) ≤ limit
unfolding claims_on
few_claims_end limit cs c few room k = by_truth (λ (b : Bool). length (claims_on k (cs ++ (c ∷ []))) ≤ limit) (same_key k (claim_key c)) kept left_out
  where
    kept : same_key k (claim_key c) ≡ true → length (claims_on k (cs ++ (c ∷ []))) ≤ limit
    kept e = omega (arith, length_claims_on k cs (c ∷ []), ap length (claims_on_kept k c [] e), subst (λ (l : Key). length (claims_on l cs) < limit) (sym (same_key_equal k (claim_key c) e)) room)

    left_out : same_key k (claim_key c) ≡ false → length (claims_on k (cs ++ (c ∷ []))) ≤ limit
    left_out e = omega (arith, length_claims_on k cs (c ∷ []), ap length (claims_on_left_out k c [] e), few k)

-- a claim counts among those on its own key
pub claims_before : (before after : List Claim) (c : Claim) → length (claims_on (claim_key c) before) < length (claims_on (claim_key c) (before ++ (c ∷ after)))
claims_before before after c = omega (arith, length_claims_on (claim_key c) before (c ∷ after), ap length (claims_on_kept (claim_key c) c after (same_key_refl (claim_key c))))
