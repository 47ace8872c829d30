-- What a bound and "impossible" mean for facts: whenever every fact of some kind meets the claims on its predicate.
use mathlib.Core.Path.{sym, ap, subst}
use Prim.Native.Nat.{ℕ, ◌≤◌}
use native.Mathlib.Omega.{arith}
use lib.Signed.{clash_ℤ}
use Rattle.theory.specs.Lists.{◌∈◌}
use Rattle.theory.specs.Packs.{Claim, Atom, Pack, measure_in, Key, claims_on}
use Rattle.theory.specs.Reserve.{Query, query_key, size_at, HasKnownSizes}
use Rattle.theory.specs.SmallestBound.{UsableClaim, BoundGiven, ImpossibleBy}
use Rattle.theory.specs.Facts.{MeetsAll}
use Rattle.theory.proofs.Reserving.Bounds.{Bounding, numerator_nonneg, asked_bounded}
use Rattle.theory.proofs.Judging.Keys.{on_member}
use Rattle.theory.proofs.Reserving.ClaimWords.{usable_passes, numerator_told, bound_only}
use Rattle.theory.proofs.Reserving.UsableClaims.{numbered_member}
use Rattle.theory.proofs.Reserving.ReserveAnswers.{Asks}

module _ (p : Pack) (Holds : Atom → Type 0)
    (meets : (f : Atom) → Holds f → MeetsAll p f)
    (q : Query) (asks : Asks q)
  where
    bounding : (n : ℕ) (c : Claim) (f : Atom) → UsableClaim p q n c → Holds f → HasKnownSizes (measure_in p) q f → Bounding (measure_in p) q c f
    bounding n c f usable holds known =
        let member = numbered_member usable.numbered in
        let claimed = (on_member (query_key q) p.claims c member).1 in
        record {
          usable = usable_passes q c usable.is_usable;
          coefficients = ap (λ (k : Key). k.arity) (sym claimed);
          terms = ap (λ (k : Key). k.arity) known.of_predicate;
          unknown = asks.unknown;
          known = known.known;
          meets = (meets f holds).meets c (subst (λ k. c ∈ claims_on k p.claims) (sym known.of_predicate) member);
        }

    pub bound_kept_lem : (bound n : ℕ) → BoundGiven p q bound n → (f : Atom) → Holds f → HasKnownSizes (measure_in p) q f → size_at (measure_in p) q.asked f ≤ bound
    bound_kept_lem bound n b f holds known = omega (arith, asked_bounded (measure_in p) q b.claim f (bounding n b.claim f b.usable holds known), bound_only q b.claim b.usable.is_usable bound b.is_bound)

    pub none_such_lem : (n : ℕ) → ImpossibleBy p q n → (f : Atom) → Holds f → HasKnownSizes (measure_in p) q f → ⊥
    none_such_lem n i f holds known = clash_ℤ i.negative (rw (numerator_told q i.claim) at (numerator_nonneg (measure_in p) q i.claim f (bounding n i.claim f i.usable holds known)))
