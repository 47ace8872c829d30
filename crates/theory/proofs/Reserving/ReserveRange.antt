-- How large the fields of reserve's answers are: each has its room in the C word.
use mathlib.Core.Path.{◌≡◌, refl}
use mathlib.Core.Bool.{Bool, cond}
use mathlib.Core.List.Memᴰ
use mathlib.Core.List.{List, [], ◌∷◌}
use mathlib.Core.Option.{Option, some, none}
use Prim.Native.Nat.{ℕ, ◌*◌, ◌^◌, ◌≤◌, ◌<◌}
use native.Mathlib.Nat.{mul-le-mul, div-le_self}
use native.Mathlib.Omega.{arith}
use lib.Dec.{eqb}
use lib.IntN.{ℤ, pos, nat_abs, ◌*ℤ◌}
use lib.ListN.{length}
use Rattle.groundwork.proofs.Magnitude.{nat_abs_add, nat_abs_mul}
use Rattle.groundwork.proofs.Truth.{by_truth, eqb-equal}
use Rattle.theory.specs.Lists.{◌∈◌}
use Rattle.theory.specs.Text.{Bytes}
use Rattle.theory.specs.Packs.{Claim, Pack, number_limit}
use Rattle.theory.specs.Written.{pack_of}
use Rattle.theory.specs.Check.{verdict_of}
use Rattle.theory.specs.Reserve.{Query, query_key, query_of, query_fault, known_part, asked_number, numerator, bound_by, Fields, reservation, refusal, answer_of, reserve_of}
use Rattle.theory.specs.Limits.{Fits}
use Rattle.theory.specs.SmallestBound.{UsableClaim, BoundGiven}
use Rattle.theory.specs.Words.{ReserveRoom}
use Rattle.theory.proofs.Judging.Keys.{declared_member, declared_arity, on_member}
use Rattle.theory.proofs.Judging.Acceptance.{accepted_pack}
use Rattle.theory.proofs.Judging.FaultNumbers.{first_below}
use Rattle.theory.proofs.Reserving.QuerySizes.{AllSmall, query_small}
use Rattle.theory.proofs.Reserving.Reservations.{Says, bound, impossible, no_bound, reservation_says}
use Rattle.theory.proofs.Reserving.ClaimWords.{bound_only}
use Rattle.theory.proofs.Reserving.UsableClaims.{numbered_member}

-- ---- a bound

-- each argument adds at most a claim's largest number times the largest size
known_part_small : (cs : List ℤ) (sizes : List (Option ℕ)) → ((c : ℤ) → c ∈ cs → nat_abs c ≤ number_limit) → AllSmall sizes → nat_abs (known_part cs sizes) ≤ length cs * (number_limit * 65535)
unfolding known_part
known_part_small [] sizes few small = omega arith
known_part_small (c ∷ cs) [] few small = omega arith
known_part_small (c ∷ cs) (none ∷ sizes) few small = omega (arith, known_part_small cs sizes (λ d m. few d (Memᴰ.tail m)) (λ s m. small s (Memᴰ.tail m)))
known_part_small (c ∷ cs) (some s ∷ sizes) few small =
    omega (
      arith,
      nat_abs_add (c *ℤ pos s) (known_part cs sizes),
      nat_abs_mul c (pos s),
      mul-le-mul (few c (Memᴰ.head refl)) (small s (Memᴰ.head refl)),
      known_part_small cs sizes (λ d m. few d (Memᴰ.tail m)) (λ t m. small t (Memᴰ.tail m)),
    )

module _ (p : Pack) (fits : Fits p) (q : Query) (small : AllSmall q.sizes) where
  numerator_small : (c : Claim) → c ∈ p.claims → nat_abs (numerator q c) < 2 ^ 48
  unfolding numerator
  numerator_small c m =
      let fit = fits.formed.claims c m in
      let predicate = fits.formed.predicates fit.predicate (declared_member _ p.predicates fit.predicate fit.declared).0 in
      omega (
        arith,
        nat_abs_add c.constant (known_part c.coefficients q.sizes),
        fit.constant,
        known_part_small c.coefficients q.sizes fit.coefficients small,
        declared_arity _ p.predicates fit.predicate fit.declared,
        predicate.few,
      )

  claimed : {n : ℕ} {c : Claim} → UsableClaim p q n c → c ∈ p.claims
  claimed {n} {c} usable = (on_member (query_key q) p.claims c (numbered_member usable.numbered)).0

  bound_small : (b n : ℕ) → BoundGiven p q b n → b < 2 ^ 48
  unfolding bound_by
  bound_small b n given =
      let c = given.claim in
      omega (arith, bound_only q c given.usable.is_usable b given.is_bound, div-le_self (nat_abs (numerator q c)) (nat_abs (asked_number q c)), numerator_small c (claimed given.usable))

  -- claims are numbered up to 16
  number_small : (n : ℕ) (c : Claim) → UsableClaim p q n c → n < 2 ^ 8
  number_small n c usable = omega (arith, usable.numbered.high, fits.counts.claims (query_key q))

  says_room : {x : Fields} → Says p q x → ReserveRoom x
  says_room (bound {b} {n} given) = record { letter = omega arith; claim = number_small n _ given.usable; middle = bound_small b n given }
  says_room (impossible {n} given) = record { letter = omega arith; claim = number_small n _ given.usable; middle = omega arith }
  says_room (no_bound unusable) = record { letter = omega arith; claim = omega arith; middle = omega arith }

-- ---- what reserve answers

refusal_room : (n : ℕ) → n < 2 ^ 48 → ReserveRoom (refusal n)
unfolding refusal
refusal_room n h = record { letter = omega arith; claim = omega arith; middle = h }

query_fault_small : (p : Pack) (query : Bytes) → query_fault p query < 19
unfolding query_fault
query_fault_small p query = first_below 19 _ (omega arith) (omega arith)

-- (that the pack's refusal has a small number is asked here, and shown where its outcomes are known)
pub reserve_room_lem : (text query : Bytes) → (verdict_of text).returned.number < 2 ^ 8 → ReserveRoom (reserve_of text query)
unfolding reserve_of answer_of
reserve_room_lem text query number =
    by_truth (λ (b : Bool). ReserveRoom (cond b (answer_of (pack_of text) query) (refusal (verdict_of text).returned.number))) (eqb (verdict_of text).returned.number 0)
    (λ e. answer_room (eqb-equal (verdict_of text).returned.number 0 e)) (λ e. refusal_room _ (omega arith))
  where
    answer_room : (verdict_of text).returned.number ≡ 0 → ReserveRoom (cond (eqb (query_fault (pack_of text) query) 0) (reservation (pack_of text) (query_of query)) (refusal (query_fault (pack_of text) query)))
    answer_room e =
        by_truth (λ (b : Bool). ReserveRoom (cond b (reservation (pack_of text) (query_of query)) (refusal (query_fault (pack_of text) query)))) (eqb (query_fault (pack_of text) query) 0)
        (λ f. says_room (pack_of text) (accepted_pack text e).fits (query_of query) (query_small query) (reservation_says (pack_of text) (query_of query)))
        (λ f. refusal_room _ (omega (arith, query_fault_small (pack_of text) query)))
