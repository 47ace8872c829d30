-- From the tests of a query and the claims' reservation, by the tables, to what reserve answers.
use mathlib.Core.Path.{◌≡◌, refl, sym, ◌∙◌, ap, subst}
use mathlib.Core.Bool.{false}
use Prim.Native.Nat.{ℕ, ◌≤◌}
use native.Mathlib.Omega.{arith}
use lib.Dec.{eqb}
use borrow.Author.Tests.{ne_eqb}
use Rattle.std.specs.Prelude.{Ok, Err}
use Rattle.theory.specs.Text.{Bytes}
use Rattle.theory.specs.Packs.{Pack, Key, claims_on, key_of}
use Rattle.theory.specs.Written.{pack_of}
use Rattle.theory.specs.Check.{Numbers, verdict_of, refusal_of}
use Rattle.theory.specs.Reserve.{query_key, query_of, reservation, refusal, answer_of, reserve_of}
use Rattle.theory.specs.Answers.{numbers_of, refusal_numbers, query_number}
use Rattle.theory.specs.declared.QueryRefusal.{QueryRefusal}
use Rattle.theory.specs.declared.Refusal.{Refusal}
use Rattle.theory.specs.declared.Counts.{Counts}
use Rattle.theory.specs.declared.Reservation.{Reservation}
use Rattle.theory.specs.declared.Reservation.TheVariants.{PackRefused, QueryRefused}
use Rattle.theory.proofs.Judging.Keys.{on_arity}
use Rattle.theory.proofs.Reserving.RefusalNumbers.{refusal_number, query_number_lem}
use Rattle.tables.specs.declared.Tables.{Tables}
use Rattle.tables.specs.Tables.{SafeSignatures, SafeClaims, predicate_at, signature_at, HoldsClaims}
use Rattle.queries.specs.declared.query.Asked.{Asked}
use Rattle.queries.specs.Queries.{Passed, Refuses, Passes}
use Rattle.bounds.specs.Bounds.{ClaimsStand, ReservesBy}
use Rattle.packs.specs.declared.Loaded.{Loaded}
use Rattle.packs.specs.Loading.{Loads}
use Rattle.reservation.specs.Answering.{Answers, Ready, PackHeld, Responds}

-- ---- a query answered from the tables

module _ (query : Bytes) {t : Tables} where
  -- a query with a fault
  pub refused_query : {known : ℕ} (f : QueryRefusal) → Refuses query t.signatures known f → Answers query t known (QueryRefused f)
  unfolding answer_of refusal
  refused_query f refuses = record {
    tells = λ p declares holds. rw (refuses.tells p declares, ne_eqb (query_number f) 0 (λ zero. omega (arith, query_number_lem f))) refl;
    passes_none = refl;
  }

  -- the claims on the query's predicate stand in the table
  stands : (asked : Asked) (p : Pack) (key : Key) → key_of (predicate_at p.predicates asked.predicate) ≡ key → HoldsClaims t.signatures t.claims p.predicates p.claims → Passed p query asked
      → ClaimsStand t.claims (signature_at t.signatures asked.predicate).claims asked (query_of query) (claims_on key p.claims)
  stands asked p key is holds passed = subst (λ (k : Key). ClaimsStand t.claims (signature_at t.signatures asked.predicate).claims asked (query_of query) (claims_on k p.claims)) is (record {
    all = holds.count asked.predicate passed.below;
    at = λ j below. record {
      at = holds.at asked.predicate j passed.below below;
      full = on_arity _ p.claims j below ∙ sym passed.arity;
      known = passed.full;
      asks = passed.asked;
      stand = passed.stand;
    };
  })

  -- a query without fault
  pub answered_query : {known : ℕ} (asked : Asked) → Passes query t.signatures known asked → (b : Reservation) → ReservesBy t.claims (signature_at t.signatures asked.predicate).claims asked b → Answers query t known b
  unfolding answer_of reservation
  answered_query asked passes b reserves = record {
    tells = λ p declares holds.
        let passed = passes.tells p declares in
        let key = query_key (query_of query) in
        reserves.tells (query_of query) (claims_on key p.claims) (stands asked p key passed.is holds passed)
        ∙ rw passed.faultless refl;
    passes_none = reserves.passes_none;
  }

-- ---- a pack that is loaded

is_accepted : (l : Loaded) {counts : Counts} → l.verdict ≡ Ok counts → (numbers_of l.verdict).number ≡ 0
is_accepted l is = ap (λ v. (numbers_of v).number) is

pub ready_accepted : {l : Loaded} {t : Tables} {counts : Counts} → Ready l t → l.verdict ≡ Ok counts → (l.state.predicates ≤ 32) × (SafeSignatures t.signatures) × (SafeClaims t.claims)
ready_accepted {l} ready is = let accepted = is_accepted l is in (ready.few accepted, ready.safe_signatures accepted, ready.safe_claims accepted)

module _ (query : Bytes) {l : Loaded} {t : Tables} where
  pub refused_pack : (r : Refusal) → l.verdict ≡ Err r → Responds l query t (PackRefused r)
  unfolding reserve_of refusal refusal_of
  refused_pack r is = record { tells = λ text held. rw (← returned held, some) refl; passes = λ text held. rw (← returned held, some) refl }
    where
      returned : {text : Bytes} → PackHeld text l t → refusal_numbers r ≡ (verdict_of text).returned
      returned held = sym (ap numbers_of is) ∙ held.judged

      some : eqb (refusal_numbers r).number 0 ≡ false
      some = ne_eqb (refusal_numbers r).number 0 (λ zero. omega (arith, refusal_number r))

  pub answered_pack : {counts : Counts} (r : Reservation) → l.verdict ≡ Ok counts → Answers query t l.state.predicates r → Responds l query t r
  unfolding reserve_of refusal_of
  answered_pack r is answers = record {
    tells = λ text held. rw (fine held) (answers.tells (pack_of text) (held.declares accepted) (held.claimed accepted));
    passes = λ text held. rw (fine held) answers.passes_none;
  }
    where
      accepted : (numbers_of l.verdict).number ≡ 0
      accepted = is_accepted l is

      fine : {text : Bytes} → PackHeld text l t → (verdict_of text).returned.number ≡ 0
      fine held = sym (ap (λ (n : Numbers). n.number) held.judged) ∙ accepted

-- what loading leaves
module _ {text : Bytes} {l : Loaded} {t : Tables} (loads : Loads text l t) where
  pub pack_ready : Ready l t
  pack_ready = record {
    few = λ accepted. (loads.holds accepted).safe.state.predicates;
    safe_signatures = λ accepted. (loads.holds accepted).safe.signatures;
    safe_claims = λ accepted. (loads.holds accepted).safe.claims;
  }

  pub pack_held : PackHeld text l t
  unfolding pack_of
  pack_held = record {
    judged = loads.answer;
    declares = λ accepted. (loads.holds accepted).holds.declares;
    claimed = λ accepted. (loads.holds accepted).holds.claims;
  }
