-- What is told of queries, and what reserve returns, in words, for every text and every query.
use mathlib.Core.Path.{◌≡◌, refl, sym, ◌∙◌, ap}
use mathlib.Core.Bool.{Bool, cond}
use lib.Dec.{eqb}
use Rattle.groundwork.proofs.Truth.{by_truth, eqb-equal, eqb-unequal, eqb-different}
use Rattle.theory.specs.Lists.{◌∈◌}
use Rattle.theory.specs.Text.{Bytes}
use Rattle.theory.specs.Packs.{Predicate, Pack}
use Rattle.theory.specs.Written.{pack_of}
use Rattle.theory.specs.Check.{verdict_of}
use Rattle.theory.specs.Reserve.{Query, query_of, query_fault, Fields, reservation, refusal, answer_of, reserve_of}
use Rattle.theory.specs.Limits.{PredicateFits}
use Rattle.theory.specs.Queries.{QueryWritten, QueriesTold, ReserveOutcome, pack_refused, query_refused, ReserveTold}
use Rattle.theory.proofs.Judging.Acceptance.{accepted_pack}
use Rattle.theory.proofs.Reserving.QueryWords.{no_fault, read_again, one_told, query_told, query_written}
use Rattle.theory.proofs.Reserving.Reservations.{Says, bound, impossible, no_bound, reservation_says, bound_exactly, impossible_exactly, none_exactly}
use Rattle.theory.proofs.Reserving.ReserveAnswers.{reserves}

module _ (text query : Bytes) where
  abbrev p : Pack
  p = pack_of text

  abbrev Accepted : Type 0
  Accepted = (verdict_of text).returned.number ≡ 0

  declared_fit : Accepted → (x : Predicate) → x ∈ p.predicates → PredicateFits x
  declared_fit accepted = (accepted_pack text accepted).fits.formed.predicates

  pub queries_told : QueriesTold text query
  queries_told = record {
    told = λ accepted. query_told p (declared_fit accepted) query;
    one = λ accepted n t. sym (one_told p (declared_fit accepted) query t);
    again = λ accepted q f. (no_fault p (declared_fit accepted) q f, read_again p (declared_fit accepted) q f);
  }

  -- ---- one of the outcomes

  said : Accepted → QueryWritten p query (query_of query) → {x : Fields} → Says p (query_of query) x → ReserveOutcome text query x
  said accepted w (bound given) = ReserveOutcome.bound accepted w given
  said accepted w (impossible given) = ReserveOutcome.impossible accepted w given
  said accepted w (no_bound given) = ReserveOutcome.no_bound accepted w given

  answer_outcome : Accepted → ReserveOutcome text query (answer_of p query)
  unfolding answer_of refusal
  answer_outcome accepted =
      by_truth (λ (b : Bool). ReserveOutcome text query (cond b (reservation p (query_of query)) (refusal (query_fault p query)))) (eqb (query_fault p query) 0)
      (λ e. said accepted (query_written p (declared_fit accepted) query (eqb-equal (query_fault p query) 0 e)) (reservation_says p (query_of query)))
      (λ e. query_refused accepted (query_told p (declared_fit accepted) query) (eqb-unequal (query_fault p query) 0 e))

  outcome : ReserveOutcome text query (reserve_of text query)
  unfolding reserve_of refusal
  outcome =
      by_truth (λ (b : Bool). ReserveOutcome text query (cond b (answer_of p query) (refusal (verdict_of text).returned.number))) (eqb (verdict_of text).returned.number 0)
      (λ e. answer_outcome (eqb-equal (verdict_of text).returned.number 0 e))
      (λ e. pack_refused refl (eqb-unequal (verdict_of text).returned.number 0 e))

  -- ---- and no other

  by_query : {q : Query} {x : Fields} → Accepted → QueryWritten p query q → reservation p q ≡ x → x ≡ reserve_of text query
  by_query {q} accepted w says =
      let fits = declared_fit accepted in
      let faultless = ap (query_fault p) w.is_written ∙ no_fault p fits q w.fits in
      let is = ap query_of w.is_written ∙ read_again p fits q w.fits in
      sym (reserves text query accepted faultless ∙ ap (reservation p) is ∙ says)

  one : (x : Fields) → ReserveOutcome text query x → x ≡ reserve_of text query
  unfolding reserve_of answer_of refusal
  one x (pack_refused is refused) = rw (is, eqb-different _ 0 refused)
  one x (query_refused accepted told faulty) = rw (accepted, one_told p (declared_fit accepted) query told, eqb-different _ 0 faulty)
  one x (ReserveOutcome.bound accepted w given) = by_query accepted w ((bound_exactly p _ _ _).1 given)
  one x (ReserveOutcome.impossible accepted w given) = by_query accepted w ((impossible_exactly p _ _).1 given)
  one x (ReserveOutcome.no_bound accepted w given) = by_query accepted w ((none_exactly p _).1 given)

  pub reserve_told : ReserveTold text query
  reserve_told = record { outcome = outcome; one = one }
