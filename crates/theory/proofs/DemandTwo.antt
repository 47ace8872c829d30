-- Demand 2: which packs check accepts, also but for 24, and which bounds reserve gives.
use mathlib.Core.Path.{◌≡◌, refl, sym, ◌∙◌, ap}
use mathlib.Core.Bool.{false}
use mathlib.Core.Logic.{◌↔◌}
use Prim.Native.Char.{code}
use lib.Dec.{eqb}
use Rattle.theory.specs.Text.{Bytes}
use Rattle.theory.specs.Written.{pack_of}
use Rattle.theory.specs.Faults.{whole}
use Rattle.theory.specs.Check.{Judgement}
use Rattle.theory.specs.Reserve.{query_of, Fields, fields, reservation, reserve_of}
use Rattle.theory.specs.SmallestBound.{BoundGiven, ImpossibleBy, NoneUsable}
use Rattle.theory.specs.Promises.{Answerable, DemandTwo, ButForHeads}
use Rattle.theory.proofs.Judging.Acceptance.{check_accepts, acceptable_checks, accepts_but_for_heads, counts_but_for_heads}
use Rattle.theory.proofs.Judging.PackReading.{fits_spelled, lines_write}
use Rattle.theory.proofs.Judging.ButForHeads.{judgements_agree, no_judgement_24, goes_past}
use Rattle.theory.proofs.Reserving.Reservations.{bound_exactly, impossible_exactly, none_exactly}
use Rattle.theory.proofs.Reserving.ReserveAnswers.{answered, reserves}

-- an answer that is no refusal, whatever it says of the pack and the query
exactly : (text query : Bytes) (x : Fields) (Told : Type 0) → eqb x.letter (code "R") ≡ false → (reservation (pack_of text) (query_of query) ≡ x) ↔ Told
    → (reserve_of text query ≡ x) ↔ (Answerable text query × Told)
exactly text query x Told other told = (
  λ e. let a = answered text query x other e in (record { accepted = a.accepted; faultless = a.faultless }, told.0 a.says),
  λ h. reserves text query h.0.accepted h.0.faultless ∙ told.1 h.1,
)

pub demand_two : (text : Bytes) → DemandTwo text
demand_two text = record {
  accepted = λ area. (check_accepts text area, acceptable_checks text area);
  pack = λ a. sym (rw a.is_written (lines_write a.pack (fits_spelled a.pack a.fits)));
  bound = λ query b n. exactly text query (fields (code "B") b n) (BoundGiven (pack_of text) (query_of query) b n) refl (bound_exactly (pack_of text) (query_of query) b n);
  impossible = λ query n. exactly text query (fields (code "I") 0 n) (ImpossibleBy (pack_of text) (query_of query) n) refl (impossible_exactly (pack_of text) (query_of query) n);
  no_bound = λ query. exactly text query (fields (code "N") 0 0) (NoneUsable (pack_of text) (query_of query)) refl (none_exactly (pack_of text) (query_of query));
}

pub but_for_heads_lem : (text : Bytes) → ButForHeads text
but_for_heads_lem text = record {
  accepted = (accepts_but_for_heads text, λ a. ap (λ (j : Judgement). j.returned.number) (counts_but_for_heads text a));
  counts = counts_but_for_heads text;
  never = no_judgement_24 whole text;
  agrees = judgements_agree whole text;
  past = goes_past whole text;
}
