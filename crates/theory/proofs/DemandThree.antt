-- Demand 3, from a text's bytes to all that can be derived.
use mathlib.Core.Path.{refl, sym, ◌∙◌, ap}
use Prim.Native.Char.{code}
use Rattle.theory.specs.Text.{Bytes}
use Rattle.theory.specs.Packs.{Pack, Atom}
use Rattle.theory.specs.Written.{pack_of}
use Rattle.theory.specs.Check.{Numbers}
use Rattle.theory.specs.Reserve.{query_of, fields}
use Rattle.theory.specs.Derivations.{GivenFact, ShippedFact, Derivable}
use Rattle.theory.specs.Answers.{numbers_of, reserved_fields}
use Rattle.theory.specs.Promises.{GivenMeet, ClaimsKept, AnswersKept, Kept, DemandThree}
use Rattle.theory.proofs.Judging.Acceptance.{AcceptedPack, accepted_pack, checked_pack}
use Rattle.theory.proofs.Soundness.Derivable.{derivable_meets}
use Rattle.theory.proofs.Reserving.Reservations.{bound_exactly, impossible_exactly}
use Rattle.theory.proofs.Reserving.ReserveAnswers.{answered, asks}
use Rattle.theory.proofs.Reserving.ReserveSound.{bound_kept_lem, none_such_lem}
use Rattle.theory.proofs.Words.{words_kept}

-- (the premise on given facts is asked only of a pack that is accepted)
claims_kept : (text : Bytes) (Given : Atom → Type 0) → (AcceptedPack text → GivenMeet text Given) → ClaimsKept text Given
claims_kept text Given given = record {
  claims_met = λ area e. let s = checked_pack text area e in derivable_meets p Given (given s) s.justified;
  bound_kept = λ query bound claim e.
      let a = answered text query (fields (code "B") bound claim) refl e in
      let s = accepted_pack text a.accepted in
      bound_kept_lem p (Derivable p Given) (derivable_meets p Given (given s) s.justified) (query_of query) (asks p s.fits.formed.predicates query a.faultless) bound claim ((bound_exactly p (query_of query) bound claim).0 a.says);
  none_such = λ query claim e.
      let a = answered text query (fields (code "I") 0 claim) refl e in
      let s = accepted_pack text a.accepted in
      none_such_lem p (Derivable p Given) (derivable_meets p Given (given s) s.justified) (query_of query) (asks p s.fits.formed.predicates query a.faultless) claim ((impossible_exactly p (query_of query) claim).0 a.says);
}
  where
    p : Pack
    p = pack_of text

answers_kept : (text : Bytes) (Given : Atom → Type 0) → ClaimsKept text Given → AnswersKept text Given
answers_kept text Given kept = record {
  accepted = λ area answer promised counts is. kept.claims_met area (ap (λ (n : Numbers). n.number) (sym promised ∙ ap numbers_of is));
  bounded = λ query answer promised bound is. kept.bound_kept query bound.size bound.claim (sym promised ∙ ap reserved_fields is);
  impossible = λ query answer promised claim is. kept.none_such query claim (sym promised ∙ ap reserved_fields is);
}

all_kept : (text : Bytes) (Given : Atom → Type 0) → (AcceptedPack text → GivenMeet text Given) → Kept text Given
all_kept text Given given =
    let claims = claims_kept text Given given in
    record { claims = claims; answers = answers_kept text Given claims; words = words_kept text Given claims }

-- the facts on the `G` lines of an accepted pack keep to the premise
shipped_meet : (text : Bytes) → AcceptedPack text → GivenMeet text (ShippedFact (pack_of text))
shipped_meet text s f shipped =
    let fits = s.fits.formed.facts f shipped.stands in
    record {
      fact = record { predicate = fits.atom.predicate; declared = fits.atom.declared; ground = fits.ground };
      is_given = fits.is_given;
      meets = s.justified.facts f shipped.stands;
    }

pub demand_three : (text : Bytes) → DemandThree text
demand_three text = record {
  general = λ Given given. all_kept text Given (λ s. given);
  all = all_kept text (GivenFact (pack_of text)) (λ s f g. g);
  shipped = all_kept text (ShippedFact (pack_of text)) (shipped_meet text);
}
