-- Reserve's own answer has the right case, by the second promise of its contract.
use mathlib.Core.Path.{◌≡◌, refl, sym, ◌∙◌, ap}
use mathlib.Core.Bool.{Bool, true, false, cond}
use mathlib.Core.Option.{some, none, some-injective, none-ne-some, some-ne-none}
use lib.Dec.{eqb}
use Rattle.groundwork.proofs.Truth.{eqb-equal}
use Rattle.theory.specs.Text.{Bytes}
use Rattle.theory.specs.Check.{Numbers, verdict_of, refusal_of}
use Rattle.theory.specs.Answers.{passed_on}
use Rattle.theory.specs.Promises.{RightCase}
use Rattle.theory.specs.declared.Reservation.{Reservation}

module _ (text : Bytes) where
  -- a refusal that is passed on has check's numbers
  refused_as : (n : Numbers) → some n ≡ refusal_of text → n ≡ (verdict_of text).returned
  unfolding refusal_of
  refused_as n e = go (eqb (verdict_of text).returned.number 0) e
    where
      go : (b : Bool) → some n ≡ cond b none (some (verdict_of text).returned) → n ≡ (verdict_of text).returned
      go true e = absurd (some-ne-none n e)
      go false e = some-injective n (verdict_of text).returned e

  -- where none is passed on the pack is accepted
  accepted : none ≡ refusal_of text → (verdict_of text).returned.number ≡ 0
  unfolding refusal_of
  accepted e = go (eqb (verdict_of text).returned.number 0) refl e
    where
      go : (b : Bool) → eqb (verdict_of text).returned.number 0 ≡ b → none ≡ cond b none (some (verdict_of text).returned) → (verdict_of text).returned.number ≡ 0
      go true h e = eqb-equal (verdict_of text).returned.number 0 h
      go false h e = absurd (none-ne-some (verdict_of text).returned e)

pub right_case_lem : (text : Bytes) (answer : Reservation) → passed_on answer ≡ refusal_of text → RightCase text answer
right_case_lem text answer promised = record {
  of_pack = λ r is. refused_as text _ (ap passed_on (sym is) ∙ promised);
  of_query = λ r is. accepted text (ap passed_on (sym is) ∙ promised);
}
