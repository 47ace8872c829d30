-- `C` lines: faultless exactly if they state a claim that fits.
use mathlib.Core.Path.{◌≡◌, refl, sym, ◌∙◌, ap, subst}
use mathlib.Core.Bool.{true, not}
use mathlib.Core.List.Memᴰ
use mathlib.Core.List.{List, [], ◌∷◌, map}
use mathlib.Core.Option.{some}
use Prim.Native.Nat.{◌≤◌, ◌<◌}
use native.Mathlib.Omega.{arith}
use lib.IntN.{ℤ, pos, nat_abs}
use lib.ListN.{length, length-map, drop}
use lib.Seq.{drop-cons}
use Rattle.theory.specs.Lists.{every, ◌∈◌, ending}
use Rattle.theory.specs.Text.{Bytes, bytes, is_name, integer, signed_decimal}
use Rattle.theory.specs.Packs.{Claim, Pack, claim_limit, number_limit, claim_key, claims_on, claim_line, on_claims, from_facts}
use Rattle.theory.specs.declared.Letter.TheVariants.{C}
use Rattle.theory.specs.Written.{field, claim_from, integer_from, add}
use Rattle.theory.specs.Faults.{Manner, is_claim_number, line_arity, meant_by, may_stand, claim_tests, tests}
use Rattle.theory.specs.Limits.{ClaimFits}
use Rattle.groundwork.proofs.Lists.{all_cons}
use Rattle.groundwork.proofs.Truth.{not-false, leb-gt, gt-leb}
use Rattle.theory.proofs.Reading.Every.{every_first, every_rest}
use Rattle.theory.proofs.Reading.FieldValues.{value_read, values_written, values_within, written_read, written_values}
use Rattle.theory.proofs.Judging.Faultless.{Faultless, Adds, Readable}
use Rattle.theory.proofs.Reading.Letters.{letter_field}
use Rattle.theory.proofs.Reading.PlainFields.{plain_cons, plain_map, name_plain, signed_plain, letter_plain}
use Rattle.theory.proofs.Reading.Presence.{some_is, is_some_lem, is_empty_lem, empty_is}
use Rattle.theory.proofs.Reading.Spelling.{integer_of_signed, signed_of_integer, integer_within}
use Rattle.theory.proofs.Judging.LineKeys.{less_plus, declared_with, claim_full, claim_declared}
use Rattle.theory.proofs.Judging.Steps.{Step, claim_step}
use Rattle.theory.proofs.Judging.Tests.{Clear, ◌then◌}

-- the numbers of a claim, with its constant in front
record Numbers (fields : List Bytes) : Type 0 where
  again : signed_decimal (integer_from (field 2 fields)) ∷ map signed_decimal (map integer_from (drop 3 fields)) ≡ drop 2 fields
  constant : nat_abs (integer_from (field 2 fields)) ≤ number_limit
  coefficients : (z : ℤ) → z ∈ map integer_from (drop 3 fields) → nat_abs z ≤ number_limit

numbers_read : (fields : List Bytes) → 3 ≤ length fields → every is_claim_number (drop 2 fields) ≡ true → Numbers fields
numbers_read fields long h =
    let shape = drop-cons fields 2 [] long in
    let all : every is_claim_number (field 2 fields ∷ drop 3 fields) ≡ true = rw shape at h in
    let number = value_read (integer number_limit) (pos 0) (field 2 fields) (every_first is_claim_number (field 2 fields) (drop 3 fields) all) in
    let digits = signed_of_integer number_limit (field 2 fields) (integer_from (field 2 fields)) number in
    let rest = every_rest is_claim_number (field 2 fields) (drop 3 fields) all in
    record {
      again = rw (values_written (integer number_limit) signed_decimal (pos 0) (signed_of_integer number_limit) (drop 3 fields) rest, ← digits) (sym shape);
      constant = integer_within number_limit (field 2 fields) (integer_from (field 2 fields)) number;
      coefficients = values_within (integer number_limit) (λ (z : ℤ). nat_abs z ≤ number_limit) (pos 0) (integer_within number_limit) (drop 3 fields) rest;
    }

claim_line_again : (fields : List Bytes) → 3 ≤ length fields → field 0 fields ≡ bytes "C" → Numbers fields → claim_line (claim_from fields) ≡ fields
unfolding claim_line claim_from
claim_line_again fields long letter numbers =
    let first = drop-cons fields 0 [] (omega arith) in
    let second = drop-cons fields 1 [] (omega arith) in
    let rest = numbers.again in
    cc

pub claim_step_lem : {m : Manner} (p : Pack) (fields : List Bytes) → Faultless m C p fields → Step p fields (add C fields p)
unfolding add tests claim_tests may_stand claim_from letter_field
claim_step_lem p fields h =
    let d = claim_from fields in
    let c = h.clear in
    let found = is_some_lem (meant_by C fields p) (not-false _ c.1.0) in
    let many = claim_full fields p.predicates found.0 found.1 in
    let numbers = numbers_read fields (omega arith) (not-false _ c.1.1.0) in
    let room = leb-gt claim_limit (length (claims_on (claim_key d) p.claims)) c.1.1.1.0 in
    let fits : ClaimFits p.predicates d = record {
      predicate = found.0;
      declared = claim_declared fields p.predicates found.0 found.1;
      named = not-false _ c.0;
      constant = numbers.constant;
      coefficients = numbers.coefficients;
    } in
    subst (λ (fs : List Bytes). Step p fs (on_claims (ending d) p)) (claim_line_again fields (omega arith) h.first numbers) (claim_step d (is_empty_lem (from_facts p) h.stands) fits room)

module _ (c : Claim) (constant : nat_abs c.constant ≤ number_limit) (coefficients : (z : ℤ) → z ∈ c.coefficients → nat_abs z ≤ number_limit) where
  numbers_again : (z : ℤ) → z ∈ c.constant ∷ c.coefficients → integer number_limit (signed_decimal z) ≡ some z
  numbers_again z m = integer_of_signed number_limit z (all_cons (λ (y : ℤ). nat_abs y ≤ number_limit) constant coefficients z m)

  claim_again : claim_from (claim_line c) ≡ c
  unfolding claim_from claim_line
  claim_again = rw (integer_of_signed number_limit c.constant constant, written_values (integer number_limit) signed_decimal (pos 0) c.coefficients (λ z m. numbers_again z (Memᴰ.tail m)))

  pub claim_adds : (p : Pack) → is_name c.name ≡ true → Adds C p (claim_line c) (on_claims (ending c) p)
  unfolding add claim_line letter_field
  claim_adds p named =
      record {
        starts = refl;
        is = ap (λ (d : Claim). on_claims (ending d) p) claim_again;
        plain = plain_cons (letter_plain C) (plain_cons (name_plain c.name named) (plain_cons (signed_plain c.constant) (plain_map signed_decimal signed_plain c.coefficients)));
      }

module _ (p : Pack) (c : Claim) (fits : ClaimFits p.predicates c) where
  claim_found : meant_by C (claim_line c) p ≡ some fits.predicate
  unfolding line_arity claim_line
  claim_found = declared_with c.name p.predicates _ (length c.coefficients) (less_plus _ 3 _ (omega (arith, length-map c.coefficients signed_decimal))) ∙ fits.declared

  claim_clear : length (claims_on (claim_key c) p.claims) < claim_limit → Clear (claim_tests (claim_line c) p)
  unfolding claim_tests claim_line
  claim_clear room =
      rw (claim_again c fits.constant fits.coefficients)
      (ap not fits.named
      then ap not (some_is (meant_by C (claim_line c) p) _ claim_found)
      then ap not (written_read (integer number_limit) signed_decimal (c.constant ∷ c.coefficients) (numbers_again c fits.constant fits.coefficients))
      then gt-leb claim_limit _ room
      then tt)

  pub claim_readable : {m : Manner} → from_facts p ≡ [] → length (claims_on (claim_key c) p.claims) < claim_limit → Readable m C p (claim_line c) (on_claims (ending c) p)
  unfolding tests may_stand claim_line letter_field
  claim_readable later room =
      record {
        faultless = record { first = refl; stands = empty_is (from_facts p) later; clear = claim_clear room };
        adds = claim_adds c fits.constant fits.coefficients p fits.named;
      }
