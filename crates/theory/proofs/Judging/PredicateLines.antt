-- `P` lines: faultless exactly if they declare a predicate that fits.
use mathlib.Core.Path.{◌≡◌, refl, sym, ◌∙◌, ap, subst}
use mathlib.Core.Bool.{true, not}
use mathlib.Core.List.{List, []}
use mathlib.Core.Option.{none}
use Prim.Native.Nat.{◌<◌}
use native.Mathlib.Omega.{arith}
use lib.ListN.{length, drop_of_length-le}
use lib.Seq.{drop-cons}
use Rattle.theory.specs.Lists.{every, is_some, ending}
use Rattle.theory.specs.Text.{Bytes, bytes, natural, decimal}
use Rattle.theory.specs.Packs.{Kind, given, ruled, Predicate, Pack, predicate_limit, key_of, declared_as, kind_letter, predicate_line, on_predicates, from_claims}
use Rattle.theory.specs.declared.Letter.TheVariants.{P}
use Rattle.theory.specs.Written.{field, predicate_from, add}
use Rattle.theory.specs.Faults.{Manner, is_kind, line_arity, meant_by, may_stand, predicate_tests, tests}
use Rattle.theory.specs.Limits.{PredicateFits}
use Rattle.groundwork.proofs.Truth.{not-false, and_left, and_right, and_both, eqb-equal, leb-gt, gt-leb}
use Rattle.theory.proofs.Reading.Bytes.{is_field_byte}
use Rattle.theory.proofs.Reading.FieldValues.{value_read, kind_written, written_kind, written_is_kind}
use Rattle.theory.proofs.Judging.Faultless.{Faultless, Adds, Readable}
use Rattle.theory.proofs.Reading.Letters.{letter_field}
use Rattle.theory.proofs.Reading.PlainFields.{plain_nil, plain_cons, name_plain, decimal_plain, letter_plain}
use Rattle.theory.proofs.Reading.Presence.{none_is, is_none_lem, some_is, is_empty_lem, empty_is}
use Rattle.theory.proofs.Reading.Spelling.{natural_of_decimal, decimal_of_natural, natural_within}
use Rattle.theory.proofs.Judging.LineKeys.{declared_with}
use Rattle.theory.proofs.Judging.Tests.{Clear, ◌then◌}
use Rattle.theory.proofs.Judging.Steps.{Step, predicate_step}

predicate_line_again : (fields : List Bytes) → length fields ≡ 4 → field 0 fields ≡ bytes "P" → field 2 fields ≡ decimal (predicate_from fields).arguments
    → kind_letter (predicate_from fields).kind ≡ field 3 fields → predicate_line (predicate_from fields) ≡ fields
unfolding predicate_line predicate_from
predicate_line_again fields four letter digits kind =
    let first = drop-cons fields 0 [] (omega arith) in
    let second = drop-cons fields 1 [] (omega arith) in
    let third = drop-cons fields 2 [] (omega arith) in
    let fourth = drop-cons fields 3 [] (omega arith) in
    let last = drop_of_length-le fields {i = 4} (omega arith) in
    cc

pub predicate_step_lem : {m : Manner} (p : Pack) (fields : List Bytes) → Faultless m P p fields → Step p fields (add P fields p)
unfolding add tests predicate_tests may_stand predicate_from letter_field line_arity
predicate_step_lem p fields h =
    let x = predicate_from fields in
    let c = h.clear in
    let later = is_empty_lem (from_claims p) h.stands in
    let four = eqb-equal (length fields) 4 (not-false _ c.1.1.0) in
    let valid = not-false _ c.1.1.1.0 in
    let number = value_read (natural 8) 0 (field 2 fields) (and_left (is_some (natural 8 (field 2 fields))) (is_kind (field 3 fields)) valid) in
    let digits = decimal_of_natural 8 (field 2 fields) x.arguments number in
    let new = sym (declared_with x.name p.predicates (natural 8 (field 2 fields)) x.arguments number) ∙ is_none_lem (meant_by P fields p) c.1.0 in
    let kind = kind_written (field 3 fields) (and_right (is_some (natural 8 (field 2 fields))) (is_kind (field 3 fields)) valid) in
    let room = leb-gt predicate_limit (length p.predicates) c.1.1.1.1.0 in
    let fits : PredicateFits x = record { named = not-false _ c.0; few = natural_within 8 (field 2 fields) x.arguments number } in
    subst (λ (fs : List Bytes). Step p fs (on_predicates (ending x) p)) (predicate_line_again fields four h.first digits kind) (predicate_step x later fits new room)

predicate_again : (x : Predicate) → PredicateFits x → predicate_from (predicate_line x) ≡ x
unfolding predicate_from predicate_line
predicate_again x fits = rw (natural_of_decimal 8 x.arguments fits.few, written_kind x.kind)

kind_plain : (k : Kind) → every is_field_byte (kind_letter k) ≡ true
unfolding every kind_letter bytes
kind_plain given = refl
kind_plain ruled = refl

pub predicate_adds : (p : Pack) (x : Predicate) → PredicateFits x → Adds P p (predicate_line x) (on_predicates (ending x) p)
unfolding add predicate_line letter_field
predicate_adds p x fits =
    record {
      starts = refl;
      is = ap (λ (y : Predicate). on_predicates (ending y) p) (predicate_again x fits);
      plain = plain_cons (letter_plain P) (plain_cons (name_plain x.name fits.named) (plain_cons (decimal_plain x.arguments) (plain_cons (kind_plain x.kind) plain_nil)));
    }

predicate_clear : (p : Pack) (x : Predicate) → PredicateFits x → declared_as (key_of x) p.predicates ≡ none → length p.predicates < predicate_limit
    → Clear (predicate_tests (predicate_line x) p)
unfolding predicate_tests predicate_line line_arity
predicate_clear p x fits new room =
    ap not fits.named
    then none_is _ (declared_with x.name p.predicates _ x.arguments (natural_of_decimal 8 x.arguments fits.few) ∙ new)
    then refl
    then ap not (and_both _ _ (some_is _ _ (natural_of_decimal 8 x.arguments fits.few)) (written_is_kind x.kind))
    then gt-leb predicate_limit (length p.predicates) room
    then tt

pub predicate_readable : {m : Manner} (p : Pack) (x : Predicate) → from_claims p ≡ [] → PredicateFits x → declared_as (key_of x) p.predicates ≡ none
    → length p.predicates < predicate_limit → Readable m P p (predicate_line x) (on_predicates (ending x) p)
unfolding tests may_stand predicate_line letter_field
predicate_readable p x later fits new room =
    record {
      faultless = record {
        first = refl;
        stands = empty_is (from_claims p) later;
        clear = predicate_clear p x fits new room;
      };
      adds = predicate_adds p x fits;
    }
