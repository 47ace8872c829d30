-- `G`, `H` and `B` lines: faultless exactly if they state a fact, a head or a subgoal that fits; a fact also meets its claims.
use mathlib.Core.Path.{◌≡◌, refl, sym, ◌∙◌, ap, subst}
use mathlib.Core.Bool.{Bool, true, false, not, ◌||◌}
use mathlib.Core.List.{List, [], ◌∷◌, ◌++◌}
use mathlib.Core.Option.{some}
use Prim.Native.Nat.{◌≤◌, ◌<◌}
use native.Mathlib.Omega.{arith}
use lib.Dec.{leb}
use lib.ListN.{length, drop}
use lib.Seq.{drop-cons}
use Rattle.theory.specs.Lists.{every, is_some, is_empty, ending}
use Rattle.theory.specs.Text.{Bytes, is_name}
use Rattle.theory.specs.Terms.{arity, AllWellFormed, all_variables}
use Rattle.theory.specs.Packs.{ruled, Atom, Pack, measure_in, rule_limit, subgoal_limit, variable_limit, term_fields, fact_line, head_line, subgoal_line, on_subgoals, on_facts, on_rules, head_alone, from_rules}
use Rattle.theory.specs.declared.Letter.{Letter}
use Rattle.theory.specs.declared.Letter.TheVariants.{G, H, B}
use Rattle.theory.specs.Written.{field, atom_from, add, on_last}
use Rattle.theory.specs.Residuals.{rule_variables}
use Rattle.theory.specs.Faults.{Manner, Test, test, is_term, line_arity, meant_by, is_given, given_in, ruled_in, last_rule, is_complete, many_variables, may_stand, atom_tests, fact_tests, head_tests, subgoal_tests, tests}
use Rattle.theory.specs.Facts.{is_met, meets_every}
use Rattle.theory.specs.Limits.{AtomFits, FactFits}
use Rattle.groundwork.proofs.Truth.{not-true, not-false, and_left, and_right, and_both, or_not_left, or_not_right, or_neither, leb-gt, gt-leb, ltb-ge, ge-ltb}
use Rattle.groundwork.proofs.Order.{nonneg_test, test_nonneg}
use Rattle.theory.proofs.Reading.Every.{every_member, members_every}
use Rattle.theory.proofs.Judging.Kinds.{ruled_kind, given_kind, given_in_lem, ruled_in_lem}
use Rattle.theory.proofs.Judging.Faultless.{Faultless, Adds, Readable}
use Rattle.theory.proofs.Reading.Letters.{letter_field}
use Rattle.theory.proofs.Reading.PlainFields.{Plain, plain_cons, name_plain, letter_plain}
use Rattle.theory.proofs.Reading.Presence.{some_is, is_some_lem, is_empty_lem, empty_is, is_filled, filled_is}
use Rattle.theory.proofs.Judging.LineKeys.{less_plus, declared_with, StatesAtom, atom_arity, atom_full, atom_declared}
use Rattle.theory.proofs.Judging.Steps.{Step, fact_step, head_step, subgoal_step, MeetsEach}
use Rattle.theory.proofs.Reading.TermFields.{terms_written, terms_formed, written_terms, written_are_terms, written_arity, terms_plain}
use Rattle.theory.proofs.Judging.Tests.{Clear, ◌then◌, clear_parts, both_clear}

-- the fields of an atom's line
abbrev pub atom_line : Letter → Atom → List Bytes
atom_line letter a = letter_field letter ∷ a.name ∷ term_fields a.terms

-- ---- from a line

-- what the tests of the three letters tell
record AtomRead (letter : Letter) (is_refused : Bool) (after_name afterTerms : List Test) (fields : List Bytes) (p : Pack) : Type 0 where
  fits : AtomFits p.predicates (atom_from fields)
  found : meant_by letter fields p ≡ some fits.predicate
  again : atom_line letter (atom_from fields) ≡ fields
  allowed : is_refused ≡ false
  named : Clear after_name
  ended : Clear afterTerms

line_again : (letter : Letter) (fields : List Bytes) → 2 ≤ length fields → field 0 fields ≡ letter_field letter
    → term_fields (atom_from fields).terms ≡ drop 2 fields → atom_line letter (atom_from fields) ≡ fields
unfolding atom_from
line_again letter fields long first rest =
    let start = drop-cons fields 0 [] (omega arith) in
    let second = drop-cons fields 1 [] (omega arith) in
    cc

atom_read : (letter : Letter) → StatesAtom letter → (is_refused : Bool) (after_name afterTerms : List Test) (fields : List Bytes) (p : Pack) → field 0 fields ≡ letter_field letter
    → Clear (atom_tests letter is_refused after_name afterTerms fields p) → AtomRead letter is_refused after_name afterTerms fields p
unfolding atom_tests atom_from
atom_read letter states is_refused after_name afterTerms fields p first c =
    let (named, rest) = clear_parts after_name _ c.1.1 in
    let looked = meant_by letter fields p in
    let found = is_some_lem looked (not-false (is_some looked) (or_not_left (not (is_some looked)) is_refused c.1.0)) in
    let many = atom_full fields p.predicates found.0 states found.1 in
    let terms = not-false (every is_term (drop 2 fields)) rest.0 in
    record {
      found = found.1;
      fits = record {
        predicate = found.0;
        declared = atom_declared fields p.predicates found.0 states found.1;
        named = not-false _ c.0;
        formed = terms_formed (drop 2 fields) terms;
      };
      again = line_again letter fields (omega arith) first (terms_written (drop 2 fields) terms);
      allowed = or_not_right (not (is_some looked)) is_refused c.1.0;
      named = named;
      ended = rest.1;
    }

-- the test of 22, and what it says
met_each : (p : Pack) (f : Atom) → meets_every p f ≡ true → MeetsEach (measure_in p) p.claims f
unfolding is_met
met_each p f e c m = record { holds = nonneg_test _ (every_member (is_met (measure_in p) f) e m) }

each_met : (p : Pack) (f : Atom) → MeetsEach (measure_in p) p.claims f → meets_every p f ≡ true
unfolding is_met
each_met p f meets = members_every (is_met (measure_in p) f) _ (λ c m. test_nonneg _ (meets c m).holds)

pub fact_step_lem : {m : Manner} (p : Pack) (fields : List Bytes) → Faultless m G p fields → Step p fields (add G fields p)
unfolding add tests fact_tests may_stand letter_field fact_line
fact_step_lem p fields h =
    let a = atom_from fields in
    let looked = meant_by G fields p in
    let read = atom_read G StatesAtom.fact false (test 20 (ruled_in looked) ∷ []) (test 21 (not (is_empty (all_variables a.terms))) ∷ test 22 (not (meets_every p a)) ∷ []) fields p h.first h.clear in
    let fits = read.fits in
    let is_given = given_kind fits.predicate.kind (sym (ruled_in_lem looked fits.predicate read.found) ∙ read.named.0) in
    let ground = is_empty_lem (all_variables a.terms) (not-false _ read.ended.0) in
    let meets = met_each p a (not-false _ read.ended.1.0) in
    subst (λ (fs : List Bytes). Step p fs (on_facts (ending a) p)) read.again
    (fact_step a (is_empty_lem (from_rules p) h.stands) (record { atom = fits; is_given = is_given; ground = ground }) meets)

pub head_step_lem : {m : Manner} (p : Pack) (fields : List Bytes) → Faultless m H p fields → Step p fields (add H fields p)
unfolding add tests head_tests may_stand letter_field head_line
head_step_lem p fields h =
    let a = atom_from fields in
    let full = leb rule_limit (length p.rules) in
    let looked = meant_by H fields p in
    let read = atom_read H StatesAtom.head (given_in looked) [] (test 12 (full || many_variables a []) ∷ []) fields p h.first h.clear in
    let fits = read.fits in
    let is_ruled = ruled_kind fits.predicate.kind (sym (given_in_lem looked fits.predicate read.found) ∙ read.allowed) in
    let room = leb-gt rule_limit (length p.rules) (or_not_left full (many_variables a []) read.ended.0) in
    let few = ltb-ge variable_limit (length (rule_variables a [])) (or_not_right full (many_variables a []) read.ended.0) in
    subst (λ (fs : List Bytes). Step p fs (on_rules (ending (head_alone a)) p)) read.again (head_step a h.stands fits is_ruled room few)

pub subgoal_step_lem : {m : Manner} (p : Pack) (fields : List Bytes) → Faultless m B p fields → Step p fields (add B fields p)
unfolding add tests subgoal_tests may_stand letter_field subgoal_line
subgoal_step_lem p fields h =
    let a = atom_from fields in
    let r = last_rule p in
    let full = leb subgoal_limit (length r.subgoals) in
    let many = many_variables r.head (r.subgoals ++ (a ∷ [])) in
    let read = atom_read B StatesAtom.subgoal false [] (test 12 (full || many) ∷ []) fields p h.first h.clear in
    let ruleful = is_filled p.rules (not-true (is_empty p.rules) (and_left (not (is_empty p.rules)) (is_empty r.multipliers) h.stands)) in
    let unmultiplied = is_empty_lem r.multipliers (and_right (not (is_empty p.rules)) (is_empty r.multipliers) h.stands) in
    let room = leb-gt subgoal_limit (length r.subgoals) (or_not_left full many read.ended.0) in
    let few = ltb-ge variable_limit (length (rule_variables r.head (r.subgoals ++ (a ∷ [])))) (or_not_right full many read.ended.0) in
    subst (λ (fs : List Bytes). Step p fs (on_rules (on_last (on_subgoals (ending a))) p)) read.again (subgoal_step a ruleful unmultiplied read.fits room few)

-- ---- to a line

module _ (a : Atom) (formed : AllWellFormed a.terms) where
  pub atom_again : (letter : Letter) → atom_from (atom_line letter a) ≡ a
  unfolding atom_from
  atom_again letter = rw (written_terms a.terms formed)

  pub atom_plain : (letter : Letter) → is_name a.name ≡ true → Plain (atom_line letter a)
  atom_plain letter named = plain_cons (letter_plain letter) (plain_cons (name_plain a.name named) (terms_plain a.terms formed))

  pub fact_adds : (p : Pack) → is_name a.name ≡ true → Adds G p (fact_line a) (on_facts (ending a) p)
  unfolding add fact_line letter_field
  fact_adds p named = record { starts = refl; is = ap (λ (b : Atom). on_facts (ending b) p) (atom_again G); plain = atom_plain G named }

  pub head_adds : (p : Pack) → is_name a.name ≡ true → Adds H p (head_line a) (on_rules (ending (head_alone a)) p)
  unfolding add head_line letter_field
  head_adds p named = record { starts = refl; is = ap (λ (b : Atom). on_rules (ending (head_alone b)) p) (atom_again H); plain = atom_plain H named }

  pub subgoal_adds : (p : Pack) → is_name a.name ≡ true → Adds B p (subgoal_line a) (on_rules (on_last (on_subgoals (ending a))) p)
  unfolding add subgoal_line letter_field
  subgoal_adds p named = record { starts = refl; is = ap (λ (b : Atom). on_rules (on_last (on_subgoals (ending b))) p) (atom_again B); plain = atom_plain B named }

module _ (letter : Letter) (states : StatesAtom letter) (p : Pack) (a : Atom) (fits : AtomFits p.predicates a) where
  atom_found : meant_by letter (atom_line letter a) p ≡ some fits.predicate
  atom_found =
      let arity_there = atom_arity states (atom_line letter a) ∙ less_plus _ 2 (arity a.terms) (omega (arith, written_arity a.terms)) in
      declared_with a.name p.predicates (line_arity letter (atom_line letter a)) (arity a.terms) arity_there ∙ fits.declared

  atom_clear : (is_refused : Bool) (after_name afterTerms : List Test) → is_refused ≡ false → Clear after_name → Clear afterTerms → Clear (atom_tests letter is_refused after_name afterTerms (atom_line letter a) p)
  unfolding atom_tests is_some
  atom_clear is_refused after_name afterTerms allowed named ended =
      ap not fits.named
      then or_neither _ _ (ap not (some_is _ _ atom_found)) allowed
      then both_clear after_name _ named (ap not (written_are_terms a.terms fits.formed) then ended)

pub fact_readable : {m : Manner} (p : Pack) (f : Atom) → from_rules p ≡ [] → FactFits p.predicates f → MeetsEach (measure_in p) p.claims f → Readable m G p (fact_line f) (on_facts (ending f) p)
unfolding tests fact_tests may_stand fact_line letter_field is_given
fact_readable p f later fits meets =
    let atom = fits.atom in
    record {
      faultless = record {
        first = refl;
        stands = empty_is (from_rules p) later;
        clear = rw (atom_again f atom.formed G)
            (atom_clear G StatesAtom.fact p f atom false _ _ refl
            ((ruled_in_lem _ atom.predicate (atom_found G StatesAtom.fact p f atom) ∙ rw fits.is_given) then tt)
            (ap not (empty_is (all_variables f.terms) fits.ground) then ap not (each_met p f meets) then tt));
      };
      adds = fact_adds f atom.formed p atom.named;
    }

pub head_readable : {m : Manner} (p : Pack) (a : Atom) → is_complete p ≡ true → (fits : AtomFits p.predicates a) → fits.predicate.kind ≡ ruled
    → length p.rules < rule_limit → length (rule_variables a []) ≤ variable_limit → Readable m H p (head_line a) (on_rules (ending (head_alone a)) p)
unfolding tests head_tests may_stand head_line letter_field is_given
head_readable p a complete fits is_ruled room few =
    record {
      faultless = record {
        first = refl;
        stands = complete;
        clear = rw (atom_again a fits.formed H) (atom_clear H StatesAtom.head p a fits _ [] _ (given_in_lem _ fits.predicate (atom_found H StatesAtom.head p a fits) ∙ rw is_ruled) tt (or_neither _ _ (gt-leb rule_limit _ room) (ge-ltb variable_limit _ few) then tt));
      };
      adds = head_adds a fits.formed p fits.named;
    }

pub subgoal_readable : {m : Manner} (p : Pack) (a : Atom) → (p.rules ≡ [] → ⊥) → (last_rule p).multipliers ≡ [] → AtomFits p.predicates a
    → length (last_rule p).subgoals < subgoal_limit → length (rule_variables (last_rule p).head ((last_rule p).subgoals ++ (a ∷ []))) ≤ variable_limit
    → Readable m B p (subgoal_line a) (on_rules (on_last (on_subgoals (ending a))) p)
unfolding tests subgoal_tests may_stand subgoal_line letter_field
subgoal_readable p a ruleful unmultiplied fits room few =
    let r = last_rule p in
    record {
      faultless = record {
        first = refl;
        stands = and_both (not (is_empty p.rules)) (is_empty r.multipliers) (ap not (filled_is p.rules ruleful)) (empty_is r.multipliers unmultiplied);
        clear = rw (atom_again a fits.formed B) (atom_clear B StatesAtom.subgoal p a fits _ [] _ refl tt (or_neither _ _ (gt-leb subgoal_limit _ room) (ge-ltb variable_limit _ few) then tt));
      };
      adds = subgoal_adds a fits.formed p fits.named;
    }
