-- A line has no fault exactly if it may come next, and then it writes what it adds.
use mathlib.Core.Path.{◌≡◌, refl, sym, ◌∙◌, ap, subst}
use mathlib.Core.Bool.{Bool, true, false, not, ◌&&◌, ◌||◌}
use mathlib.Core.List.{List, [], ◌∷◌, nil≢cons}
use Prim.Native.Nat.{◌≤◌}
use native.Mathlib.Omega.{arith}
use lib.ListN.{length, drop_of_length-le}
use lib.Seq.{drop-cons}
use Rattle.theory.specs.Lists.{every, any}
use Rattle.theory.specs.Text.{Bytes, bytes, same, between, fields_of}
use Rattle.theory.specs.Packs.{Pack, variable_limit, line, end_line, line_limit}
use Rattle.theory.specs.declared.Letter.{Letter}
use Rattle.theory.specs.declared.Letter.TheVariants.{P, C, G, H, B, M, E, NoLetter}
use Rattle.theory.specs.Written.{line_letter, field, Written, add, write}
use Rattle.theory.specs.Residuals.{rule_variables}
use Rattle.theory.specs.Faults.{test, is_unfit, last_rule, is_complete, may_stand, is_headless, Manner, predicate_tests, claim_tests, atom_tests, fact_tests, head_tests, subgoal_tests, multiplier_tests, end_tests, tests, fault}
use Rattle.groundwork.proofs.Truth.{not-false, never_both, or_not_left, or_not_right, ltb-ge, eqb-equal}
use Rattle.theory.proofs.Judging.AtomLines.{fact_step_lem, head_step_lem, subgoal_step_lem, fact_readable, head_readable, subgoal_readable}
use Rattle.theory.proofs.Judging.ClaimLines.{claim_step_lem, claim_readable}
use Rattle.theory.proofs.Judging.Faultless.{Faultless, Adds, Readable}
use Rattle.theory.proofs.Reading.Letters.{letter_field, letter_of_field, by_letter}
use Rattle.theory.proofs.Judging.MultiplierLines.{multiplier_step_lem, multiplier_readable}
use Rattle.theory.proofs.Reading.PlainFields.{plain_nil, plain_cons, letter_plain, fields_of_line, line_fit}
use Rattle.theory.proofs.Judging.PredicateLines.{predicate_step_lem, predicate_readable}
use Rattle.theory.proofs.Judging.Steps.{Step, predicate_step, claim_step, fact_step, head_step, subgoal_step, multiplier_step}
use Rattle.theory.proofs.Judging.Tests.{Clear, ◌then◌, Numbered, clear_zero, zero_clear}

abbrev pub before : Pack → Written
before p = record { pack = p; ended = false }

abbrev pub after : Pack → Written
after p = record { pack = p; ended = true }

-- as a whole pack, with headless predicates refused or not: check's own manner, and that but for 24
abbrev pub as_whole : Bool → Manner
as_whole refuses = record { allows = may_stand; refuses_headless = refuses }

-- the last test on the `E` line
abbrev pub lacks_head : Bool → Pack → Bool
lacks_head refuses p = refuses && any (is_headless p) p.predicates

-- what a line with no fault is: a step, or the end
pub data Fine (refuses : Bool) (p : Pack) : List Bytes → Written → Type 0 where
  step : {fields : List Bytes} {q : Pack} → Step p fields q → Fine refuses p fields (before q)
  end : is_complete p ≡ true → lacks_head refuses p ≡ false → Fine refuses p end_line (after p)

-- ---- a line without fault

pub tests_numbered : (m : Manner) (letter : Letter) (fields : List Bytes) (p : Pack) → Numbered (tests m letter fields p)
unfolding tests predicate_tests claim_tests atom_tests fact_tests head_tests subgoal_tests multiplier_tests end_tests
tests_numbered m P fields p = omega arith
tests_numbered m C fields p = omega arith
tests_numbered m G fields p = omega arith
tests_numbered m H fields p = omega arith
tests_numbered m B fields p = omega arith
tests_numbered m M fields p = omega arith
tests_numbered m E fields p = omega arith
tests_numbered m NoLetter fields p = tt

-- what the tests say of a line without fault
record Passed (m : Manner) (w : Written) (l : Bytes) : Type 0 where
  fit : is_unfit l ≡ false
  unended : w.ended ≡ false
  stands : m.allows w.pack (line_letter l) ≡ true
  clear : Clear (tests m (line_letter l) (fields_of l) w.pack)

passed : (m : Manner) (w : Written) (l : Bytes) → fault m w l ≡ 0 → Passed m w l
unfolding fault
passed m w l e =
    let stands = m.allows w.pack (line_letter l) in
    let ts = tests m (line_letter l) (fields_of l) w.pack in
    let c = zero_clear (test 4 (is_unfit l) ∷ test 5 (w.ended || not stands) ∷ ts) (omega arith then omega arith then tests_numbered m (line_letter l) (fields_of l) w.pack) e in
    record {
      fit = c.0;
      unended = or_not_left w.ended (not stands) c.1.0;
      stands = not-false stands (or_not_right w.ended (not stands) c.1.0);
      clear = c.1.1;
    }

end_again : {m : Manner} (p : Pack) (fields : List Bytes) → Faultless m E p fields → end_line ≡ fields
unfolding tests end_tests end_line letter_field
end_again p fields h =
    let one : length fields ≡ 1 = eqb-equal (length fields) 1 (not-false _ h.clear.0) in
    let shape = drop-cons fields 0 [] (omega arith) in
    let rest = drop_of_length-le fields {i = 1} (omega arith) in
    let first = h.first in
    cc

-- (for `M` lines the rule must have few variables: the residual's 17 numbers show the coefficients of no more)
fine_letter : (refuses : Bool) (letter : Letter) (p : Pack) (fields : List Bytes) → length (rule_variables (last_rule p).head (last_rule p).subgoals) ≤ variable_limit
    → Faultless (as_whole refuses) letter p fields → Fine refuses p fields (record { pack = add letter fields p; ended = same (letter_field letter) (bytes "E") })
unfolding add may_stand letter_field same bytes tests end_tests
fine_letter refuses P p fields few h = step (predicate_step_lem p fields h)
fine_letter refuses C p fields few h = step (claim_step_lem p fields h)
fine_letter refuses G p fields few h = step (fact_step_lem p fields h)
fine_letter refuses H p fields few h = step (head_step_lem p fields h)
fine_letter refuses B p fields few h = step (subgoal_step_lem p fields h)
fine_letter refuses M p fields few h = step (multiplier_step_lem p fields few h)
fine_letter refuses E p fields few h = subst (λ (fs : List Bytes). Fine refuses p fs (after p)) (end_again p fields h) (end h.stands h.clear.1.0)
fine_letter refuses NoLetter p fields few h = never_both h.stands refl

pub fine_from_fault : (refuses : Bool) (p : Pack) (l : Bytes) → length (rule_variables (last_rule p).head (last_rule p).subgoals) ≤ variable_limit
    → fault (as_whole refuses) (before p) l ≡ 0 → Fine refuses p (fields_of l) (write (before p) l)
unfolding write may_stand
fine_from_fault refuses p l few e =
    let s = passed (as_whole refuses) (before p) l e in
    by_letter Told (field 0 (fields_of l)) lettered (λ stands clear. never_both stands refl) s.stands s.clear
  where
    Told : Letter → Type 0
    Told letter = may_stand p letter ≡ true → Clear (tests (as_whole refuses) letter (fields_of l) p) → Fine refuses p (fields_of l) (record { pack = add letter (fields_of l) p; ended = same (field 0 (fields_of l)) (bytes "E") })

    lettered : (letter : Letter) → field 0 (fields_of l) ≡ letter_field letter → Told letter
    lettered letter first stands clear = rw first (fine_letter refuses letter p (fields_of l) few (record { first = first; stands = stands; clear = clear }))

pub short_from_fault : (m : Manner) (w : Written) (l : Bytes) → fault m w l ≡ 0 → length l ≤ line_limit
unfolding is_unfit
short_from_fault m w l e = ltb-ge line_limit (length l) (or_not_left _ (not (every (between 32 126) l)) (passed m w l e).fit)

-- after `E` nothing may come
pub fault_after_end : (m : Manner) (p : Pack) (l : Bytes) → fault m (after p) l ≡ 0 → ⊥
fault_after_end m p l e = never_both refl (passed m (after p) l e).unended

-- ---- a line written

pub record Read (refuses : Bool) (p : Pack) (fields : List Bytes) (w : Written) : Type 0 where
  pub faultless : fault (as_whole refuses) (before p) (line fields) ≡ 0
  pub writes : write (before p) (line fields) ≡ w

pub end_adds : (p : Pack) → Adds E p end_line p
unfolding add end_line letter_field
end_adds p = record { starts = refl; is = refl; plain = plain_cons (letter_plain E) plain_nil }

end_readable : (refuses : Bool) (p : Pack) → is_complete p ≡ true → lacks_head refuses p ≡ false → Readable (as_whole refuses) E p end_line p
unfolding tests end_tests may_stand end_line letter_field
end_readable refuses p complete headed = record { faultless = record { first = refl; stands = complete; clear = (refl then headed then tt) }; adds = end_adds p }

-- a line that may come next, by its letter
record Lettered (refuses : Bool) (p : Pack) (fields : List Bytes) (w : Written) : Type 0 where
  letter : Letter
  readable : Readable (as_whole refuses) letter p fields w.pack
  ends : same (letter_field letter) (bytes "E") ≡ w.ended

step_lettered : {refuses : Bool} {p q : Pack} {fields : List Bytes} → Step p fields q → Lettered refuses p fields (before q)
unfolding letter_field same bytes
step_lettered {p = p} (predicate_step x later fits new room) = record { letter = P; readable = predicate_readable p x later fits new room; ends = refl }
step_lettered {p = p} (claim_step c ruleless fits room) = record { letter = C; readable = claim_readable p c fits ruleless room; ends = refl }
step_lettered {p = p} (fact_step f later fits meets) = record { letter = G; readable = fact_readable p f later fits meets; ends = refl }
step_lettered {p = p} (head_step a complete fits is_ruled room few) = record { letter = H; readable = head_readable p a complete fits is_ruled room few; ends = refl }
step_lettered {p = p} (subgoal_step a ruleful unmultiplied fits room few) = record { letter = B; readable = subgoal_readable p a ruleful unmultiplied fits room few; ends = refl }
step_lettered {p = p} (multiplier_step ms due fits left) = record { letter = M; readable = multiplier_readable p ms fits due left; ends = refl }

fine_lettered : {refuses : Bool} {p : Pack} {fields : List Bytes} {w : Written} → Fine refuses p fields w → Lettered refuses p fields w
unfolding letter_field same bytes
fine_lettered (step s) = step_lettered s
fine_lettered {refuses} {p} (end complete headed) = record { letter = E; readable = end_readable refuses p complete headed; ends = refl }

-- the line of such fields has them again; so what is written and what is tested of it is known
fields_again : {letter : Letter} {p q : Pack} {fields : List Bytes} → Adds letter p fields q → fields_of (line fields) ≡ fields
fields_again {fields = fields} r = fields_of_line fields (λ e. nil≢cons (sym e ∙ r.starts)) r.plain

pub writes_line : {letter : Letter} {p q : Pack} {fields : List Bytes} → Adds letter p fields q
    → write (before p) (line fields) ≡ record { pack = q; ended = same (letter_field letter) (bytes "E") }
unfolding write
writes_line {letter} r = rw (fields_again r, ap (field 0) r.starts, letter_of_field letter, r.is)

faultless_line : {refuses : Bool} {letter : Letter} {p q : Pack} {fields : List Bytes} → Readable (as_whole refuses) letter p fields q → length (line fields) ≤ line_limit → fault (as_whole refuses) (before p) (line fields) ≡ 0
unfolding fault
faultless_line {letter = letter} {fields = fields} r short =
    let h = r.faultless in
    clear_zero _ (line_fit fields r.adds.plain short then rw (fields_again r.adds, h.first, letter_of_field letter) (ap not h.stands then h.clear))

pub read_fine : (refuses : Bool) (p : Pack) (fields : List Bytes) (w : Written) → Fine refuses p fields w → length (line fields) ≤ line_limit → Read refuses p fields w
read_fine refuses p fields w f short =
    let lettered = fine_lettered f in
    record {
      faultless = faultless_line lettered.readable short;
      writes = writes_line lettered.readable.adds ∙ ap (λ ended. record { pack = w.pack; ended = ended }) lettered.ends;
    }
