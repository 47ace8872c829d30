-- The tests of a letter's line that the opening does: 7 and 8 where the second field names a predicate, then 9 and 10 for `P` and 20
-- for `G`; 9 alone for `M` and `E`.
use mathlib.Core.Path.{◌≡◌, refl, ◌∙◌, ap}
use mathlib.Core.Bool.{Bool, true, false, not, ◌&&◌, ◌||◌}
use mathlib.Core.List.{List, [], ◌∷◌, ◌++◌}
use mathlib.Core.Option.{Option, some, none}
use Prim.Native.Nat.{ℕ, ◌+◌}
use native.Mathlib.Omega.{arith}
use lib.Dec.{eqb}
use lib.ListN.{length, drop}
use Rattle.groundwork.proofs.Truth.{never_both, equal-eqb, eqb-different}
use Rattle.theory.specs.Lists.{is_some}
use Rattle.theory.specs.Text.{Bytes, is_name, natural}
use Rattle.theory.specs.Packs.{Predicate, Pack, claims_on_all}
use Rattle.theory.specs.declared.Letter.{Letter}
use Rattle.theory.specs.declared.Letter.TheVariants.{P, C, G, H, B, M, E, NoLetter}
use Rattle.theory.specs.Written.{field}
use Rattle.tables.specs.Faults.{number_of}
use Rattle.tables.specs.Lines.{opening_tests}
use Rattle.opening.specs.Opening.{HasName, Nameless, barred_by}
use Rattle.theory.proofs.Judging.Tests.{Clear, first_passed, first_found, first_clear}
use Rattle.theory.specs.Faults.{Test, test, first_given, is_kind, meant_by, given_in, ruled_in, last_rule, predicate_tests, claim_tests, atom_tests, fact_tests, head_tests, subgoal_tests, multiplier_tests, end_tests, Manner, tests}

-- ---- by letter

-- lines that refer to a predicate declared before
pub data Refers : Letter → Type 0 where
  claim : Refers C
  fact : Refers G
  head : Refers H
  subgoal : Refers B

pub refers_names : {l : Letter} → Refers l → HasName l
refers_names Refers.claim = HasName.claim
refers_names Refers.fact = HasName.fact
refers_names Refers.head = HasName.head
refers_names Refers.subgoal = HasName.subgoal

-- whether the letter's line may not name a predicate that is declared
abbrev pub is_barred : Letter → Option Predicate → Bool
is_barred P found = true
is_barred C found = false
is_barred G found = ruled_in found
is_barred H found = given_in found
is_barred B found = false
is_barred M found = false
is_barred E found = false
is_barred NoLetter found = false

-- what test 8 finds
abbrev pub finds_eight : Letter → List Bytes → Pack → Bool
finds_eight P fields p = is_some (meant_by P fields p)
finds_eight C fields p = not (is_some (meant_by C fields p))
finds_eight G fields p = not (is_some (meant_by G fields p)) || false
finds_eight H fields p = not (is_some (meant_by H fields p)) || given_in (meant_by H fields p)
finds_eight B fields p = not (is_some (meant_by B fields p)) || false
finds_eight M fields p = false
finds_eight E fields p = false
finds_eight NoLetter fields p = false

-- the opening's tests after 8
abbrev pub after_eight : Letter → List Bytes → Pack → List Test
after_eight P fields p = test 9 (not (eqb (length fields) 4)) ∷ test 10 (not (is_some (natural 8 (field 2 fields)) && is_kind (field 3 fields))) ∷ []
after_eight C fields p = []
after_eight G fields p = test 20 (ruled_in (meant_by G fields p)) ∷ []
after_eight H fields p = []
after_eight B fields p = []
after_eight M fields p = []
after_eight E fields p = []
after_eight NoLetter fields p = []

-- the number of fields that a line without a name has
abbrev pub fields_due : Letter → Pack → ℕ
fields_due P p = 0
fields_due C p = 0
fields_due G p = 0
fields_due H p = 0
fields_due B p = 0
fields_due M p = length (claims_on_all p.claims (last_rule p).subgoals) + 1
fields_due E p = 1
fields_due NoLetter p = 0

module _ (fields : List Bytes) (p : Pack) where
  -- ---- what test 8 finds

  pub undeclared_found : {l : Letter} → Refers l → meant_by l fields p ≡ none → finds_eight l fields p ≡ true
  unfolding is_some
  undeclared_found Refers.claim e = rw e
  undeclared_found Refers.fact e = rw e
  undeclared_found Refers.head e = rw e
  undeclared_found Refers.subgoal e = rw e

  pub admitted : (q : Predicate) {l : Letter} → Refers l → meant_by l fields p ≡ some q → is_barred l (some q) ≡ false → (finds_eight l fields p ≡ false) × Clear (after_eight l fields p)
  unfolding is_some
  admitted q Refers.claim e free = (rw e, tt)
  admitted q Refers.fact e free = (rw e, (rw e free, tt))
  admitted q Refers.head e free = (rw e free, tt)
  admitted q Refers.subgoal e free = (rw e, tt)

-- ---- one test after another

module _ (manner : Manner) (fields : List Bytes) (p : Pack) where
  name_tests : {l : Letter} → HasName l → tests manner l fields p ≡ test 7 (not (is_name (field 1 fields))) ∷ test 8 (finds_eight l fields p) ∷ after_eight l fields p ++ drop (opening_tests l) (tests manner l fields p)
  unfolding tests predicate_tests claim_tests atom_tests fact_tests head_tests subgoal_tests
  name_tests HasName.predicate = refl
  name_tests HasName.claim = refl
  name_tests HasName.fact = refl
  name_tests HasName.head = refl
  name_tests HasName.subgoal = refl

  nameless_tests : {l : Letter} → Nameless l → tests manner l fields p ≡ test 9 (not (eqb (length fields) (fields_due l p))) ∷ drop 1 (tests manner l fields p)
  unfolding tests multiplier_tests end_tests
  nameless_tests Nameless.multipliers = refl
  nameless_tests Nameless.end = refl

  module _ (l : Letter) where
    module _ (named : HasName l) where
      pub fault_seven : is_name (field 1 fields) ≡ false → first_given (tests manner l fields p) ≡ 7
      fault_seven unnamed = ap first_given (name_tests named) ∙ first_found 7 _ _ (ap not unnamed)

      module _ (is_named : is_name (field 1 fields) ≡ true) where
        past_seven : first_given (tests manner l fields p) ≡ first_given (test 8 (finds_eight l fields p) ∷ after_eight l fields p ++ drop (opening_tests l) (tests manner l fields p))
        past_seven = ap first_given (name_tests named) ∙ first_passed 7 _ _ (ap not is_named)

        pub fault_eight : finds_eight l fields p ≡ true → first_given (tests manner l fields p) ≡ 8
        fault_eight eight = past_seven ∙ first_found 8 _ _ eight

        module _ (eight : finds_eight l fields p ≡ false) where
          past_eight : first_given (tests manner l fields p) ≡ first_given (after_eight l fields p ++ drop (opening_tests l) (tests manner l fields p))
          past_eight = past_seven ∙ first_passed 8 _ _ eight

          pub past_opening : Clear (after_eight l fields p) → first_given (tests manner l fields p) ≡ first_given (drop (opening_tests l) (tests manner l fields p))
          past_opening clear = past_eight ∙ first_clear (after_eight l fields p) _ clear

    module _ (nameless : Nameless l) where
      pub fault_nine_alone : (length fields ≡ fields_due l p → ⊥) → first_given (tests manner l fields p) ≡ 9
      fault_nine_alone count = ap first_given (nameless_tests nameless) ∙ first_found 9 _ _ (ap not (eqb-different (length fields) (fields_due l p) count))

      pub past_nine_alone : length fields ≡ fields_due l p → first_given (tests manner l fields p) ≡ first_given (drop 1 (tests manner l fields p))
      past_nine_alone count = ap first_given (nameless_tests nameless) ∙ first_passed 9 _ _ (ap not (equal-eqb (length fields) (fields_due l p) count))

  -- a predicate that is new, in a line with another number of fields, or with an arity or a kind that is malformed
  module _ (is_named : is_name (field 1 fields) ≡ true) (eight : finds_eight P fields p ≡ false) where
    abbrev ten : Bool
    ten = not (is_some (natural 8 (field 2 fields)) && is_kind (field 3 fields))

    pub fault_nine : (length fields ≡ 4 → ⊥) → first_given (tests manner P fields p) ≡ 9
    fault_nine count = past_eight P HasName.predicate is_named eight ∙ first_found 9 _ (test 10 ten ∷ drop 4 (tests manner P fields p)) (ap not (eqb-different (length fields) 4 count))

    pub fault_ten : length fields ≡ 4 → ten ≡ true → first_given (tests manner P fields p) ≡ 10
    fault_ten count malformed =
        past_eight P HasName.predicate is_named eight ∙ first_passed 9 _ (test 10 ten ∷ drop 4 (tests manner P fields p)) (ap not (equal-eqb (length fields) 4 count)) ∙ first_found 10 ten (drop 4 (tests manner P fields p)) malformed

-- a declared predicate that the line may not name: 8 for a `P` line and for a head, 20 for a fact
pub fault_barred : (manner : Manner) (fields : List Bytes) (p : Pack) (q : Predicate) {l : Letter} → HasName l → is_name (field 1 fields) ≡ true → meant_by l fields p ≡ some q → is_barred l (some q) ≡ true → first_given (tests manner l fields p) ≡ number_of (barred_by l)
unfolding is_some
fault_barred manner fields p q HasName.predicate is_named e barred = fault_eight manner fields p P HasName.predicate is_named (rw e)
fault_barred manner fields p q HasName.claim is_named e barred = never_both barred refl
fault_barred manner fields p q HasName.fact is_named e barred = past_eight manner fields p G HasName.fact is_named (rw e) ∙ first_found 20 (ruled_in (meant_by G fields p)) (drop 3 (tests manner G fields p)) (rw e barred)
fault_barred manner fields p q HasName.head is_named e barred = fault_eight manner fields p H HasName.head is_named (rw e barred)
fault_barred manner fields p q HasName.subgoal is_named e barred = never_both barred refl

pub barred_other : (l : Letter) → number_of (barred_by l) ≡ 13 → ⊥
barred_other P e = omega arith
barred_other C e = omega arith
barred_other G e = omega arith
barred_other H e = omega arith
barred_other B e = omega arith
barred_other M e = omega arith
barred_other E e = omega arith
barred_other NoLetter e = omega arith
