-- What each number says of a line, by its letter. Proves LetterTold of specs/LettersTold.
use mathlib.Core.Path.{◌≡◌, refl, sym, ◌∙◌, ap}
use mathlib.Core.Bool.{Bool, true, false, cond, not, ◌&&◌, ◌||◌, or-false}
use mathlib.Core.Logic.{◌⊎◌, inl, inr, ⊎_elim, ◌↔◌}
use mathlib.Core.List.Memᴰ
use mathlib.Core.List.{List, [], ◌∷◌, ◌++◌}
use mathlib.Core.Option.{Option, some, none, none-ne-some, some-ne-none}
use Prim.Native.Nat.{ℕ, ◌≤◌, ◌<◌}
use lib.Dec.{eqb, leb, ltb}
use lib.IntN.{ℤ, pos}
use lib.ListN.{length, drop}
use lib.Signed.{non_neg, ◌<ℤ◌, clash_ℤ}
use Rattle.groundwork.proofs.Truth.{by_truth, never_both, not-true, and_left, and_right, and_both, eqb-equal, equal-eqb, leb-le, le-leb, ltb-lt, lt-ltb}
use Rattle.groundwork.proofs.Lists.{member_split}
use Rattle.groundwork.proofs.Order.{nonneg_test, below_zero}
use Rattle.theory.specs.Lists.{◌∈◌, any, every, is_some, is_empty}
use Rattle.theory.specs.Text.{Bytes, is_name, natural, integer, decimal, fields_of}
use Rattle.theory.specs.Terms.{Term, WrittenAs, read_term, all_variables}
use Rattle.theory.specs.Packs.{given, ruled, Predicate, Claim, Atom, Pack, measure_in, Key, same_key, key_of, claim_key, atom_key, declared_as, claims_on, predicate_limit, claim_limit, rule_limit, subgoal_limit, variable_limit, number_limit}
use Rattle.theory.specs.declared.Letter.{Letter}
use Rattle.theory.specs.declared.Letter.TheVariants.{P, C, G, H, B, M, E, NoLetter}
use Rattle.theory.specs.Written.{line_letter, field, Written, atom_from, multipliers_from, kind_from}
use Rattle.theory.specs.Residuals.{is_justified}
use Rattle.theory.specs.Facts.{claim_at, is_met, meets_every}
use Rattle.theory.specs.Faults.{is_term, is_claim_number, is_multiplier, is_kind, line_arity, meant_by, is_given, given_in, ruled_in, owes_rule, heads_rule, is_headless, may_stand, residual_due, whole, predicate_tests, claim_tests, atom_tests, fact_tests, head_tests, subgoal_tests, multiplier_tests, end_tests, tests, line_tests}
use Rattle.theory.specs.LinesTold.{applying}
use Rattle.theory.specs.LettersTold.{Gives, Meant, AsksDeclared, on_claim, on_fact, on_subgoal, NamesOne, by_predicate, by_claim, by_fact, by_head, by_subgoal, HasTerms, of_fact, of_head, of_subgoal, ArityAndKind, ClaimNumber, Multiplier, SomeNot, Headless, LetterTold}
use Rattle.theory.proofs.Reading.Every.{any_found, any_member, some_failing, every_member}
use Rattle.theory.proofs.Reading.Presence.{is_some_lem, some_is}
use Rattle.theory.proofs.Reading.Spelling.{natural_of_decimal, decimal_of_natural, natural_within, integer_of_signed, signed_of_integer, integer_within}
use Rattle.theory.proofs.Judging.Heads.{on_claim as claim_on, heads_from_test, test_from_heads, owes_from_claim}
use Rattle.theory.proofs.Judging.Keys.{same_key_equal, same_key_here, declared_member}
use Rattle.theory.proofs.Judging.Kinds.{given_kind, ruled_kind}
use Rattle.theory.proofs.Judging.LineKeys.{less_is, less_plus, declared_with, found_arity, claim_key_lem}
use Rattle.theory.proofs.Judging.LinesTold.{is_found, told, five_is}
use Rattle.theory.proofs.Judging.Standing.{not_told, stands_told}
use Rattle.theory.proofs.Reading.FieldValues.{kind_written, written_is_kind}
use Rattle.theory.proofs.Reading.TermReading.{read_of_written, written_of_read}
use Rattle.theory.proofs.Judging.Reached.{Distinct, Reached}

-- ---- the predicate that a line names

-- of distinct predicates each is the one declared under its key
declared_first : (before after : List Predicate) (x : Predicate) → declared_as (key_of x) before ≡ none → declared_as (key_of x) (before ++ x ∷ after) ≡ some x
unfolding declared_as
declared_first [] after x new = rw (same_key_here (key_of x) (key_of x) refl)
declared_first (y ∷ before) after x new =
    by_truth (λ (b : Bool). cond b (some y) (declared_as (key_of x) before) ≡ none → cond b (some y) (declared_as (key_of x) (before ++ x ∷ after)) ≡ some x) (same_key (key_of x) (key_of y))
    (λ here e. absurd (some-ne-none y e)) (λ other e. declared_first before after x e) new

declared_distinct : (ps : List Predicate) → Distinct ps → (x : Predicate) → x ∈ ps → declared_as (key_of x) ps ≡ some x
declared_distinct ps distinct x m = let (before, after, is) = member_split m in rw is (declared_first before after x (distinct before after x is))

-- the arity that a line gives
arity_given : (letter : Letter) (fields : List Bytes) (n : ℕ) → line_arity letter fields ≡ some n → Gives letter fields n
unfolding line_arity
arity_given P fields n e = decimal_of_natural 8 (field 2 fields) n e
arity_given C fields n e = less_is (length fields) 3 n e
arity_given G fields n e = less_is (length fields) 2 n e
arity_given H fields n e = less_is (length fields) 2 n e
arity_given B fields n e = less_is (length fields) 2 n e
arity_given M fields n e = none-ne-some n e
arity_given E fields n e = none-ne-some n e
arity_given NoLetter fields n e = none-ne-some n e

given_arity : (letter : Letter) (fields : List Bytes) (n : ℕ) → n ≤ 8 → Gives letter fields n → line_arity letter fields ≡ some n
unfolding line_arity
given_arity P fields n few e = rw e (natural_of_decimal 8 n few)
given_arity C fields n few e = less_plus (length fields) 3 n e
given_arity G fields n few e = less_plus (length fields) 2 n e
given_arity H fields n few e = less_plus (length fields) 2 n e
given_arity B fields n few e = less_plus (length fields) 2 n e
given_arity M fields n few e = absurd e
given_arity E fields n few e = absurd e
given_arity NoLetter fields n few e = absurd e

module _ (p : Pack) (reached : Reached p) (letter : Letter) (fields : List Bytes) where
  looked_meant : (x : Predicate) → meant_by letter fields p ≡ some x → Meant letter fields p x
  looked_meant x e =
      let arity = found_arity (field 1 fields) p.predicates (line_arity letter fields) x e in
      let found = declared_member _ _ x (sym (declared_with (field 1 fields) p.predicates (line_arity letter fields) x.arguments arity) ∙ e) in
      record { declared = found.0; name = ap (λ (k : Key). k.name) found.1; arity = arity_given letter fields x.arguments arity }

  meant_looked : (x : Predicate) → Meant letter fields p x → meant_by letter fields p ≡ some x
  meant_looked x meant =
      declared_with (field 1 fields) p.predicates (line_arity letter fields) x.arguments (given_arity letter fields x.arguments (reached.predicates x meant.declared).few meant.arity)
      ∙ rw meant.name (declared_distinct p.predicates reached.distinct x meant.declared)

  some_meant : (is_some (meant_by letter fields p) ≡ true) ↔ ((x : Predicate) × Meant letter fields p x)
  some_meant = (λ e. let found = is_some_lem (meant_by letter fields p) e in (found.0, looked_meant found.0 found.1), λ h. some_is (meant_by letter fields p) h.0 (meant_looked h.0 h.1))

  none_meant : (not (is_some (meant_by letter fields p)) ≡ true) ↔ ((x : Predicate) → Meant letter fields p x → ⊥)
  none_meant = (
    λ e x h. never_both (some_meant.1 (x, h)) (not-true _ e),
    λ none. ap not (by_truth (λ (b : Bool). b ≡ false) (is_some (meant_by letter fields p)) (λ e. let (x, h) = some_meant.0 e in absurd (none x h)) (λ e. refl)),
  )

  -- none that is ruled
  none_ruled : ((not (is_some (meant_by letter fields p)) || given_in (meant_by letter fields p)) ≡ true) ↔ ((x : Predicate) → Meant letter fields p x → x.kind ≡ given)
  unfolding is_some given_in is_given
  none_ruled = (
    λ e x h. given_found x (meant_looked x h) e,
    λ all. by_looked all (meant_by letter fields p) refl,
  )
    where
      given_found : (x : Predicate) → meant_by letter fields p ≡ some x → (not (is_some (meant_by letter fields p)) || given_in (meant_by letter fields p)) ≡ true → x.kind ≡ given
      given_found x is e = given_kind x.kind (ap not (rw is at e))

      by_looked : ((x : Predicate) → Meant letter fields p x → x.kind ≡ given) → (o : Option Predicate) → meant_by letter fields p ≡ o → (not (is_some o) || given_in o) ≡ true
      by_looked all none is = refl
      by_looked all (some x) is = rw (all x (looked_meant x is))

  -- one that is ruled
  some_ruled : (ruled_in (meant_by letter fields p) ≡ true) ↔ ((x : Predicate) × Meant letter fields p x × (x.kind ≡ ruled))
  unfolding ruled_in is_given
  some_ruled = (λ e. from (meant_by letter fields p) refl e, λ h. rw (meant_looked h.0 h.1, h.2))
    where
      from : (o : Option Predicate) → meant_by letter fields p ≡ o → ruled_in o ≡ true → (x : Predicate) × Meant letter fields p x × (x.kind ≡ ruled)
      from none is e = never_both e refl
      from (some x) is e = (x, looked_meant x is, ruled_kind x.kind (not-true _ e))

-- ---- tests and words

limit_told : (limit n : ℕ) → (leb limit n ≡ true) ↔ (limit ≤ n)
limit_told limit n = (leb-le limit n, le-leb limit n)

past_told : (limit n : ℕ) → (ltb limit n ≡ true) ↔ (limit < n)
past_told limit n = (ltb-lt limit n, lt-ltb limit n)

one_told : (a b : Bool) {X Y : Type 0} → (a ≡ true) ↔ X → (b ≡ true) ↔ Y → ((a || b) ≡ true) ↔ (X ⊎ Y)
one_told true b x y = (λ e. inl (x.0 refl), λ h. refl)
one_told false b x y = (λ e. inr (y.0 e), λ h. ⊎_elim (λ k. never_both (x.1 k) refl) y.1 h)

some_member : (xs : List Bytes) → (not (is_empty xs) ≡ true) ↔ ((x : Bytes) × (x ∈ xs))
unfolding is_empty
some_member [] = (λ e. never_both e refl, λ h. absurd (Memᴰ.not-nil h.1))
some_member (x ∷ xs) = (λ e. (x, Memᴰ.head refl), λ h. refl)

unmet_told : (p : Pack) (f : Atom) → (not (meets_every p f) ≡ true) ↔ ((c : Claim) × (c ∈ claims_on (atom_key f) p.claims) × (claim_at (measure_in p) f c <ℤ pos 0))
unfolding is_met
unmet_told p f = (
  λ e. let (c, m, fails) = some_failing (is_met (measure_in p) f) (claims_on (atom_key f) p.claims) (not-true _ e) in (c, m, below_zero (claim_at (measure_in p) f c) fails),
  λ h. ap not (by_truth (λ (b : Bool). b ≡ false) (meets_every p f) (λ e. absurd (clash_ℤ h.2 (nonneg_test _ (every_member (is_met (measure_in p) f) e h.1)))) (λ e. refl)),
)

headless_told : (p : Pack) → (any (is_headless p) p.predicates ≡ true) ↔ ((x : Predicate) × Headless p x)
headless_told p = (from, λ h. any_member (is_headless p) (headless h.0 h.1) h.1.declared)
  where
    from : any (is_headless p) p.predicates ≡ true → (x : Predicate) × Headless p x
    from e =
        let (x, m, lacks) = any_found (is_headless p) p.predicates e in
        let owes = and_left (owes_rule p.claims x) (not (heads_rule p.rules x)) lacks in
        let (c, n, same) = any_found (claim_on x) p.claims (and_right (not (is_given x.kind)) (any (claim_on x) p.claims) owes) in (
          x,
          record {
            declared = m;
            is_ruled = ruled_kind x.kind (not-true _ (and_left (not (is_given x.kind)) (any (claim_on x) p.claims) owes));
            claim = c;
            is_claim = n;
            on_it = sym (same_key_equal (key_of x) (claim_key c) same);
            heads_none = λ h. never_both (test_from_heads p x h) (not-true _ (and_right (owes_rule p.claims x) _ lacks));
          },
        )

    headless : (x : Predicate) → Headless p x → is_headless p x ≡ true
    headless x h =
        and_both _ _ (owes_from_claim p x h.is_ruled h.claim h.is_claim h.on_it)
        (ap not (by_truth (λ (b : Bool). b ≡ false) (heads_rule p.rules x) (λ e. absurd (h.heads_none (heads_from_test p x e))) (λ e. refl)))

-- ---- what stands in a field

unequal_told : (n k : ℕ) → (not (eqb n k) ≡ true) ↔ (n ≡ k → ⊥)
unequal_told n k = not_told (eqb n k) (eqb-equal n k, equal-eqb n k)

-- not of every field what a test says of one
some_not_told : (test : Bytes → Bool) {Good : Bytes → Type 0} → ((f : Bytes) → (test f ≡ true) ↔ Good f) → (fs : List Bytes) → (not (every test fs) ≡ true) ↔ SomeNot Good fs
some_not_told test good fs = (
  λ e. let (f, m, fails) = some_failing test fs (not-true _ e) in (f, m, λ g. never_both ((good f).1 g) fails),
  λ h. ap not (by_truth (λ b. b ≡ false) (every test fs) (λ e. absurd (h.2 ((good h.0).0 (every_member test e h.1)))) (λ e. refl)),
)

natural_told : (limit : ℕ) (f : Bytes) → (is_some (natural limit f) ≡ true) ↔ ((n : ℕ) × (n ≤ limit) × (f ≡ decimal n))
natural_told limit f = (
  λ e. let (n, is) = is_some_lem (natural limit f) e in (n, natural_within limit f n is, decimal_of_natural limit f n is),
  λ h. some_is _ h.0 (rw h.2 (natural_of_decimal limit h.0 h.1)),
)

claim_number_told : (f : Bytes) → (is_claim_number f ≡ true) ↔ ClaimNumber f
claim_number_told f = (
  λ e. let (z, is) = is_some_lem (integer number_limit f) e in record { number = z; small = integer_within number_limit f z is; is = signed_of_integer number_limit f z is },
  λ h. some_is _ h.number (rw h.is (integer_of_signed number_limit h.number h.small)),
)

multiplier_told : (f : Bytes) → (is_multiplier f ≡ true) ↔ Multiplier f
multiplier_told f =
    let told = natural_told number_limit f in
    (λ e. let (n, small, is) = told.0 e in record { number = n; small = small; is = is }, λ h. told.1 (h.number, h.small, h.is))

term_told : (f : Bytes) → (is_term f ≡ true) ↔ ((t : Term) × WrittenAs t f)
term_told f = (
  λ e. let (t, is) = is_some_lem (read_term f) e in (t, written_of_read f t is),
  λ h. some_is _ h.0 (rw h.1.is (read_of_written h.0 h.1.formed)),
)

kind_told : (fields : List Bytes) → ((is_some (natural 8 (field 2 fields)) && is_kind (field 3 fields)) ≡ true) ↔ ArityAndKind fields
kind_told fields = (
  λ e.
      let (n, few, is) = (natural_told 8 (field 2 fields)).0 (and_left _ (is_kind (field 3 fields)) e) in
      record { arity = n; few = few; is_arity = is; kind = kind_from (field 3 fields); is_kind = sym (kind_written (field 3 fields) (and_right (is_some (natural 8 (field 2 fields))) _ e)) },
  λ h. and_both _ _ ((natural_told 8 (field 2 fields)).1 (h.arity, h.few, h.is_arity)) (rw h.is_kind (written_is_kind h.kind)),
)

negative_told : (numbers : List ℤ) → (not (is_justified numbers) ≡ true) ↔ ((z : ℤ) × (z ∈ numbers) × (z <ℤ pos 0))
unfolding is_justified
negative_told numbers = (
  λ e. let (z, m, fails) = some_failing non_neg numbers (not-true _ e) in (z, m, below_zero z fails),
  λ h. ap not (by_truth (λ b. b ≡ false) (every non_neg numbers) (λ e. absurd (clash_ℤ h.2 (nonneg_test _ (every_member non_neg e h.1)))) (λ e. refl)),
)

-- ---- the letters

module _ (w : Written) (l : Bytes) (unended : w.ended ≡ false) (reached : Reached w.pack) where
  abbrev p : Pack
  p = w.pack

  abbrev fields : List Bytes
  fields = fields_of l

  -- a number other than 4 and 5 is of the letter's own tests
  of_letter : (letter : Letter) → line_letter l ≡ letter → (n : ℕ) → eqb 4 n ≡ false → eqb 5 n ≡ false → is_found n (line_tests whole w l) ≡ is_found n (tests whole letter fields p)
  of_letter letter is n four five = rw (is, four, five)

  name_told : (not (is_name (field 1 fields)) ≡ true) ↔ (is_name (field 1 fields) ≡ false)
  name_told = (not-true _, ap not)

  unnamed_for : {letter : Letter} → NamesOne letter → line_letter l ≡ letter → (7 ∈ applying w l) ↔ (is_name (field 1 fields) ≡ false)
  unfolding tests predicate_tests claim_tests fact_tests head_tests subgoal_tests atom_tests
  unnamed_for by_predicate is = told w l 7 _ (of_letter P is 7 refl refl ∙ or-false _) name_told
  unnamed_for by_claim is = told w l 7 _ (of_letter C is 7 refl refl ∙ or-false _) name_told
  unnamed_for by_fact is = told w l 7 _ (of_letter G is 7 refl refl ∙ or-false _) name_told
  unnamed_for by_head is = told w l 7 _ (of_letter H is 7 refl refl ∙ or-false _) name_told
  unnamed_for by_subgoal is = told w l 7 _ (of_letter B is 7 refl refl ∙ or-false _) name_told

  undeclared_for : {letter : Letter} → AsksDeclared letter → line_letter l ≡ letter → (8 ∈ applying w l) ↔ ((x : Predicate) → Meant letter fields p x → ⊥)
  unfolding tests claim_tests fact_tests subgoal_tests atom_tests
  undeclared_for on_claim is = told w l 8 _ (of_letter C is 8 refl refl ∙ or-false _) (none_meant p reached C fields)
  undeclared_for on_fact is = told w l 8 _ (of_letter G is 8 refl refl ∙ or-false _ ∙ or-false _) (none_meant p reached G fields)
  undeclared_for on_subgoal is = told w l 8 _ (of_letter B is 8 refl refl ∙ or-false _ ∙ or-false _) (none_meant p reached B fields)

  no_term_for : {letter : Letter} → HasTerms letter → line_letter l ≡ letter → (11 ∈ applying w l) ↔ SomeNot (λ f. (t : Term) × WrittenAs t f) (drop 2 fields)
  unfolding tests fact_tests head_tests subgoal_tests atom_tests
  no_term_for of_fact is = told w l 11 _ (of_letter G is 11 refl refl ∙ or-false _) (some_not_told is_term term_told (drop 2 fields))
  no_term_for of_head is = told w l 11 _ (of_letter H is 11 refl refl ∙ or-false _) (some_not_told is_term term_told (drop 2 fields))
  no_term_for of_subgoal is = told w l 11 _ (of_letter B is 11 refl refl ∙ or-false _) (some_not_told is_term term_told (drop 2 fields))

  pub letter_told : LetterTold p l (applying w l)
  unfolding tests predicate_tests claim_tests atom_tests fact_tests head_tests subgoal_tests multiplier_tests end_tests
  letter_told = record {
    misplaced = told w l 5 _ (five_is w l ∙ rw unended) (not_told (may_stand p (line_letter l)) (stands_told p (line_letter l)));
    unnamed = λ names. unnamed_for names refl;
    declared_already = λ is. told w l 8 _ (of_letter P is 8 refl refl ∙ or-false _) (some_meant p reached P fields);
    undeclared = λ asks. undeclared_for asks refl;
    unruled = λ is. told w l 8 _ (of_letter H is 8 refl refl ∙ or-false _) (none_ruled p reached H fields);
    ruled_fact = λ is. told w l 20 _ (of_letter G is 20 refl refl ∙ or-false _) (some_ruled p reached G fields);
    predicate_fields = λ is. told w l 9 _ (of_letter P is 9 refl refl ∙ or-false _) (unequal_told (length fields) 4);
    multiplier_fields = λ is. told w l 9 _ (of_letter M is 9 refl refl ∙ or-false _) (unequal_told (length fields) _);
    end_fields = λ is. told w l 9 _ (of_letter E is 9 refl refl ∙ or-false _) (unequal_told (length fields) 1);
    no_arity_or_kind = λ is. told w l 10 _ (of_letter P is 10 refl refl ∙ or-false _) (not_told _ (kind_told fields));
    no_claim_number = λ is. told w l 10 _ (of_letter C is 10 refl refl ∙ or-false _) (some_not_told is_claim_number claim_number_told (drop 2 fields));
    no_multiplier = λ is. told w l 10 _ (of_letter M is 10 refl refl ∙ or-false _) (some_not_told is_multiplier multiplier_told (drop 1 fields));
    no_term = λ has. no_term_for has refl;
    predicates = λ is. told w l 12 _ (of_letter P is 12 refl refl ∙ or-false _) (limit_told predicate_limit (length p.predicates));
    claims = λ is n gives. told w l 12 _ (of_letter C is 12 refl refl ∙ or-false _ ∙ ap (λ (k : Key). leb claim_limit (length (claims_on k p.claims))) (claim_key_lem fields n gives)) (limit_told claim_limit _);
    rules = λ is. told w l 12 _ (of_letter H is 12 refl refl ∙ or-false _) (one_told _ _ (limit_told rule_limit _) (past_told variable_limit _));
    subgoals = λ is. told w l 12 _ (of_letter B is 12 refl refl ∙ or-false _) (one_told _ _ (limit_told subgoal_limit _) (past_told variable_limit _));
    unjustified = λ is. told w l 13 _ (of_letter M is 13 refl refl ∙ or-false _) (negative_told (residual_due p (multipliers_from fields)));
    variable = λ is. told w l 21 _ (of_letter G is 21 refl refl ∙ or-false _) (some_member (all_variables (atom_from fields).terms));
    unmet = λ is. told w l 22 _ (of_letter G is 22 refl refl ∙ or-false _) (unmet_told p (atom_from fields));
    headless = λ is. told w l 24 _ (of_letter E is 24 refl refl ∙ or-false _) (headless_told p);
  }
