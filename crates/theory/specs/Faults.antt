-- Document 01, the table of "What check returns", with 02's 1/14, 3/14 and 5/14: what is wrong with a line, given what the lines before it write.
use Rattle.std.specs.Prelude.{Bool, true, false, cond, not, ◌&&◌, ◌||◌, List, [], ◌∷◌, ◌++◌, ℕ, ◌+◌, ◌-◌, eqb, leb, ltb, ℤ, length, get_or, drop}
use Rattle.std.proofs.Math.Option.{Option, some, none, map}
use Rattle.theory.specs.Lists.{every, any, is_empty, is_some, ending}
use Rattle.theory.specs.Text.{Bytes, bytes, same, between, is_name, natural, integer, fields_of}
use Rattle.theory.specs.Terms.{nil, read_term, all_variables}
use Rattle.theory.specs.Packs.{Kind, given, ruled, Predicate, Claim, Atom, Rule, Pack, no_claim, head_alone, measure_in, line_limit, predicate_limit, claim_limit, rule_limit, subgoal_limit, variable_limit, number_limit, Key, key, same_key, key_of, claim_key, atom_key, declared_as, claims_on, claims_on_all, from_rules, from_facts, from_claims}
use Rattle.theory.specs.declared.Letter.{Letter}
use Rattle.theory.specs.declared.Letter.TheVariants.{P, C, G, H, B, M, E, NoLetter}
use Rattle.theory.specs.Written.{line_letter, field, Written, claim_from, atom_from, multipliers_from}
use Rattle.theory.specs.Residuals.{residual, rule_variables, residual_numbers, is_justified}
use Rattle.theory.specs.Facts.{meets_every}

-- ## Tests

-- a numbered test, and whether it finds its fault
pub record Test : Type 0 where
  pub number : ℕ
  pub finds : Bool

abbrev pub test : ℕ → Bool → Test
test n b = record { number = n; finds = b }

-- The tests of a line stand in the order in which they apply: by number, and where a later request puts its own. The first
-- that finds its fault decides. 0 is no fault.
unfoldable pub first_given : List Test → ℕ
first_given [] = 0
first_given (t ∷ ts) = cond t.finds t.number (first_given ts)

abbrev pub is_term : Bytes → Bool
is_term f = is_some (read_term f)

abbrev pub is_claim_number : Bytes → Bool
is_claim_number f = is_some (integer number_limit f)

abbrev pub is_multiplier : Bytes → Bool
is_multiplier f = is_some (natural number_limit f)

abbrev pub is_kind : Bytes → Bool
is_kind f = same f (bytes "G") || same f (bytes "R")

-- a line that is too long or has a byte outside 32 to 126
unfoldable pub is_unfit : Bytes → Bool
is_unfit l = ltb line_limit (length l) || not (every (between 32 126) l)

-- ## What a line looks up

-- one number less another; none where it is smaller
unfoldable pub less : ℕ → ℕ → Option ℕ
less n k = cond (ltb n k) none (some (n - k))

-- The arity that a line gives: a `P` line in a field of its own, the others by the number of their fields.
unfoldable pub line_arity : Letter → List Bytes → Option ℕ
line_arity P fields = natural 8 (field 2 fields)
line_arity C fields = less (length fields) 3
line_arity G fields = less (length fields) 2
line_arity H fields = less (length fields) 2
line_arity B fields = less (length fields) 2
line_arity M fields = none
line_arity E fields = none
line_arity NoLetter fields = none

-- the key of a name with an arity, where there is one
abbrev pub key_with : Bytes → Option ℕ → Option Key
key_with name n = map (key name) n

-- the predicate declared under a key, where there is one
unfoldable pub declared_for : Option Key → List Predicate → Option Predicate
declared_for none ps = none
declared_for (some k) ps = declared_as k ps

-- The declared predicate that a line names: its second field with the arity that it gives.
abbrev pub meant_by : Letter → List Bytes → Pack → Option Predicate
meant_by l fields p = declared_for (key_with (field 1 fields) (line_arity l fields)) p.predicates

unfoldable pub is_given : Kind → Bool
is_given given = true
is_given ruled = false

unfoldable pub given_in : Option Predicate → Bool
given_in none = false
given_in (some p) = is_given p.kind

unfoldable pub ruled_in : Option Predicate → Bool
ruled_in none = false
ruled_in (some p) = not (is_given p.kind)

-- a rule of no predicate, which stands for the last rule where there is none
unfoldable pub no_rule : Rule
no_rule = head_alone (record { name = []; terms = nil })

unfoldable pub last_of : Rule → List Rule → Rule
last_of before [] = before
last_of before (r ∷ rs) = last_of r rs

abbrev pub last_rule : Pack → Rule
last_rule p = last_of no_rule p.rules

-- the claims on the last rule's head: one `M` line is due for each
abbrev pub head_claims : Pack → List Claim
head_claims p = claims_on (atom_key (last_rule p).head) p.claims

-- all `M` lines of the rules so far are there
abbrev pub is_complete : Pack → Bool
is_complete p = is_empty p.rules || leb (length (head_claims p)) (length (last_rule p).multipliers)

-- Which letters may come next: those of a section while the sections after it have no line; those of a rule as its lines come.
unfoldable pub may_stand : Pack → Letter → Bool
may_stand p P = is_empty (from_claims p)
may_stand p C = is_empty (from_facts p)
may_stand p G = is_empty (from_rules p)
may_stand p H = is_complete p
may_stand p B = not (is_empty p.rules) && is_empty (last_rule p).multipliers
may_stand p M = not (is_complete p)
may_stand p E = is_complete p
may_stand p NoLetter = false

-- a ruled predicate that has a claim: it has to head a rule
abbrev pub owes_rule : List Claim → Predicate → Bool
owes_rule claims x = not (is_given x.kind) && any (λ (c : Claim). same_key (key_of x) (claim_key c)) claims

abbrev pub heads_rule : List Rule → Predicate → Bool
heads_rule rules x = any (λ (r : Rule). same_key (key_of x) (atom_key r.head)) rules

-- a predicate that has to head a rule, and does not
abbrev pub is_headless : Pack → Predicate → Bool
is_headless p x = owes_rule p.claims x && not (heads_rule p.rules x)

-- the claim that the next `M` line is for
abbrev pub claim_due : Pack → Claim
claim_due p = get_or (head_claims p) (length (last_rule p).multipliers) no_claim

-- The residual's 17 numbers, where an `M` line with these multipliers comes next.
unfoldable pub residual_due : Pack → List ℕ → List ℤ
residual_due p multipliers =
    let r = last_rule p in
    residual_numbers (rule_variables r.head r.subgoals) (residual (measure_in p) p.claims r.head r.subgoals (claim_due p) multipliers)

-- ## How lines are judged

-- Which letters may come next after lines that write a pack, and whether a headless predicate is refused.
pub record Manner : Type 0 where
  pub allows : Pack → Letter → Bool
  pub refuses_headless : Bool

-- as check judges a pack
abbrev pub whole : Manner
whole = record { allows = may_stand; refuses_headless = true }

-- the same but for 24
abbrev pub but_for_heads : Manner → Manner
but_for_heads m = record { allows = m.allows; refuses_headless = false }

-- ## The tests of a line, by its letter

unfoldable pub predicate_tests : List Bytes → Pack → List Test
predicate_tests fields p =
    test 7 (not (is_name (field 1 fields)))
    ∷ test 8 (is_some (meant_by P fields p))
    ∷ test 9 (not (eqb (length fields) 4))
    ∷ test 10 (not (is_some (natural 8 (field 2 fields)) && is_kind (field 3 fields)))
    ∷ test 12 (leb predicate_limit (length p.predicates))
    ∷ []

unfoldable pub claim_tests : List Bytes → Pack → List Test
claim_tests fields p =
    test 7 (not (is_name (field 1 fields)))
    ∷ test 8 (not (is_some (meant_by C fields p)))
    ∷ test 10 (not (every is_claim_number (drop 2 fields)))
    ∷ test 12 (leb claim_limit (length (claims_on (claim_key (claim_from fields)) p.claims)))
    ∷ []

-- for `G`, `H` and `B`: what the letter's 8 asks besides, its own tests right after 8, and those after 11
unfoldable pub atom_tests : Letter → Bool → List Test → List Test → List Bytes → Pack → List Test
atom_tests l is_refused after_name afterTerms fields p =
    test 7 (not (is_name (field 1 fields)))
    ∷ test 8 (not (is_some (meant_by l fields p)) || is_refused)
    ∷ after_name
    ++ test 11 (not (every is_term (drop 2 fields)))
    ∷ afterTerms

-- a fact that comes with the pack is of a given predicate, is ground, and meets the claims on its predicate
unfoldable pub fact_tests : List Bytes → Pack → List Test
fact_tests fields p =
    let a = atom_from fields in
    atom_tests G false
    (test 20 (ruled_in (meant_by G fields p)) ∷ [])
    (test 21 (not (is_empty (all_variables a.terms))) ∷ test 22 (not (meets_every p a)) ∷ [])
    fields p

abbrev pub many_variables : Atom → List Atom → Bool
many_variables head subgoals = ltb variable_limit (length (rule_variables head subgoals))

unfoldable pub head_tests : List Bytes → Pack → List Test
head_tests fields p =
    let a = atom_from fields in
    atom_tests H (given_in (meant_by H fields p)) [] (test 12 (leb rule_limit (length p.rules) || many_variables a []) ∷ []) fields p

unfoldable pub subgoal_tests : List Bytes → Pack → List Test
subgoal_tests fields p =
    let r = last_rule p in
    atom_tests B false [] (test 12 (leb subgoal_limit (length r.subgoals) || many_variables r.head (ending (atom_from fields) r.subgoals)) ∷ []) fields p

unfoldable pub multiplier_tests : List Bytes → Pack → List Test
multiplier_tests fields p =
    test 9 (not (eqb (length fields) (length (claims_on_all p.claims (last_rule p).subgoals) + 1)))
    ∷ test 10 (not (every is_multiplier (drop 1 fields)))
    ∷ test 13 (not (is_justified (residual_due p (multipliers_from fields))))
    ∷ []

unfoldable pub end_tests : Manner → List Bytes → Pack → List Test
end_tests m fields p =
    test 9 (not (eqb (length fields) 1))
    ∷ test 24 (m.refuses_headless && any (is_headless p) p.predicates)
    ∷ []

unfoldable pub tests : Manner → Letter → List Bytes → Pack → List Test
tests m P fields p = predicate_tests fields p
tests m C fields p = claim_tests fields p
tests m G fields p = fact_tests fields p
tests m H fields p = head_tests fields p
tests m B fields p = subgoal_tests fields p
tests m M fields p = multiplier_tests fields p
tests m E fields p = end_tests m fields p
tests m NoLetter fields p = []

-- All tests of a line, judged in some manner after lines that write w.
abbrev pub line_tests : Manner → Written → Bytes → List Test
line_tests m w l =
    test 4 (is_unfit l)
    ∷ test 5 (w.ended || not (m.allows w.pack (line_letter l)))
    ∷ tests m (line_letter l) (fields_of l) w.pack

-- The number of the line's fault.
unfoldable pub fault : Manner → Written → Bytes → ℕ
fault m w l = first_given (line_tests m w l)
