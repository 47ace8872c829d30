-- The fault of an `H`, `B` or `M` line depends only on what it looks up and on its own rule's lines, not on other rules
-- (but for the count of rules); and so does what it leaves.
use mathlib.Core.Path.{◌≡◌, refl, ap}
use mathlib.Core.Bool.{Bool, not}
use mathlib.Core.List.Memᴰ
use mathlib.Core.List.{List, [], ◌∷◌, flat_map}
use Prim.Native.Nat.{ℕ}
use lib.Dec.{leb}
use lib.ListN.{length}
use Rattle.theory.specs.Lists.{is_empty, ◌∈◌}
use Rattle.theory.specs.Text.{Bytes, fields_of}
use Rattle.theory.specs.Sizes.{Measure}
use Rattle.theory.specs.Packs.{Claim, Atom, Pack, measure_in, rule_limit, atom_key, claims_on, claims_on_all}
use Rattle.theory.specs.declared.Letter.{Letter}
use Rattle.theory.specs.declared.Letter.TheVariants.{H, B, M}
use Rattle.theory.specs.Written.{line_letter, multipliers_from}
use Rattle.theory.specs.Residuals.{subgoal_forms, residual}
use Rattle.theory.specs.Faults.{line_arity, meant_by, last_rule, head_claims, is_complete, may_stand, Manner, residual_due, atom_tests, head_tests, subgoal_tests, multiplier_tests, tests, fault}
use Rattle.theory.proofs.Judging.LineReading.{as_whole, before}

-- the letters of a rule's lines
pub data OfRule : Letter → Type 0 where
  head : OfRule H
  subgoal : OfRule B
  multipliers : OfRule M

-- Two packs are alike for a line: it means the same predicate in both (by the arity of an `H` line, which is that of a `B`
-- line too), they have one measure, their last rules are the same, both or neither have come to the limit of rules, and they have
-- the same claims on the predicates of the last rule.
pub record Alike (fields : List Bytes) (p q : Pack) : Type 0 where
  pub found : meant_by H fields p ≡ meant_by H fields q
  pub measure : measure_in p ≡ measure_in q
  pub started : is_empty p.rules ≡ is_empty q.rules
  pub rule : last_rule p ≡ last_rule q
  pub full : leb rule_limit (length p.rules) ≡ leb rule_limit (length q.rules)
  pub claims : (a : Atom) → a ∈ ((last_rule q).head ∷ (last_rule q).subgoals) → claims_on (atom_key a) p.claims ≡ claims_on (atom_key a) q.claims

forms_alike : (m : Measure) (cs ds : List Claim) (subgoals : List Atom) → ((a : Atom) → a ∈ subgoals → claims_on (atom_key a) cs ≡ claims_on (atom_key a) ds) → subgoal_forms m cs subgoals ≡ subgoal_forms m ds subgoals
unfolding subgoal_forms
forms_alike m cs ds [] h = refl
forms_alike m cs ds (a ∷ subgoals) h = rw (h a (Memᴰ.head refl), forms_alike m cs ds subgoals (λ b n. h b (Memᴰ.tail n)))

claims_alike : (cs ds : List Claim) (subgoals : List Atom) → ((a : Atom) → a ∈ subgoals → claims_on (atom_key a) cs ≡ claims_on (atom_key a) ds) → claims_on_all cs subgoals ≡ claims_on_all ds subgoals
unfolding flat_map
claims_alike cs ds [] h = refl
claims_alike cs ds (a ∷ subgoals) h = rw (h a (Memᴰ.head refl), claims_alike cs ds subgoals (λ b m. h b (Memᴰ.tail m)))

module _ (fields : List Bytes) (p q : Pack) (alike : Alike fields p q) where
  head_alike : head_claims p ≡ head_claims q
  head_alike = rw alike.rule (alike.claims (last_rule q).head (Memᴰ.head refl))

  complete_alike : is_complete p ≡ is_complete q
  complete_alike = rw (alike.started, head_alike, alike.rule)

  place_alike : (x : Letter) → OfRule x → may_stand p x ≡ may_stand q x
  unfolding may_stand
  place_alike x head = complete_alike
  place_alike x subgoal = rw (alike.started, alike.rule)
  place_alike x multipliers = ap not complete_alike

  -- the residual that an `M` line leaves
  pub residual_alike : (ms : List ℕ) → residual_due p ms ≡ residual_due q ms
  unfolding residual_due residual
  residual_alike ms = rw (alike.measure, head_alike, alike.rule, forms_alike (measure_in q) p.claims q.claims (last_rule q).subgoals (λ a m. alike.claims a (Memᴰ.tail m)))

  found_subgoal : meant_by B fields p ≡ meant_by B fields q
  unfolding line_arity
  found_subgoal = alike.found

  tests_alike : (m : Manner) (x : Letter) → OfRule x → tests m x fields p ≡ tests m x fields q
  unfolding tests head_tests subgoal_tests multiplier_tests atom_tests
  tests_alike m x head = rw (alike.found, alike.full)
  tests_alike m x subgoal = rw (found_subgoal, alike.rule)
  tests_alike m x multipliers = rw (residual_alike (multipliers_from fields), alike.rule, claims_alike p.claims q.claims (last_rule q).subgoals (λ a m. alike.claims a (Memᴰ.tail m)))

pub fault_alike : (refuses : Bool) (p q : Pack) (l : Bytes) → OfRule (line_letter l) → Alike (fields_of l) p q → fault (as_whole refuses) (before p) l ≡ fault (as_whole refuses) (before q) l
unfolding fault
fault_alike refuses p q l r alike = rw (place_alike (fields_of l) p q alike (line_letter l) r, tests_alike (fields_of l) p q alike (as_whole refuses) (line_letter l) r)
