-- The condition on heads: the test on the `E` line, and what it says of a pack.
use mathlib.Core.Path.{◌≡◌, refl, sym, ap}
use mathlib.Core.Bool.{Bool, true, false, not, ◌&&◌, ◌||◌}
use mathlib.Core.List.{List, [], ◌∷◌}
use Rattle.groundwork.proofs.Truth.{by_truth, not-true, not-false, and_left, and_right}
use Rattle.theory.specs.Lists.{◌∈◌, any}
use Rattle.theory.specs.Packs.{ruled, Predicate, Claim, Rule, Pack, same_key, key_of, claim_key, atom_key}
use Rattle.theory.specs.Written.{on_last}
use Rattle.theory.specs.Faults.{is_given, owes_rule, heads_rule, is_headless}
use Rattle.theory.specs.Limits.{HeadsRule, Headed}
use Rattle.theory.proofs.Reading.Every.{none_member, members_none, any_found, any_member}
use Rattle.theory.proofs.Judging.Kinds.{ruled_kind}
use Rattle.theory.proofs.Judging.Keys.{same_key_refl, same_key_equal}

-- ---- one predicate

abbrev pub on_claim : Predicate → Claim → Bool
on_claim x c = same_key (key_of x) (claim_key c)

abbrev at_head : Predicate → Rule → Bool
at_head x r = same_key (key_of x) (atom_key r.head)

module _ (p : Pack) (x : Predicate) where
  pub heads_from_test : heads_rule p.rules x ≡ true → HeadsRule p x
  heads_from_test e = let (r, m, same) = any_found (at_head x) p.rules e in record { rule = r; is_one = m; is_head = sym (same_key_equal (key_of x) (atom_key r.head) same) }

  pub test_from_heads : HeadsRule p x → heads_rule p.rules x ≡ true
  test_from_heads h = any_member (at_head x) (rw h.is_head (same_key_refl (key_of x))) h.is_one

  pub owes_from_claim : x.kind ≡ ruled → (c : Claim) → c ∈ p.claims → claim_key c ≡ key_of x → owes_rule p.claims x ≡ true
  unfolding is_given
  owes_from_claim is_ruled c m is = rw is_ruled (any_member (on_claim x) (rw is (same_key_refl (key_of x))) m)

  -- where it is headed, a rule that it owes is there
  paid : Headed p → x ∈ p.predicates → owes_rule p.claims x ≡ true → HeadsRule p x
  paid headed m owes =
      let is_ruled = ruled_kind x.kind (not-true _ (and_left (not (is_given x.kind)) (any (on_claim x) p.claims) owes)) in
      let (c, n, same) = any_found (on_claim x) p.claims (and_right (not (is_given x.kind)) (any (on_claim x) p.claims) owes) in
      headed.every x m is_ruled c n (sym (same_key_equal (key_of x) (claim_key c) same))

-- a rule changed after its head heads what it did
pub heads_changed : (change : Rule → Rule) → ((r : Rule) → (change r).head ≡ r.head) → (rules : List Rule) (x : Predicate) → heads_rule (on_last change rules) x ≡ heads_rule rules x
unfolding on_last any
heads_changed change kept [] x = refl
heads_changed change kept (r ∷ []) x = rw (kept r)
heads_changed change kept (r ∷ s ∷ rules) x = ap (λ (b : Bool). at_head x r || b) (heads_changed change kept (s ∷ rules) x)

-- ---- the pack

pub headed_from_test : (p : Pack) → any (is_headless p) p.predicates ≡ false → Headed p
headed_from_test p none = record { every = λ x m is_ruled c n is. heads_from_test p x (not-false _ (rw (owes_from_claim p x is_ruled c n is) at (none_member (is_headless p) none m))) }

pub test_from_headed : (p : Pack) → Headed p → any (is_headless p) p.predicates ≡ false
test_from_headed p headed =
    members_none (is_headless p) p.predicates
    (λ x m. by_truth (λ (b : Bool). (b && not (heads_rule p.rules x)) ≡ false) (owes_rule p.claims x) (λ owes. ap not (test_from_heads p x (paid p x headed m owes))) (λ e. refl))
