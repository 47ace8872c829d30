-- Where a letter may stand, in words. Proves what 5 says for LetterTold of specs/LettersTold.
use mathlib.Core.Path.{◌≡◌, refl, sym, ap, subst}
use mathlib.Core.Bool.{Bool, true, false, not, ◌&&◌}
use mathlib.Core.Logic.{◌↔◌}
use mathlib.Core.List.{List, [], drop_last}
use Rattle.groundwork.proofs.Truth.{by_truth, never_both, not-true, and_left, and_right, and_both}
use Rattle.groundwork.proofs.Lists.{member_unempty, split_member}
use Rattle.theory.specs.Lists.{is_empty, ending}
use Rattle.theory.specs.Packs.{Rule, Pack}
use Rattle.theory.specs.declared.Letter.{Letter}
use Rattle.theory.specs.declared.Letter.TheVariants.{P, C, G, H, B, M, E, NoLetter}
use Rattle.theory.specs.Faults.{no_rule, last_rule, is_complete, may_stand}
use Rattle.theory.specs.LettersTold.{OfLast, Lacks, MayStand}
use Rattle.theory.proofs.Reading.Presence.{is_empty_lem, empty_is, is_filled, filled_is}
use Rattle.theory.proofs.Judging.Sections.{facts_stand, claims_stand, predicates_stand}
use Rattle.theory.proofs.Judging.LastRule.{last_of_end, last_parts}
use Rattle.theory.proofs.Judging.Completeness.{rule_from_incomplete, due_from_incomplete, incomplete_from_due}

-- a test that is not passed
pub not_told : (b : Bool) {X : Type 0} → (b ≡ true) ↔ X → (not b ≡ true) ↔ (X → ⊥)
not_told b told = (
  λ e x. never_both (told.1 x) (not-true b e),
  λ none. ap not (by_truth (λ c. c ≡ false) b (λ e. absurd (none (told.0 e))) (λ e. refl)),
)

pub both_told : (a b : Bool) {X Y : Type 0} → (a ≡ true) ↔ X → (b ≡ true) ↔ Y → ((a && b) ≡ true) ↔ (X × Y)
both_told a b x y = (λ e. (x.0 (and_left a b e), y.0 (and_right a b e)), λ h. and_both a b (x.1 h.0) (y.1 h.1))

empty_told : {A : Type 0} (l : List A) → (is_empty l ≡ true) ↔ (l ≡ [])
empty_told l = (is_empty_lem l, empty_is l)

module _ (p : Pack) where
  -- the last rule is the one at the end
  last_is_lem : (earlier : List Rule) (r : Rule) → p.rules ≡ ending r earlier → last_rule p ≡ r
  last_is_lem earlier r are = rw are (last_of_end no_rule earlier r)

  some_rule : (earlier : List Rule) (r : Rule) → p.rules ≡ ending r earlier → p.rules ≡ [] → ⊥
  some_rule earlier r are = member_unempty (split_member earlier [] r are)

  of_last : (Holds : Rule → Type 0) → (p.rules ≡ [] → ⊥) → Holds (last_rule p) → OfLast p Holds
  of_last Holds some holds = record { earlier = drop_last p.rules; rule = last_rule p; is_last = last_parts no_rule p.rules some; holds = holds }

  lacking_told : (not (is_complete p) ≡ true) ↔ OfLast p (Lacks p)
  lacking_told = (
    λ e. let open-yet = not-true _ e in of_last (Lacks p) (rule_from_incomplete p open-yet) (due_from_incomplete p open-yet),
    λ h. ap not (incomplete_from_due p (some_rule h.earlier h.rule h.is_last) (subst (Lacks p) (sym (last_is_lem h.earlier h.rule h.is_last)) h.holds)),
  )

  complete_told : (is_complete p ≡ true) ↔ (OfLast p (Lacks p) → ⊥)
  complete_told = (
    λ e lacks. never_both e (not-true _ (lacking_told.1 lacks)),
    λ none. by_truth (λ c. c ≡ true) (is_complete p) (λ e. refl) (λ e. absurd (none (lacking_told.0 (ap not e)))),
  )

  open_told : ((not (is_empty p.rules) && is_empty (last_rule p).multipliers) ≡ true) ↔ OfLast p (λ r. r.multipliers ≡ [])
  open_told = (
    λ e. of_last (λ r. r.multipliers ≡ []) (is_filled p.rules (not-true _ (and_left (not (is_empty p.rules)) _ e))) (is_empty_lem _ (and_right (not (is_empty p.rules)) _ e)),
    λ h. and_both _ _ (ap not (filled_is p.rules (some_rule h.earlier h.rule h.is_last))) (empty_is _ (subst (λ (r : Rule). r.multipliers ≡ []) (sym (last_is_lem h.earlier h.rule h.is_last)) h.holds)),
  )

  pub stands_told : (letter : Letter) → (may_stand p letter ≡ true) ↔ MayStand p letter
  unfolding may_stand
  stands_told P = rw (predicates_stand p) (both_told _ _ (empty_told p.claims) (both_told _ _ (empty_told p.facts) (empty_told p.rules)))
  stands_told C = rw (claims_stand p) (both_told _ _ (empty_told p.facts) (empty_told p.rules))
  stands_told G = rw (facts_stand p) (empty_told p.rules)
  stands_told H = complete_told
  stands_told B = open_told
  stands_told M = lacking_told
  stands_told E = complete_told
  stands_told NoLetter = (λ e. never_both e refl, λ h. absurd h)
