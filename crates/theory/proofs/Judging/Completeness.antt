-- When all `M` lines of the rules so far are there: `is_complete`, by the number of the last rule's multiplier lists.
use mathlib.Core.Path.{◌≡◌, refl}
use mathlib.Core.Bool.{Bool, true, false, ◌||◌}
use mathlib.Core.List.{List, []}
use Prim.Native.Nat.{◌≤◌, ◌<◌}
use lib.Dec.{leb}
use lib.ListN.{length}
use Rattle.groundwork.proofs.Truth.{by_truth, leb-le, leb-gt, le-leb, gt-leb, or_neither, or_not_left, or_not_right}
use Rattle.theory.specs.Lists.{is_empty, ◌∈◌}
use Rattle.theory.specs.Packs.{Claim, Rule, Pack, atom_key, claims_on}
use Rattle.theory.specs.Faults.{no_rule, last_rule, head_claims, is_complete}
use Rattle.theory.proofs.Judging.LastRule.{last_member}
use Rattle.theory.proofs.Reading.Presence.{is_empty_lem, is_filled, filled_is}

-- every claim on the rule's head has its multipliers
abbrev pub IsWhole : List Claim → Rule → Type 0
IsWhole claims r = length (claims_on (atom_key r.head) claims) ≤ length r.multipliers

abbrev last_is_whole : Pack → Bool
last_is_whole p = leb (length (head_claims p)) (length (last_rule p).multipliers)

pub whole_from_complete : (p : Pack) → is_complete p ≡ true → (p.rules ≡ [] → ⊥) → IsWhole p.claims (last_rule p)
whole_from_complete p complete h = leb-le _ _ (split (is_empty p.rules) refl complete)
  where
    split : (b : Bool) → is_empty p.rules ≡ b → (b || last_is_whole p) ≡ true → last_is_whole p ≡ true
    split true e k = absurd (h (is_empty_lem p.rules e))
    split false e k = k

pub complete_from_whole : (p : Pack) → ((r : Rule) → r ∈ p.rules → IsWhole p.claims r) → is_complete p ≡ true
complete_from_whole p whole = by_truth (λ (b : Bool). (b || last_is_whole p) ≡ true) (is_empty p.rules) (λ e. refl) (λ e. le-leb _ _ (whole (last_rule p) (last_member no_rule p.rules (is_filled p.rules e))))

pub rule_from_incomplete : (p : Pack) → is_complete p ≡ false → p.rules ≡ [] → ⊥
rule_from_incomplete p h = is_filled p.rules (or_not_left (is_empty p.rules) (last_is_whole p) h)

pub due_from_incomplete : (p : Pack) → is_complete p ≡ false → length (last_rule p).multipliers < length (head_claims p)
due_from_incomplete p h = leb-gt _ _ (or_not_right (is_empty p.rules) (last_is_whole p) h)

pub incomplete_from_due : (p : Pack) → (p.rules ≡ [] → ⊥) → length (last_rule p).multipliers < length (head_claims p) → is_complete p ≡ false
incomplete_from_due p h k = or_neither (is_empty p.rules) (last_is_whole p) (filled_is p.rules h) (gt-leb _ _ k)
