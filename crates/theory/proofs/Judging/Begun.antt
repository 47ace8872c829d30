-- A rule as far as it is written: within the limits, with some of its multiplier lists, and justified by each of them.
use mathlib.Core.Path.{◌≡◌, sym, ap, subst}
use mathlib.Core.Bool.{Bool}
use mathlib.Core.List.Memᴰ
use mathlib.Core.List.{List, [], ◌∷◌, ◌++◌}
use Prim.Native.Nat.{ℕ, ◌≤◌, ◌<◌}
use native.Mathlib.Omega.{arith}
use lib.Dec.{ltb}
use lib.ListN.{length, get_or, get_or-append}
use lib.Seq.{get_or-append_seam}
use Rattle.groundwork.proofs.Truth.{by_truth, ltb-lt, ltb-ge}
use Rattle.theory.specs.Lists.{◌∈◌, ending}
use Rattle.theory.specs.Packs.{ruled, Atom, Rule, Pack, subgoal_limit, variable_limit, atom_key, claims_on, on_subgoals, on_multipliers, head_alone}
use Rattle.theory.specs.Residuals.{rule_variables}
use Rattle.theory.specs.Limits.{AtomFits, MultipliersFit, JustifiedBy}
use Rattle.groundwork.proofs.Lists.{member_unempty, length_end, all_end}

-- its own multipliers justify the claim numbered i
abbrev JustifiedAt : Pack → Rule → ℕ → Type 0
JustifiedAt o r i = JustifiedBy o r i (get_or r.multipliers i [])

pub record Begun (o : Pack) (r : Rule) : Type 0 where
  pub head : AtomFits o.predicates r.head
  pub is_ruled : head.predicate.kind ≡ ruled
  pub subgoals : (a : Atom) → a ∈ r.subgoals → AtomFits o.predicates a
  pub few_subgoals : length r.subgoals ≤ subgoal_limit
  pub few_variables : length (rule_variables r.head r.subgoals) ≤ variable_limit
  pub no_more : length r.multipliers ≤ length (claims_on (atom_key r.head) o.claims)
  pub multipliers : (ms : List ℕ) → ms ∈ r.multipliers → MultipliersFit o.claims r.subgoals ms
  pub justified : (i : ℕ) → i < length r.multipliers → JustifiedAt o r i

module _ (o : Pack) where
  pub begun_head : (a : Atom) (fits : AtomFits o.predicates a) → fits.predicate.kind ≡ ruled → length (rule_variables a []) ≤ variable_limit
      → Begun o (head_alone a)
  begun_head a fits is_ruled few = record {
    head = fits;
    is_ruled = is_ruled;
    subgoals = λ b m. absurd (Memᴰ.not-nil m);
    few_subgoals = omega arith;
    few_variables = few;
    no_more = omega arith;
    multipliers = λ ms m. absurd (Memᴰ.not-nil m);
    justified = λ i h. absurd (omega arith);
  }

  pub begun_subgoal : (a : Atom) (r : Rule) → Begun o r → r.multipliers ≡ [] → AtomFits o.predicates a → length r.subgoals < subgoal_limit
      → length (rule_variables r.head (ending a r.subgoals)) ≤ variable_limit → Begun o (on_subgoals (ending a) r)
  begun_subgoal a r begun none fits room few = record {
    head = begun.head;
    is_ruled = begun.is_ruled;
    subgoals = all_end (AtomFits o.predicates) r.subgoals a begun.subgoals fits;
    few_subgoals = omega (arith, length_end r.subgoals a);
    few_variables = few;
    no_more = begun.no_more;
    multipliers = λ ms m. absurd (member_unempty m none);
    justified = λ i h. absurd (omega (arith, ap length none));
  }

  pub begun_multipliers : (ms : List ℕ) (r : Rule) → Begun o r → length r.multipliers < length (claims_on (atom_key r.head) o.claims) → MultipliersFit o.claims r.subgoals ms
      → JustifiedBy o r (length r.multipliers) ms → Begun o (on_multipliers (ending ms) r)
  begun_multipliers ms r begun due fits left = record {
    head = begun.head;
    is_ruled = begun.is_ruled;
    subgoals = begun.subgoals;
    few_subgoals = begun.few_subgoals;
    few_variables = begun.few_variables;
    no_more = omega (arith, length_end r.multipliers ms);
    multipliers = all_end (MultipliersFit o.claims r.subgoals) r.multipliers ms begun.multipliers fits;
    justified = λ i h. by_truth (λ (b : Bool). JustifiedAt o (on_multipliers (ending ms) r) i) (ltb i (length r.multipliers))
        (λ e. before i (ltb-lt _ _ e))
        (λ e. subst (JustifiedAt o (on_multipliers (ending ms) r)) (at_end i h (ltb-ge _ _ e)) last);
  }
    where
      before : (i : ℕ) → i < length r.multipliers → JustifiedAt o (on_multipliers (ending ms) r) i
      before i h = subst (JustifiedBy o r i) (sym (get_or-append r.multipliers (ms ∷ []) [] i h)) (begun.justified i h)

      last : JustifiedAt o (on_multipliers (ending ms) r) (length r.multipliers)
      last = subst (JustifiedBy o r (length r.multipliers)) (sym (get_or-append_seam r.multipliers ms [] [])) left

      at_end : (i : ℕ) → i < length (r.multipliers ++ (ms ∷ [])) → length r.multipliers ≤ i → length r.multipliers ≡ i
      at_end i h k = omega (arith, length_end r.multipliers ms)
