-- Whether the rules so far have all their `M` lines, and which letters may stand here, told by the state.
use mathlib.Core.Path.{◌≡◌, refl, sym, ◌∙◌, ap, subst}
use mathlib.Core.Bool.{Bool, true, false, not, not-not, ◌&&◌, false≢true}
use mathlib.Core.List.{List, [], ◌∷◌}
use Prim.Native.Nat.{ℕ, suc, ◌<◌}
use native.Mathlib.Omega.{arith}
use lib.Dec.{eqb, leb}
use lib.ListN.{length}
use Rattle.groundwork.proofs.Truth.{never_both, or_left, not-true, leb-gt, equal-eqb, eqb-different}
use Rattle.theory.specs.Lists.{is_empty}
use Rattle.theory.specs.Packs.{claims_on}
use Rattle.theory.specs.declared.Letter.{Letter}
use Rattle.theory.specs.declared.Letter.TheVariants.{P, C, G, H, B, M, E, NoLetter}
use Rattle.theory.specs.Written.{Written}
use Rattle.theory.specs.Faults.{last_rule, head_claims, is_complete, may_stand}
use Rattle.theory.proofs.Reading.Presence.{is_filled}
use Rattle.theory.proofs.Judging.Sections.{predicates_stand, claims_stand, facts_stand}
use Rattle.tables.specs.declared.Signature.{Signature}
use Rattle.tables.specs.declared.State.{State}
use Rattle.tables.specs.Tables.{signature_at, SafeSignatures, Outline}
use Rattle.opening.specs.Opening.{Completes, Stands}

module _ {A : Type 0} where
  empty_test : (l : List A) → is_empty l ≡ eqb (length l) 0
  unfolding is_empty
  empty_test [] = refl
  empty_test (a ∷ l) = sym (eqb-different (suc (length l)) 0 (λ e. omega arith))

  -- a list whose length is known as n
  module _ (l : List A) (n : ℕ) (count : n ≡ length l) where
    empty_as : is_empty l ≡ eqb n 0
    empty_as = empty_test l ∙ ap (λ (m : ℕ). eqb m 0) (sym count)

    empty_by : n ≡ 0 → is_empty l ≡ true
    empty_by h = empty_as ∙ equal-eqb n 0 h

    filled_by : (n ≡ 0 → ⊥) → is_empty l ≡ false
    filled_by h = empty_as ∙ eqb-different n 0 h

    not_empty : (n ≡ 0 → ⊥) → l ≡ [] → ⊥
    not_empty h = is_filled l (filled_by h)

-- the letters other than `M`
abbrev pub is_m : Letter → Type 0
is_m P = ⊥
is_m C = ⊥
is_m G = ⊥
is_m H = ⊥
is_m B = ⊥
is_m M = Unit {0}
is_m E = ⊥
is_m NoLetter = ⊥

pub other_than_m : {l : Letter} → l ≡ M → is_m l
other_than_m e = subst is_m (sym e) tt

abbrev pub is_none : Letter → Type 0
is_none P = ⊥
is_none C = ⊥
is_none G = ⊥
is_none H = ⊥
is_none B = ⊥
is_none M = ⊥
is_none E = ⊥
is_none NoLetter = Unit {0}

other_than_none : {l : Letter} → l ≡ NoLetter → is_none l
other_than_none e = subst is_none (sym e) tt

module _ (signatures : List Signature) (s : State) where
  -- ---- all `M` lines are there

  pub completes_none : s.rules ≡ 0 → Completes signatures s true
  completes_none h = record {
    tells = λ w o. sym (or_left (is_empty w.pack.rules) _ (empty_by w.pack.rules s.rules o.rules h));
    due = λ e. never_both refl e;
  }

  head_claims_lem : (w : Written) → Outline signatures s w → (w.pack.rules ≡ [] → ⊥) → (signature_at signatures s.head).claims ≡ length (head_claims w.pack)
  head_claims_lem w o h = o.counts s.head (o.head h) ∙ ap (λ k. length (claims_on k w.pack.claims)) (o.head_key h)

  pub completes_some : SafeSignatures signatures → s.head < 32 → (s.rules ≡ 0 → ⊥) → (n : ℕ) → n ≡ (signature_at signatures s.head).claims → Completes signatures s (leb n s.multipliers)
  completes_some safe low h n is = record { tells = tells; due = λ e. omega (arith, safe.count s.head low, leb-gt n s.multipliers e) }
    where
      tells : (w : Written) → Outline signatures s w → leb n s.multipliers ≡ is_complete w.pack
      tells w o =
          let some : w.pack.rules ≡ [] → ⊥ = not_empty w.pack.rules s.rules o.rules h in
          let claims : n ≡ length (head_claims w.pack) = is ∙ head_claims_lem w o some in
          rw (filled_by w.pack.rules s.rules o.rules h, ← claims, ← o.multipliers some)

  -- ---- the letters

  pub stands_never : (l : Letter) → s.ended ≡ true → Stands l signatures s false
  stands_never l h = record {
    tells = λ w o. let e : w.ended ≡ true = sym o.ended ∙ h in rw e;
    known = λ e. absurd (false≢true e);
    due = λ _ e. absurd (false≢true e);
  }

  module _ (l : Letter) (ended : s.ended ≡ false) where
    stands_as : (k : Letter) → l ≡ k → (r : Bool) → (r ≡ true → k ≡ NoLetter → ⊥) → (k ≡ M → r ≡ true → s.multipliers < 16) → ((w : Written) → Outline signatures s w → r ≡ may_stand w.pack k) → Stands l signatures s r
    stands_as k is r known due tells = record {
      tells = λ w o. let unended : w.ended ≡ false = sym o.ended ∙ ended in rw (unended, is) (tells w o);
      known = λ stands none. known stands (sym is ∙ none);
      due = λ e. due (sym is ∙ e);
    }

    pub stands_none : l ≡ NoLetter → Stands l signatures s false
    unfolding may_stand
    stands_none is = stands_as NoLetter is false (λ f. absurd (false≢true f)) (λ e f. absurd (false≢true f)) λ w o. refl

    pub stands_fact : l ≡ G → Stands l signatures s (eqb s.rules 0)
    stands_fact is =
        stands_as G is (eqb s.rules 0) (λ f. other_than_none) (λ e f. absurd (other_than_m e)) λ w o.
        rw (facts_stand w.pack) (sym (empty_as w.pack.rules s.rules o.rules))

    pub stands_claim : l ≡ C → Stands l signatures s (eqb s.shipped 0 && eqb s.rules 0)
    stands_claim is =
        stands_as C is (eqb s.shipped 0 && eqb s.rules 0) (λ f. other_than_none) (λ e f. absurd (other_than_m e)) λ w o.
        rw (claims_stand w.pack, ← o.shipped, empty_as w.pack.rules s.rules o.rules)

    pub stands_predicate : l ≡ P → Stands l signatures s (not s.claimed && (eqb s.shipped 0 && eqb s.rules 0))
    stands_predicate is =
        stands_as P is (not s.claimed && (eqb s.shipped 0 && eqb s.rules 0)) (λ f. other_than_none) (λ e f. absurd (other_than_m e)) λ w o.
        rw (predicates_stand w.pack, ← o.shipped, empty_as w.pack.rules s.rules o.rules, o.claimed, not-not (is_empty w.pack.claims))

    pub stands_early_subgoal : l ≡ B → s.rules ≡ 0 → Stands l signatures s false
    unfolding may_stand
    stands_early_subgoal is h =
        stands_as B is false (λ f. other_than_none) (λ e f. absurd (false≢true f)) λ w o.
        rw (empty_by w.pack.rules s.rules o.rules h)

    pub stands_subgoal : l ≡ B → (s.rules ≡ 0 → ⊥) → Stands l signatures s (eqb s.multipliers 0)
    unfolding may_stand
    stands_subgoal is h =
        stands_as B is (eqb s.multipliers 0) (λ f. other_than_none) (λ e f. absurd (other_than_m e)) λ w o.
        rw (filled_by w.pack.rules s.rules o.rules h)
        (sym (empty_as (last_rule w.pack).multipliers s.multipliers (o.multipliers (not_empty w.pack.rules s.rules o.rules h))))

    module _ (r : Bool) (complete : Completes signatures s r) where
      pub stands_head : l ≡ H → Stands l signatures s r
      unfolding may_stand
      stands_head is = stands_as H is r (λ f. other_than_none) (λ e f. absurd (other_than_m e)) complete.tells

      pub stands_end : l ≡ E → Stands l signatures s r
      unfolding may_stand
      stands_end is = stands_as E is r (λ f. other_than_none) (λ e f. absurd (other_than_m e)) complete.tells

      pub stands_multipliers : l ≡ M → Stands l signatures s (not r)
      unfolding may_stand
      stands_multipliers is =
          stands_as M is (not r) (λ f. other_than_none) (λ e f. complete.due (not-true r f)) λ w o.
          ap not (complete.tells w o)

-- by the letter
pub ruleset standing = (stands_predicate, stands_claim, stands_fact, stands_head, stands_early_subgoal, stands_subgoal, stands_multipliers, stands_end, stands_none)
