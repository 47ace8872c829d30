-- The declared predicates, with one more.
use mathlib.Core.Path.{◌≡◌, refl, sym, ◌∙◌, ap}
use mathlib.Core.Bool.{true}
use mathlib.Core.List.{List, [], ◌∷◌, ◌++◌}
use mathlib.Core.Option.{none}
use Prim.Native.Nat.{ℕ, ◌+◌, ◌≤◌, ◌<◌}
use native.Mathlib.Omega.{arith}
use lib.Dec.{eqb, ltb}
use lib.IntN.{ℤ}
use lib.ListN.{length, set}
use lib.Seq.{get_or-set_same, get_or-set_other}
use Rattle.groundwork.proofs.Truth.{by_truth, eqb-equal, eqb-unequal, ltb-lt, ltb-ge}
use Rattle.groundwork.proofs.Lists.{length_end}
use Rattle.theory.specs.Text.{is_name}
use Rattle.theory.specs.Packs.{Predicate, key_of, declared_as, claims_on}
use Rattle.theory.proofs.Reading.Places.{each_and_last}
use Rattle.words.specs.Words.{words_of}
use Rattle.tables.specs.declared.Signature.{Signature}
use Rattle.tables.specs.Tables.{signature_at, no_signature, with_claims, counted, Declares, HoldsClaims, no_predicate, predicate_at, kind_of}
use Rattle.tables.proofs.Lookup.{undeclared}

-- ---- one predicate more

module _ (signatures : List Signature) (known : ℕ) (ps : List Predicate) (x : Predicate) (declares : Declares signatures known ps) where
  -- what holds of each predicate and its place, and of the one more, holds of each then
  each_known : (Q : Predicate → ℕ → Type 0) → ((i : ℕ) → i < known → Q (predicate_at ps i) i) → Q x known → (i : ℕ) → i < known + 1 → Q (predicate_at (ps ++ (x ∷ [])) i) i
  each_known Q each last i h =
      each_and_last Q ps x no_predicate
      (λ j k. each j (omega (arith, declares.count)))
      (rw declares.count last)
      i
      (omega (arith, length_end ps x, declares.count))

  module _ (absent : declared_as (key_of x) ps ≡ none) where
    other_key : (i : ℕ) → i < known → key_of (predicate_at ps i) ≡ key_of x → ⊥
    other_key i h = undeclared (key_of x) ps absent i (omega (arith, declares.count))

    still_distinct : (i j : ℕ) → i < known + 1 → j < known + 1 → key_of (predicate_at (ps ++ (x ∷ [])) i) ≡ key_of (predicate_at (ps ++ (x ∷ [])) j) → i ≡ j
    still_distinct i j h k =
        each_known (λ p i. key_of p ≡ key_of (predicate_at (ps ++ (x ∷ [])) j) → i ≡ j)
        (λ i h. each_known (λ q j. key_of (predicate_at ps i) ≡ key_of q → i ≡ j) (λ j k. declares.distinct i j h k) (λ e. absurd (other_key i h e)) j k)
        (each_known (λ q j. key_of x ≡ key_of q → known ≡ j) (λ j k e. absurd (other_key j k (sym e))) (λ e. refl) j k)
        i
        h

    -- under its signature
    pub declares_more : (n : Signature) → n.words ≡ words_of x.name → n.arity ≡ x.arguments → n.kind ≡ kind_of x.kind → known < 32 → length signatures ≡ 32 → is_name x.name ≡ true
        → Declares (set signatures known n) (known + 1) (ps ++ (x ∷ []))
    declares_more n words arity kind room long proper =
        let more = set signatures known n in
        let others : (i : ℕ) → i < known → signature_at signatures i ≡ signature_at more i = λ i h. sym (get_or-set_other signatures known i n no_signature (λ e. omega arith)) in
        let here : n ≡ signature_at more known = sym (get_or-set_same signatures known n no_signature (omega arith)) in
        record {
          count = omega (arith, length_end ps x, declares.count);
          words = each_known (λ p i. (signature_at more i).words ≡ words_of p.name) (λ i h. ap (λ (s : Signature). s.words) (sym (others i h)) ∙ declares.words i h) (ap (λ (s : Signature). s.words) (sym here) ∙ words);
          named = each_known (λ p i. is_name p.name ≡ true) declares.named proper;
          arity = each_known (λ p i. (signature_at more i).arity ≡ p.arguments) (λ i h. ap (λ (s : Signature). s.arity) (sym (others i h)) ∙ declares.arity i h) (ap (λ (s : Signature). s.arity) (sym here) ∙ arity);
          kind = each_known (λ p i. (signature_at more i).kind ≡ kind_of p.kind) (λ i h. ap (λ (s : Signature). s.kind) (sym (others i h)) ∙ declares.kind i h) (ap (λ (s : Signature). s.kind) (sym here) ∙ kind);
          distinct = still_distinct;
        }

-- a predicate with another number of claims is the same predicate
module _ (signatures : List Signature) (p n : ℕ) where
  -- what a count of claims leaves as it is
  pub count_leaves : {A : Type 0} (f : Signature → A) → f (with_claims n (signature_at signatures p)) ≡ f (signature_at signatures p) → p < length signatures → (i : ℕ) → f (signature_at (counted signatures p n) i) ≡ f (signature_at signatures i)
  count_leaves f same inside i =
      by_truth (λ b. f (signature_at (counted signatures p n) i) ≡ f (signature_at signatures i)) (eqb i p)
      (λ e. rw (eqb-equal i p e) (ap f (get_or-set_same signatures p (with_claims n (signature_at signatures p)) no_signature inside) ∙ same))
      (λ e. ap f (get_or-set_other signatures p i (with_claims n (signature_at signatures p)) no_signature (eqb-unequal i p e)))

  pub count_declares : (known : ℕ) (ps : List Predicate) → p < length signatures → Declares signatures known ps → Declares (counted signatures p n) known ps
  count_declares known ps inside old =
      record {
        count = old.count;
        words = λ i h. count_leaves (λ (s : Signature). s.words) refl inside i ∙ old.words i h;
        named = old.named;
        arity = λ i h. count_leaves (λ (s : Signature). s.arity) refl inside i ∙ old.arity i h;
        kind = λ i h. count_leaves (λ (s : Signature). s.kind) refl inside i ∙ old.kind i h;
        distinct = old.distinct;
      }

-- ---- no claims

module _ (signatures : List Signature) (claims : List ℤ) (ps : List Predicate) (holds : HoldsClaims signatures claims ps []) where
  no_count : (i : ℕ) → i < 32 → (signature_at signatures i).claims ≡ 0
  unfolding claims_on
  no_count i h = by_truth (λ b. (signature_at signatures i).claims ≡ 0) (ltb i (length ps)) (λ e. holds.count i (ltb-lt i (length ps) e)) (λ e. holds.none i (ltb-ge i (length ps) e) h)

  -- they stand for any predicates, in a table with the same counts
  pub claimless : (more : List Signature) (qs : List Predicate) → length qs ≤ 32 → ((i : ℕ) → i < 32 → (signature_at more i).claims ≡ (signature_at signatures i).claims) → HoldsClaims more claims qs []
  unfolding claims_on
  claimless more qs few same =
      record {
        count = λ i h. let low : i < 32 = omega arith in same i low ∙ no_count i low;
        none = λ i h low. same i low ∙ no_count i low;
        at = λ i j h k. absurd (omega arith);
      }
