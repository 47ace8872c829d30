-- Document 02, 5/14: two predicates of one name and different arities share nothing. Proves ShareNothing of specs/Promises.
use mathlib.Core.Path.{◌≡◌, sym, ◌∙◌, ap}
use mathlib.Core.List.{List, [], ◌∷◌, ◌++◌, append-nil}
use Prim.Native.Nat.{ℕ}
use Rattle.theory.specs.Text.{Bytes}
use Rattle.theory.specs.Packs.{Claim, Key, key, claim_key, claims_on}
use Rattle.theory.specs.Reserve.{reservation}
use Rattle.theory.specs.Promises.{ShareNothing}
use Rattle.theory.proofs.Judging.Keys.{same_key_other, declared_member, on_member}
use Rattle.theory.proofs.Judging.ClaimsOn.{claims_on_left_out, claims_on_append}

module _ (name : Bytes) (n other : ℕ) (different : n ≡ other → ⊥) where
  -- no key is that of both
  not_both : (k : Key) → k ≡ key name n → k ≡ key name other → ⊥
  not_both k one two = different (ap (λ (l : Key). l.arity) (sym one ∙ two))

  -- a claim on the other is left out
  claims_kept : (cs : List Claim) (c : Claim) → claim_key c ≡ key name other → claims_on (key name n) (cs ++ (c ∷ [])) ≡ claims_on (key name n) cs
  unfolding claims_on
  claims_kept cs c is =
      claims_on_append (key name n) cs (c ∷ [])
      ∙ ap (λ (rest : List Claim). claims_on (key name n) cs ++ rest) (claims_on_left_out (key name n) c [] (same_key_other (key name n) (claim_key c) (λ e. not_both (claim_key c) e is)))
      ∙ append-nil (claims_on (key name n) cs)

  pub share_nothing : ShareNothing name n other
  unfolding reservation
  share_nothing = record {
    declared = λ ps x one two. not_both _ (sym (declared_member _ ps x one).1) (sym (declared_member _ ps x two).1);
    claims = λ cs c one two. not_both _ (sym (on_member _ cs c one).1) (sym (on_member _ cs c two).1);
    facts = λ f. not_both _;
    reservations = λ p q is c on. rw (is, claims_kept p.claims c on);
  }
