-- The reservation of the claims from one on, with the best bound of those before it.
use mathlib.Core.Path.{◌≡◌, refl}
use mathlib.Core.Bool.{Bool, true, false, cond}
use mathlib.Core.List.{List, [], ◌∷◌}
use Prim.Native.Nat.{ℕ, ◌+◌}
use Prim.Native.Char.{code}
use lib.Dec.{ltb}
use Rattle.std.specs.Prelude.{Option, Some, None}
use Rattle.theory.specs.Packs.{Claim}
use Rattle.theory.specs.Reserve.{Query, is_usable, bound_by, Fields, fields, Usable, usable_from, impossibles, smallest, bounded, impossible_or}
use Rattle.theory.specs.declared.Bound.{Bound}
use Rattle.theory.proofs.Reserving.UsableClaims.{entry, is_impossible}
use Rattle.bounds.specs.Bounds.{better_of, reservation_from}

abbrev pub bound_of : ℕ → ℕ → Bound
bound_of size claim = record { size = size; claim = claim }

-- what the best bound of all claims says
abbrev pub settled : Option Bound → Fields
settled None = fields (code "N") 0 0
settled (Some best) = fields (code "B") best.size best.claim

-- the claims are numbered from k
unfoldable pub resumed : Query → Option Bound → ℕ → List Claim → Fields
resumed q best k [] = settled best
resumed q best k (c ∷ cs) =
    cond (is_usable q c)
    (cond (is_impossible q c) (fields (code "I") 0 k) (resumed q (Some (better_of best (bound_of (bound_by q c) k))) (k + 1) cs))
    (resumed q best (k + 1) cs)

-- what relates two pairs of values relates what a test picks of them
picked : {A B : Type 0} (R : A → B → Type 0) (test : Bool) {x y : A} {r s : B} → R x r → R y s → R (cond test x y) (cond test r s)
picked R true h k = h
picked R false h k = k

module _ (q : Query) where
  abbrev bound_from : Usable → Bound
  bound_from u = bound_of (bound_by q u.claim) u.number

  -- what is said of a usable claim that is not impossible and the usable ones after it
  abbrev said_after : Usable → List Usable → Fields
  said_after u us = impossible_or (bounded q (u ∷ us)) (impossibles q us)

  -- the next usable claim, where rest says of each claim what is said of those after it
  module _ (rest : Bound → Fields) (us : List Usable) (says : (w : Usable) → said_after w us ≡ rest (bound_from w)) (v u : Usable) where
    after_smaller : impossible_or (bounded q (u ∷ v ∷ us)) (impossibles q us) ≡ rest (better_of (Some (bound_from u)) (bound_from v))
    unfolding bounded smallest
    after_smaller =
        picked (λ (w : Usable) (b : Bound). said_after w us ≡ rest b) (ltb (bound_by q v.claim) (bound_by q u.claim)) (says v) (says u)

    after_usable : said_after u (v ∷ us) ≡ cond (is_impossible q v.claim) (fields (code "I") 0 v.number) (rest (better_of (Some (bound_from u)) (bound_from v)))
    unfolding impossibles impossible_or
    after_usable =
        picked (λ (found : List Usable) (r : Fields). impossible_or (bounded q (u ∷ v ∷ us)) found ≡ r) (is_impossible q v.claim) refl after_smaller

  after : (k : ℕ) (cs : List Claim) (u : Usable) → said_after u (usable_from k q cs) ≡ resumed q (Some (bound_from u)) k cs
  unfolding resumed usable_from impossibles impossible_or bounded smallest
  after k [] u = refl
  after k (c ∷ cs) u =
      picked (λ (us : List Usable) (r : Fields). said_after u us ≡ r) (is_usable q c)
      (after_usable (λ b. resumed q (Some b) (k + 1) cs) (usable_from (k + 1) q cs) (λ w. after (k + 1) cs w) (entry k c) u)
      (after (k + 1) cs u)

  -- no usable claim before them
  pub from_first : (k : ℕ) (cs : List Claim) → reservation_from k q cs ≡ resumed q None k cs
  unfolding resumed usable_from impossibles impossible_or bounded
  from_first k [] = refl
  from_first k (c ∷ cs) =
      picked (λ (us : List Usable) (r : Fields). impossible_or (bounded q us) (impossibles q us) ≡ r) (is_usable q c)
      (picked (λ (found : List Usable) (r : Fields). impossible_or (bounded q (entry k c ∷ usable_from (k + 1) q cs)) found ≡ r) (is_impossible q c) refl (after (k + 1) cs (entry k c)))
      (from_first (k + 1) cs)
