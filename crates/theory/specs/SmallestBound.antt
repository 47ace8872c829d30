-- Demand 2, its last sentence: which claims are usable, what each of them gives, and what a bound, "impossible" and "no bound" say
-- of them, in words: by the places of the arguments, from 0 (document 01, "Reserving").
use Rattle.std.specs.Prelude.{◌≡◌, List, ℕ, ◌+◌, ◌-◌, ◌≤◌, ◌<◌, ℤ, pos, neg_ℤ, ◌+ℤ◌, ◌*ℤ◌, length, get_or, ◌≤ℤ◌, ◌<ℤ◌}
use Rattle.std.proofs.Math.Option
use Rattle.std.proofs.Math.Option.{none}
use Rattle.theory.specs.Lists.{summed}
use Rattle.theory.specs.Packs.{Claim, Pack, no_claim, claims_on}
use Rattle.theory.specs.Reserve.{Query, query_key, size_given}

-- ## One claim

-- the claim's number for the argument at a place
abbrev pub number_at : Claim → ℕ → ℤ
number_at c i = get_or c.coefficients i (pos 0)

-- A claim is usable: its number for the asked argument is below 0, and that of every argument of unknown size at most 0.
pub record IsUsable (q : Query) (c : Claim) : Type 0 where
  pub asked : number_at c q.asked <ℤ pos 0
  pub unknown : (i : ℕ) → i < length q.sizes → size_given i q ≡ none → number_at c i ≤ℤ pos 0

-- its numerator: the constant, and each known size times the number for it; an unknown one counts as 0
abbrev pub numerator_of : Query → Claim → ℤ
numerator_of q c = c.constant +ℤ summed (length q.sizes) (λ i. number_at c i *ℤ pos (Option.get_or (size_given i q) 0))

-- b is what it gives, the numerator divided by minus the asked number and rounded down: b times that is at most the numerator,
-- and b + 1 times that is more.
pub record IsBound (q : Query) (c : Claim) (b : ℕ) : Type 0 where
  pub fits : (neg_ℤ (number_at c q.asked) *ℤ pos b) ≤ℤ numerator_of q c
  pub next : numerator_of q c <ℤ (neg_ℤ (number_at c q.asked) *ℤ pos (b + 1))

-- ## The claims on the query's predicate

-- c is number n of some claims, numbered from k
pub record NumberedFrom (k : ℕ) (cs : List Claim) (n : ℕ) (c : Claim) : Type 0 where
  pub low : k ≤ n
  pub high : n < k + length cs
  pub is : get_or cs (n - k) no_claim ≡ c

-- c is a claim on the query's predicate, number n of these, from 1; and it is usable
pub record UsableClaim (p : Pack) (q : Query) (n : ℕ) (c : Claim) : Type 0 where
  pub numbered : NumberedFrom 1 (claims_on (query_key q) p.claims) n c
  pub is_usable : IsUsable q c

-- A bound, given by claim n: every usable claim has a numerator of at least 0, the bound is the smallest that they give, and n the lowest that gives it.
pub record BoundGiven (p : Pack) (q : Query) (bound n : ℕ) : Type 0 where
  pub claim : Claim
  pub usable : UsableClaim p q n claim
  pub is_bound : IsBound q claim bound
  pub possible : (m : ℕ) (c : Claim) → UsableClaim p q m c → pos 0 ≤ℤ numerator_of q c
  pub least : (m : ℕ) (c : Claim) → UsableClaim p q m c → (b : ℕ) → IsBound q c b → bound ≤ b
  pub lowest : (m : ℕ) (c : Claim) → UsableClaim p q m c → IsBound q c bound → n ≤ m

-- Impossible by claim n: the lowest usable claim with a numerator below 0.
pub record ImpossibleBy (p : Pack) (q : Query) (n : ℕ) : Type 0 where
  pub claim : Claim
  pub usable : UsableClaim p q n claim
  pub negative : numerator_of q claim <ℤ pos 0
  pub lowest : (m : ℕ) (c : Claim) → UsableClaim p q m c → numerator_of q c <ℤ pos 0 → n ≤ m

-- No bound: no claim is usable.
pub record NoneUsable (p : Pack) (q : Query) : Type 0 where
  pub none : (m : ℕ) (c : Claim) → UsableClaim p q m c → ⊥
