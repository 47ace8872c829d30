-- What comes of a claim, from its number for the asked argument and its numerator.
use mathlib.Core.Path.{◌≡◌, refl, sym, ◌∙◌, ap}
use mathlib.Core.Bool.{Bool, true, false, not, cond}
use mathlib.Core.List.{List}
use Prim.Native.Nat.{ℕ, ◌+◌, ◌/◌}
use native.Mathlib.Omega.{arith}
use lib.IntN.{ℤ, pos, nat_abs}
use lib.ListN.{get_or}
use lib.Signed.{lt_z, le_z}
use Rattle.std.specs.Prelude.{Some, None}
use Rattle.groundwork.proofs.Truth.{and_not_left, and_not_right}
use Rattle.theory.specs.Packs.{Claim}
use Rattle.theory.specs.Reserve.{Query, unknowns_at_most_zero, asked_number, is_usable, numerator, bound_by}
use Rattle.queries.specs.declared.query.Asked.{Asked}
use Rattle.bounds.specs.declared.Use.TheVariants.{Impossible, AtMost}
use Rattle.bounds.proofs.Numbers.{below_zero}
use Rattle.bounds.specs.Bounds.{ClaimStands, weighed, Weighs, Uses}

-- what the weighing tells of the test of unknown arguments, and of the numerator
blocked_told : (q : Query) (c : Claim) → None ≡ weighed q c → unknowns_at_most_zero c.coefficients q.sizes ≡ false
blocked_told q c = by (unknowns_at_most_zero c.coefficients q.sizes)
  where
    by : (b : Bool) → None ≡ cond b (Some (numerator q c)) None → b ≡ false
    by true e = cc
    by false e = refl

clear_told : (q : Query) (c : Claim) {n : ℤ} → Some n ≡ weighed q c → (unknowns_at_most_zero c.coefficients q.sizes ≡ true) × (n ≡ numerator q c)
clear_told q c {n} = by (unknowns_at_most_zero c.coefficients q.sizes)
  where
    by : (b : Bool) → Some n ≡ cond b (Some (numerator q c)) None → (b ≡ true) × (n ≡ numerator q c)
    by true e = (refl, cc)
    by false e = cc

module _ {claims : List ℤ} {place : ℕ} {a : Asked} where
  -- the claim's number for the asked argument
  asked_is : {q : Query} {c : Claim} → ClaimStands claims place a q c → get_or claims (place + 1 + a.asked) (pos 0) ≡ asked_number q c
  asked_is {c = c} stands = stands.at.coefficient a.asked (omega (arith, a.low)) ∙ ap (λ i. get_or c.coefficients i (pos 0)) stands.asks

  sign_is : {q : Query} {c : Claim} → ClaimStands claims place a q c → {b : Bool} → le_z (pos 0) (get_or claims (place + 1 + a.asked) (pos 0)) ≡ b → lt_z (asked_number q c) (pos 0) ≡ not b
  sign_is stands e = ap (λ z. lt_z z (pos 0)) (sym (asked_is stands)) ∙ below_zero (get_or claims (place + 1 + a.asked) (pos 0)) ∙ ap not e

  -- ---- claims that are not usable

  pub use_unasked : le_z (pos 0) (get_or claims (place + 1 + a.asked) (pos 0)) ≡ true → Uses claims place a None
  unfolding is_usable
  use_unasked over = record { tells = λ q c stands. rw (and_not_left (lt_z (asked_number q c) (pos 0)) (unknowns_at_most_zero c.coefficients q.sizes) (sign_is stands over)) refl }

  pub use_blocked : Weighs claims place a None → Uses claims place a None
  unfolding is_usable
  use_blocked weighs = record { tells = λ q c stands. rw (and_not_right (lt_z (asked_number q c) (pos 0)) (unknowns_at_most_zero c.coefficients q.sizes) (blocked_told q c (weighs.tells q c stands))) refl }

  -- ---- usable claims

  module _ (negative : le_z (pos 0) (get_or claims (place + 1 + a.asked) (pos 0)) ≡ false) {n : ℤ} (weighs : Weighs claims place a (Some n)) where
    usable : {q : Query} {c : Claim} → ClaimStands claims place a q c → (is_usable q c ≡ true) × (n ≡ numerator q c)
    unfolding is_usable
    usable {q} {c} stands =
        let clear = clear_told q c (weighs.tells q c stands) in
        (rw (sign_is stands negative, clear.0) refl, clear.1)

    pub use_impossible : lt_z n (pos 0) ≡ true → Uses claims place a (Some Impossible)
    use_impossible below = record {
      tells = λ q c stands. let u = usable stands in rw (u.0, ← u.1, below) refl;
    }

    -- m and d are the numerator and the divisor as the code has them
    pub use_bound : lt_z n (pos 0) ≡ false → {m d : ℕ} → m ≡ nat_abs n → d ≡ nat_abs (get_or claims (place + 1 + a.asked) (pos 0)) → Uses claims place a (Some (AtMost (m / d)))
    unfolding bound_by
    use_bound natural {m} {d} top bottom = record {
      tells = λ q c stands. let u = usable stands in rw (u.0, ← u.1, natural, top, bottom, asked_is stands) refl;
    }
