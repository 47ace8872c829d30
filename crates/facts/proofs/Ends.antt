-- What the end of a `G` line answers: not ground, a claim that is not met, or done.
use mathlib.Core.Path.{◌≡◌, ◌∙◌}
use Rattle.std.specs.Prelude.{Ok, Err}
use mathlib.Core.Bool.{Bool, true, false}
use mathlib.Core.List.{List}
use Prim.Native.Nat.{ℕ, ◌≤◌, ◌<◌, ◌^◌}
use native.Mathlib.Omega.{arith}
use lib.Bits.{bit_or}
use lib.IntN.{ℤ}
use Rattle.groundwork.proofs.Truth.{lt-ltb, ge-ltb}
use Rattle.tables.specs.declared.Signature.{Signature}
use Rattle.tables.specs.declared.State.{State}
use Rattle.tables.specs.declared.Opened.{Opened}
use Rattle.tables.specs.declared.Fault.TheVariants.{NotGround, UnmetClaim}
use Rattle.tables.specs.Tables.{signature_at, SafeSignatures}
use Rattle.facts.specs.Ends.{met_to, met_by, with_shipped, ClosesG}

module _ (o : Opened) (s : State) (many : ℕ) (signatures : List Signature) (claims : List ℤ) (rows : List ℕ) where
  pub not_ground_lem : 0 < many → ClosesG o s many signatures claims rows (Err NotGround)
  not_ground_lem h = record { answer = rw (lt-ltb 0 many h) }

  -- ground, with what `is_met` says of it
  module _ (ground : many ≤ 0) {count arity : ℕ} (counted : count ≡ (signature_at signatures o.predicate).claims) (full : arity ≡ (signature_at signatures o.predicate).arity) (met : Bool) (told : met ≡ met_to claims o.predicate rows arity count) where
    told_so : met ≡ met_by o signatures claims rows
    told_so = told ∙ rw (counted, full)

    pub claim_unmet : met ≡ false → ClosesG o s many signatures claims rows (Err UnmetClaim)
    claim_unmet e = record { answer = rw (ge-ltb 0 many ground, ← told_so, e) }

    pub fact_done : met ≡ true → {set : ℕ} → set ≡ bit_or s.shipped (2 ^ o.predicate) → ClosesG o s many signatures claims rows (Ok (with_shipped set s))
    fact_done e is = record { answer = rw (ge-ltb 0 many ground, ← told_so, e, is) }

-- what `is_met` asks of the counts that the signatures hold
pub few_claims_lem : {signatures : List Signature} → SafeSignatures signatures → (p : ℕ) → p < 32 → {count : ℕ} → count ≡ (signature_at signatures p).claims → count ≤ 16
few_claims_lem safe p h is = omega (arith, safe.count p h)

pub few_arguments : {signatures : List Signature} → SafeSignatures signatures → (p : ℕ) → p < 32 → {arity : ℕ} → arity ≡ (signature_at signatures p).arity → arity ≤ 8
few_arguments safe p h is = omega (arith, safe.arity p h)
