-- Tables of zeros, and the state before any line: they stand for a pack of nothing.
use mathlib.Core.Path.{◌≡◌, refl, ap, subst⁻¹}
use mathlib.Core.List.{[]}
use Prim.Native.Nat.{ℕ}
use native.Mathlib.Omega.{arith}
use lib.IntN.{pos}
use lib.ListN.{length-replicate, replicate}
use Rattle.groundwork.proofs.Lists.{same_everywhere}
use Rattle.theory.specs.Lists.{is_empty}
use Rattle.theory.specs.Written.{nothing}
use Rattle.theory.specs.Faults.{owes_rule, heads_rule}
use Rattle.theory.specs.Check.{multiplier_lines}
use Rattle.tables.specs.declared.State.{State}
use Rattle.tables.proofs.PredicateSets.{set_nothing}
use Rattle.tables.proofs.Shipping.{ships_nothing}
use Rattle.tables.specs.declared.Tables.{Tables as Lasting}
use Rattle.tables.specs.declared.Signature.{Signature}
use Rattle.tables.specs.Tables.{no_signature, no_slot, Tables, Holds, slots_of, Safe}
use Rattle.lines.specs.Steps.{no_words}
use Rattle.lines.specs.LineLoading.{unruled}
use Rattle.packs.specs.Loading.{begun, fresh}

pub fresh_safe : Safe fresh begun
unfolding slots_of
fresh_safe =
    record {
      sizes = record { signatures = length-replicate 32 no_signature; claims = length-replicate 4608 (pos 0); variables = length-replicate 32 no_words; rows = length-replicate {A = ℕ} 1224 0; slots = length-replicate 128 no_slot };
      state = record { predicates = omega arith; rules = omega arith; head = omega arith; subgoals = omega arith; variables = omega arith; slots = omega arith; multipliers = omega arith; lines = omega arith };
      signatures = record { arity = λ i below. rw (same_everywhere no_signature 32 i) (omega arith); count = λ i below. rw (same_everywhere no_signature 32 i) (omega arith) };
      claims = record { small = λ i. rw (same_everywhere (pos 0) 4608 i) (omega arith) };
      rows = record { small = λ i. rw (same_everywhere {A = ℕ} 0 1224 i) (omega arith) };
      slots = record { place = λ k below. absurd (omega arith); subgoal = λ k below. absurd (omega arith); few = λ subgoal. omega arith };
    }

pub fresh_holds : Holds fresh begun nothing
unfolding nothing multiplier_lines is_empty
fresh_holds =
    record {
      declares = record { count = refl; words = λ i below. absurd (omega arith); named = λ i below. absurd (omega arith); arity = λ i below. absurd (omega arith); kind = λ i below. absurd (omega arith); distinct = λ i j below other same. absurd (omega arith) };
      claims = record { count = λ i below. absurd (omega arith); none = λ i above below. ap (λ (x : Signature). x.claims) (same_everywhere no_signature 32 i); at = λ i j below other. absurd (omega arith) };
      claimed = refl;
      shipped = ships_nothing;
      owing = set_nothing (owes_rule []);
      headed = set_nothing (heads_rule []);
      rules = refl;
      lines = refl;
      last = λ some. absurd (some refl);
      ended = refl;
    }

-- tables that are made as zeros
pub fresh_made : {t : Lasting} → t.signatures ≡ replicate 32 no_signature → t.claims ≡ replicate 4608 (pos 0) → unruled t ≡ fresh
fresh_made signatures claims = rw (signatures, claims)

-- tables of zeros and that state are ready for the lines
pub fresh_ready : {t : Tables} {s : State} → t ≡ fresh → s ≡ begun → Safe t s
fresh_ready {t = t} isFresh isBegun = subst⁻¹ (λ (x : State). Safe t x) isBegun (subst⁻¹ (λ (x : Tables). Safe x begun) isFresh fresh_safe)
