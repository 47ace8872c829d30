-- A claim's nine numbers laid into the table, zeros after those of the arguments.
use mathlib.Core.Path.{◌≡◌, refl, sym, ◌∙◌, ap}
use mathlib.Core.Bool.{cond}
use mathlib.Core.List.{List}
use Prim.Native.Nat.{ℕ, ◌+◌, ◌≤◌, ◌<◌}
use native.Mathlib.Omega.{arith}
use lib.Dec.{leb}
use lib.IntN.{ℤ, pos}
use lib.ListN.{length, get_or, set}
use mir.Facts.{to_z-of_z}
use mir.Syntax.{w16}
use mir.Val.{SFits, to_z, of_z}
use Rattle.std.specs.Prelude.{Ok, Err}
use Rattle.groundwork.proofs.Truth.{le-leb, gt-leb}
use Rattle.groundwork.proofs.Stretches.{Stored, stored_more}
use Rattle.tables.specs.declared.Signature.{Signature}
use Rattle.tables.specs.declared.State.{State}
use Rattle.tables.specs.declared.Opened.{Opened}
use Rattle.tables.specs.declared.Fault.TheVariants.{CountLimit}
use Rattle.tables.specs.Tables.{signature_at, counted, claim_place}
use Rattle.tables.proofs.Outcomes.{at_limit, below_limit}
use Rattle.declarations.specs.Ends.{owing_with, with_owing, with_claim, Laid, ClosesC}

-- the number at a place
abbrev pub laid_at : List ℤ → ℕ → ℕ → ℤ
laid_at row arity i = cond (leb i arity) (get_or row i (pos 0)) (pos 0)

laid_number_is : (row : List ℤ) (arity i : ℕ) → i ≤ arity → laid_at row arity i ≡ get_or row i (pos 0)
laid_number_is row arity i h = rw (le-leb i arity h)

laid_zero_is : (row : List ℤ) (arity i : ℕ) → arity < i → laid_at row arity i ≡ pos 0
laid_zero_is row arity i h = rw (gt-leb i arity h)

module _ (row : List ℤ) (arity place : ℕ) (claims₀ claims : List ℤ) (n : ℕ) (stored : Stored (pos 0) (laid_at row arity) place claims₀ claims n) where
  pub laid_all : n ≡ 9 → Laid claims₀ place row arity claims
  laid_all nine =
      record {
        size = stored.size;
        number = λ i h k. stored.done i (omega arith) ∙ laid_number_is row arity i k;
        beyond = λ i h k. stored.done i (omega arith) ∙ laid_zero_is row arity i k;
        below = stored.below;
        above = λ i h. stored.above i (omega arith);
      }

  module _ (less : n < 9) (room : place + 9 ≤ 4608) (long : length claims₀ ≡ 4608) where
    one_more_lem : (z : ℤ) → z ≡ laid_at row arity n → Stored (pos 0) (laid_at row arity) place claims₀ (set claims (place + n) z) (n + 1)
    one_more_lem z = stored_more (place + n) z stored refl (omega (arith, stored.size))

    -- a number that is read out of the row stands as its bits
    pub laid_number : SFits w16 (get_or row n (pos 0)) → n ≤ arity → Stored (pos 0) (laid_at row arity) place claims₀ (set claims (place + n) (to_z w16 (of_z w16 (get_or row n (pos 0))))) (n + 1)
    laid_number fits h = one_more_lem (to_z w16 (of_z w16 (get_or row n (pos 0)))) (to_z-of_z fits ∙ sym (laid_number_is row arity n h))

    pub laid_zero : arity < n → Stored (pos 0) (laid_at row arity) place claims₀ (set claims (place + n) (pos 0)) (n + 1)
    laid_zero h = one_more_lem (pos 0) (sym (laid_zero_is row arity n h))

-- ---- the end of a line

module _ (o : Opened) (s : State) (row : List ℤ) (signatures : List Signature) (claims₀ : List ℤ) (count : ℕ) (stood : count ≡ (signature_at signatures o.predicate).claims) where
  pub claim_refused : 16 ≤ count → ClosesC o s row signatures claims₀ (Err CountLimit) signatures claims₀
  claim_refused full =
      record {
        answer = at_limit CountLimit (with_claim o.predicate signatures s) 16 (signature_at signatures o.predicate).claims (omega arith);
        signatures_are = λ less. absurd (omega arith);
        claims_are = λ less. absurd (omega arith);
      }

  pub claim_added : (place arity more owing : ℕ) (claims : List ℤ) → count < 16 → place ≡ claim_place o.predicate count → arity ≡ (signature_at signatures o.predicate).arity → Laid claims₀ place row arity claims → more ≡ count + 1 → owing ≡ owing_with s.owing o.predicate (signature_at signatures o.predicate).kind
      → ClosesC o s row signatures claims₀ (Ok (with_owing owing s)) (counted signatures o.predicate more) claims
  claim_added place arity more owing claims room placed known laid counts owed =
      record {
        answer = ap (λ (x : ℕ). Ok (with_owing x s)) owed ∙ below_limit CountLimit (with_claim o.predicate signatures s) 16 (signature_at signatures o.predicate).claims (omega arith);
        signatures_are = λ less. rw (counts, stood);
        claims_are = λ less. rw (← known, ← stood, ← placed) laid;
      }
