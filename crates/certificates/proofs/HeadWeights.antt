-- An `M` line when its claim's numbers stand as the head's weights: they can be summed, and the line is done or refused by the sum.
use mathlib.Core.Path.{◌≡◌, refl, sym, ◌∙◌}
use Rattle.std.specs.Prelude.{Ok, Err}
use mathlib.Core.Bool.{Bool, true, false}
use mathlib.Core.List.{List}
use Prim.Native.Nat.{ℕ, ◌+◌, ◌*◌, ◌≤◌, ◌<◌}
use native.Mathlib.Decide.{dec_lt}
use native.Mathlib.Omega.{arith}
use lib.IntN.{ℤ, pos, nat_abs}
use lib.ListN.{get_or}
use Rattle.forms.specs.declared.Form.{Form}
use Rattle.tables.specs.declared.State.{State}
use Rattle.tables.specs.declared.Fault.TheVariants.{Unjustified}
use Rattle.tables.specs.Tables.{claim_place, SafeClaims, NoWeights}
use Rattle.tables.proofs.Outcomes.{ok_never_err}
use Rattle.residuals.specs.Sums.{width, largest, Summable, SumsTo, Judged}
use Rattle.certificates.specs.Weights.{HeadWeighed}
use Rattle.certificates.specs.Multipliers.{ClosesM, with_multipliers}

pub head_summable : {claims : List ℤ} {place : ℕ} {before after : List ℤ} {rows : List ℕ} → SafeClaims claims → Summable before rows → HeadWeighed claims place before after → Summable after rows
head_summable {claims} {place} {before} {after} safe sums head =
    record { size = head.size ∙ sums.size; weight = λ i. weight i (dec_lt i 9); row = sums.row }
  where
    weight : (i : ℕ) → Dec (i < 9) → nat_abs (get_or after i (pos 0)) ≤ 16 * largest
    weight i (yes low) = rw (head.weight i low) (omega (arith, safe.small (place + i)))
    weight i (no high) = rw (head.above i (omega arith)) (sums.weight i)

module _ (s : State) (claims weights₀ : List ℤ) (rows : List ℕ) (place : ℕ) (isPlace : place ≡ claim_place s.head s.multipliers) (weighed : List ℤ) (head : HeadWeighed claims place weights₀ weighed)
    (sum : Form) (sums : SumsTo weighed rows (width s.variables) (s.subgoals + 1) sum) (justified : Bool) (judged : Judged sum justified) where
  pub line_refused : justified ≡ false → ClosesM s claims weights₀ rows (Err Unjustified) weighed
  line_refused negative =
      record {
        weighed = weighed;
        head = rw (← isPlace) head;
        sum = sum;
        sums = sums;
        done = λ next e. absurd (ok_never_err (sym e));
        unjustified = λ f e. (cc, refl, judged.no negative);
      }

  pub line_done : (weights : List ℤ) → justified ≡ true → NoWeights weights → ClosesM s claims weights₀ rows (Ok (with_multipliers s)) weights
  line_done weights nonnegative cleared =
      record {
        weighed = weighed;
        head = rw (← isPlace) head;
        sum = sum;
        sums = sums;
        done = λ next e. (cc, cleared, judged.yes nonnegative);
        unjustified = λ f e. absurd (ok_never_err e);
      }
