-- A line that is judged before it is read whole: refused when it is opened, or at one of its fields.
use mathlib.Core.Path.{◌≡◌, sym, ap}
use mathlib.Core.List.{List}
use lib.IntN.{ℤ}
use Rattle.std.specs.Prelude.{Result, Err}
use Rattle.theory.specs.Text.{Bytes}
use Rattle.theory.specs.Written.{Written}
use Rattle.theory.specs.Faults.{Manner, may_stand, fault}
use Rattle.tables.specs.declared.State.{State}
use Rattle.tables.specs.declared.Opened.{Opened}
use Rattle.tables.specs.declared.Fault.{Fault}
use Rattle.tables.specs.declared.Fault.TheVariants.{Unjustified}
use Rattle.tables.specs.Faults.{number_of}
use Rattle.tables.specs.Tables.{Tables, Holds}
use Rattle.tables.proofs.Outcomes.{ok_never_err, same_err}
use Rattle.tables.proofs.Outlines.{outline}
use Rattle.residuals.specs.Sums.{Summable}
use Rattle.opening.specs.Opening.{Opens}
use Rattle.lines.specs.Between.{LineJudged}

-- nothing is asked of the tables after it
pub refused_line : {manner : Manner} {line : Bytes} {t t₁ : Tables} {s : State} {weights : List ℤ} (f : Fault) → (number_of f ≡ 13 → ⊥) → Summable weights t₁.rows → ((w : Written) → Holds t s w → fault manner w line ≡ number_of f) → LineJudged manner line s t (Err f) t₁ weights
refused_line f other summable tells = record {
  safe = λ next e. absurd (ok_never_err (sym e));
  summable = summable;
  tells = λ w holds. record { answer = tells w holds; holds = λ next e. absurd (ok_never_err (sym e)) };
  left = λ w holds e. absurd (last e);
}
  where
    last : ◌≡◌ {A = Result State Fault} (Err f) (Err Unjustified) → ⊥
    last e = other (ap number_of (same_err e))

pub refused_opening : {manner : Manner} → manner.allows ≡ may_stand → {line : Bytes} {t : Tables} {s : State} {r : Result Opened Fault} {weights : List ℤ} → Summable weights t.rows → Opens line t.signatures s r → (f : Fault) → r ≡ Err f → LineJudged manner line s t (Err f) t weights
refused_opening {manner} same {t = t} {s} summable opens f e = refused_line f (opens.other f e) summable (λ w holds. (opens.tells manner same w (outline t s w holds)).refused f e)
