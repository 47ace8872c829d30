-- The loop over the lines of a text: before the first, after a line that passes, and where it ends.
use mathlib.Core.Path.{◌≡◌, refl, sym, ◌∙◌, ap, subst⁻¹}
use mathlib.Core.List.{List, [], ◌∷◌}
use Prim.Native.Nat.{ℕ, ◌+◌, ◌≤◌, ◌<◌}
use native.Mathlib.Omega.{arith}
use lib.Dec.{eqb}
use lib.IntN.{ℤ, pos}
use lib.ListN.{length, drop, replicate, length-replicate}
use Rattle.std.specs.Prelude.{Result, Ok, Err, Option, Some, None}
use Rattle.groundwork.proofs.Lists.{same_everywhere}
use Rattle.groundwork.proofs.Truth.{by_truth, never_both, eqb-equal, eqb-different}
use Rattle.theory.specs.Text.{Bytes, fields_of, lines_of}
use Rattle.theory.specs.Written.{Written, write, write_all, multipliers_from}
use Rattle.theory.specs.Faults.{Manner, fault, last_rule, residual_due}
use Rattle.theory.specs.Check.{Judgement, refused, judge}
use Rattle.text.specs.Scans.{part, Finds}
use Rattle.text.proofs.Cuts.{lines_done, lines_step}
use Rattle.forms.specs.declared.Form.{Form}
use Rattle.tables.specs.declared.State.{State}
use Rattle.tables.specs.declared.Fault.{Fault}
use Rattle.tables.specs.declared.Fault.TheVariants.{Unjustified}
use Rattle.tables.specs.Faults.{number_of, closing_number}
use Rattle.tables.proofs.FaultNumbers.{thirteen, number_some}
use Rattle.tables.specs.declared.Tables.{Tables as Lasting}
use Rattle.tables.specs.Tables.{Tables, tables, NoWeights, Safe}
use Rattle.residuals.specs.Sums.{form_numbers}
use Rattle.lines.specs.declared.Room.{Room}
use Rattle.lines.specs.Steps.{IsEmpty, lasting, with_rule, LeavesResidual}
use Rattle.lines.specs.Between.{LineJudged, Reached, LinesRead}
use Rattle.lines.specs.LineLoading.{unruled, fault_numbers, LinesLoadedFor, LoadsLines}

-- ---- how the lines end

all_stopped : {f : Fault} → ◌≡◌ {A = Result (Unit {0}) Fault} (Ok tt) (Err f) → ⊥
all_stopped e = cc

stopped_fault : {f g : Fault} → ◌≡◌ {A = Result (Unit {0}) Fault} (Err f) (Err g) → f ≡ g
stopped_fault e = cc

some_none : {form : Form} → ◌≡◌ {A = Option Form} None (Some form) → ⊥
some_none e = cc

-- ---- verdicts

judge_passed : (manner : Manner) (w : Written) (k : ℕ) (l : Bytes) (ls : List Bytes) → fault manner w l ≡ 0 → judge manner w k (l ∷ ls) ≡ judge manner (write w l) (k + 1) ls
unfolding judge
judge_passed manner w k l ls e = rw e refl

judge_refused : (manner : Manner) (w : Written) (k : ℕ) (l : Bytes) (ls : List Bytes) (n : ℕ) → fault manner w l ≡ n → (n ≡ 0 → ⊥) → judge manner w k (l ∷ ls) ≡ refused w (k + 1) l n
unfolding judge
judge_refused manner w k l ls n e some = rw (e, eqb-different n 0 some) refl

-- the answer of a line with a fault, by what the state counts, and its residual
module _ (w : Written) (k : ℕ) (l : Bytes) (f : Fault) where
  returned_as : (s : State) → s.rules ≡ length w.pack.rules → (f ≡ Unjustified → s.multipliers ≡ length (last_rule w.pack).multipliers) → (refused w k l (number_of f)).returned ≡ fault_numbers f k s.rules (s.multipliers + 1)
  unfolding refused
  returned_as s rules multipliers =
      by_truth (λ b. (refused w k l (number_of f)).returned ≡ fault_numbers f k s.rules (s.multipliers + 1)) (eqb (number_of f) 13)
      (λ e. rw (e, rules, multipliers (thirteen f (eqb-equal (number_of f) 13 e))) refl)
      (λ e. rw e refl)

  residue_as : (residue : List ℤ) → (f ≡ Unjustified → residue ≡ residual_due w.pack (multipliers_from (fields_of l))) → ((f ≡ Unjustified → ⊥) → residue ≡ []) → (refused w k l (number_of f)).residue ≡ residue
  unfolding refused
  residue_as residue left other =
      by_truth (λ b. (refused w k l (number_of f)).residue ≡ residue) (eqb (number_of f) 13)
      (λ e. rw (e, left (thirteen f (eqb-equal (number_of f) 13 e))) refl)
      (λ e. rw (e, other (λ is. never_both (ap (λ (g : Fault). eqb (number_of g) 13) is) e)) refl)

write_all_more : (w : Written) (l : Bytes) (ls : List Bytes) → write_all w (l ∷ ls) ≡ write_all (write w l) ls
unfolding write_all
write_all_more w l ls = refl

write_all_none : (w : Written) → write_all w [] ≡ w
unfolding write_all
write_all_none w = refl

-- ---- the loop

-- no weights stand in an array of zeros
pub zeros_clear : NoWeights (replicate 81 (pos 0))
zeros_clear = record { size = length-replicate 81 (pos 0); zero = λ i. same_everywhere (pos 0) 81 i }

pub lines_begin : {manner : Manner} {text : Bytes} {start : State} {t : Tables} {weights : List ℤ} → Safe t start → NoWeights weights → LinesRead manner text start t start t weights 0 0
lines_begin safe clear =
    record {
      within = omega arith;
      few = omega arith;
      all = omega arith;
      safe = safe;
      clear = clear;
      tells = λ w₀ holds. record { w = w₀; holds = holds; judged = refl; written = refl; counted = omega arith };
    }

-- the room is empty, and so the tables are those before any rule
pub room_begins : {manner : Manner} {text : Bytes} {start : State} {y : Lasting} {x : Room} → IsEmpty x → Safe (unruled y) start → LinesRead manner text start (unruled y) start (with_rule y x) x.weights 0 0
room_begins {manner} {text} {start} {y} {x} empty safe =
    let same : with_rule y x ≡ unruled y = λ i. tables y.signatures y.claims (empty.variables i) (empty.rows i) (empty.slots i) in
    rw same (lines_begin safe (subst⁻¹ NoWeights empty.weights zeros_clear))

module _ {manner : Manner} {text : Bytes} {start : State} {t₀ : Tables} {s : State} {t : Tables} {weights : List ℤ} {line at : ℕ} (read : LinesRead manner text start t₀ s t weights line at) where
  -- past the end of the text
  pub lines_end : length text ≤ at → LoadsLines manner text start t₀ (record { ending = Ok tt; line = line; state = s; residual = None }) (lasting t.signatures t.claims)
  lines_end past =
      record {
        state = read.safe.state;
        few = read.all;
        plain = λ e. refl;
        only = λ f e form is. absurd (all_stopped e);
        left = λ e is. all_stopped e;
        tells = λ w₀ holds. reached w₀ (read.tells w₀ holds);
      }
    where
      none : lines_of (drop at text) ≡ []
      none = lines_done text at past

      reached : (w₀ : Written) → Reached manner text w₀ s t line at → LinesLoadedFor manner text w₀ (record { ending = Ok tt; line = line; state = s; residual = None }) (lasting t.signatures t.claims)
      reached w₀ there =
          let written : write_all w₀ (lines_of text) ≡ there.w = there.written ∙ ap (write_all there.w) none ∙ write_all_none there.w in
          record {
            refused = λ f e. absurd (all_stopped e);
            residue = λ form e. absurd (some_none e);
            none = λ f e. absurd (all_stopped e);
            lines = λ e. let count = rw none at there.counted in omega arith;
            passed = λ e. there.judged ∙ rw (none, written) refl;
            holds = λ e. record { variables = t.variables; rows = t.rows; slots = t.slots; safe = read.safe; holds = rw written there.holds };
          }

  module _ {end : ℕ} (inside : at < length text) (finds : Finds text 10 at end) {r : Result State Fault} {t₁ : Tables} {weights₁ : List ℤ} (judged : LineJudged manner (part text at end) s t r t₁ weights₁) where
    lines : lines_of (drop at text) ≡ part text at end ∷ lines_of (drop (end + 1) text)
    lines = lines_step text at end inside finds

    -- the next line passes
    pub lines_more : {next : State} → r ≡ Ok next → LinesRead manner text start t₀ next t₁ weights₁ (line + 1) (end + 1)
    lines_more {next} good =
        record {
          within = omega (arith, finds.high);
          few = omega (arith, read.few, finds.low);
          all = omega (arith, read.few);
          safe = (judged.safe next good).0;
          clear = (judged.safe next good).1;
          tells = λ w₀ holds. reached w₀ (read.tells w₀ holds);
        }
      where
        reached : (w₀ : Written) → Reached manner text w₀ s t line at → Reached manner text w₀ next t₁ (line + 1) (end + 1)
        reached w₀ there =
            let w = there.w in
            let after = judged.tells w there.holds in
            record {
              w = write w (part text at end);
              holds = after.holds next good;
              judged = there.judged ∙ ap (judge manner w line) lines ∙ judge_passed manner w line (part text at end) _ (after.answer ∙ ap closing_number good);
              written = there.written ∙ ap (write_all w) lines ∙ write_all_more w (part text at end) _;
              counted = let count = rw lines at there.counted in omega arith;
            }

    -- the next line is refused
    pub lines_refused : {f : Fault} → r ≡ Err f → {residual : Option Form} → LeavesResidual weights₁ t₁.rows s f residual → {left : Lasting}
        → LoadsLines manner text start t₀ (record { ending = Err f; line = line + 1; state = s; residual = residual }) left
    lines_refused {f} bad {residual} leaves {left} =
        record {
          state = read.safe.state;
          few = omega (arith, read.few);
          plain = λ e. absurd (all_stopped (sym e));
          only = λ g e form is. sym (stopped_fault e) ∙ leaves.some form is;
          left = λ e is. leaves.none is (stopped_fault e);
          tells = λ w₀ holds. reached w₀ (read.tells w₀ holds);
        }
      where
        reached : (w₀ : Written) → Reached manner text w₀ s t line at → LinesLoadedFor manner text w₀ (record { ending = Err f; line = line + 1; state = s; residual = residual }) left
        reached w₀ there =
            let w = there.w in
            let answer = (judged.tells w there.holds).answer ∙ ap closing_number bad in
            let misclosed : f ≡ Unjustified → r ≡ Err Unjustified = λ e. bad ∙ ap Err e in
            let judgement : judge manner w₀ 0 (lines_of text) ≡ refused w (line + 1) (part text at end) (number_of f) = there.judged ∙ ap (judge manner w line) lines ∙ judge_refused manner w line (part text at end) _ (number_of f) answer (number_some f) in
            record {
              refused = λ g e. ap (λ (v : Judgement). v.returned) judgement ∙ rw (← stopped_fault e) (returned_as w (line + 1) (part text at end) f s there.holds.rules
                  (λ is. (there.holds.last (judged.left w there.holds (misclosed is)).ruled).multipliers));
              residue = λ form is long. ap (λ (v : Judgement). v.residue) judgement ∙ residue_as w (line + 1) (part text at end) f (form_numbers form)
                  (λ u. (judged.left w there.holds (misclosed u)).sum form long (leaves.sum form is)) (λ other. absurd (other (leaves.some form is)));
              none = λ g e is. ap (λ (v : Judgement). v.residue) judgement ∙ residue_as w (line + 1) (part text at end) f [] (λ u. absurd (leaves.none is u)) (λ other. refl);
              lines = λ e. absurd (all_stopped (sym e));
              passed = λ e. absurd (all_stopped (sym e));
              holds = λ e. absurd (all_stopped (sym e));
            }

    -- and its fault is not an unjustified claim
    pub lines_plainly_refused : {f : Fault} → r ≡ Err f → (number_of f ≡ 13 → ⊥) → {left : Lasting} → LoadsLines manner text start t₀ (record { ending = Err f; line = line + 1; state = s; residual = None }) left
    lines_plainly_refused bad other = lines_refused bad (record { sum = λ form is. absurd (some_none is); some = λ form is. absurd (some_none is); none = λ is u. other (ap number_of u) })
