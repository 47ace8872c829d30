-- One turn of the loop over lines, by what its calls answer: what the loops' proof cites.
use mathlib.Core.Path.{◌≡◌, refl, subst⁻¹}
use mathlib.Core.List.{List}
use Prim.Native.Nat.{ℕ, ◌+◌, ◌*◌, ◌≤◌, ◌<◌}
use native.Mathlib.Omega.{arith}
use lib.IntN.{ℤ}
use lib.ListN.{length}
use mir.Syntax.{w64}
use mir.Val.{Fits}
use Rattle.std.specs.Prelude.{Option, None, Err, Result, Ok, Err}
use Rattle.theory.specs.Text.{Bytes}
use Rattle.theory.specs.Written.{Written}
use Rattle.theory.specs.Faults.{Manner, may_stand}
use Rattle.text.specs.Scans.{part, parts_from, Finds}
use Rattle.forms.specs.declared.Form.{Form}
use Rattle.tables.specs.declared.State.{State}
use Rattle.tables.specs.declared.Opened.{Opened}
use Rattle.tables.specs.Sorts.{sort_of}
use Rattle.tables.specs.declared.Tables.{Tables as Lasting}
use Rattle.tables.specs.declared.Fault.{Fault}
use Rattle.tables.specs.Tables.{Tables, Holds, NoWeights}
use Rattle.tables.specs.Lines.{Passed, SafeOpened}
use Rattle.tables.proofs.Outlines.{outline}
use Rattle.opening.specs.Opening.{Opens}
use Rattle.residuals.specs.Sums.{Summable}
use Rattle.lines.specs.declared.Room.{Room}
use Rattle.lines.specs.Steps.{FieldReady, FieldDone, Skips, variables_before, with_rule, CloseReady, CloseDone, LeavesResidual}
use Rattle.lines.specs.Between.{FieldsRead, LineJudged, LinesRead}
use Rattle.lines.specs.LineLoading.{LoadsLines}
use Rattle.lines.proofs.Steps.{close_ready}
use Rattle.lines.proofs.FieldLoop.{Emptied, fields_begin, fields_ready, fields_fault, fields_early, fields_more, fields_all}
use Rattle.lines.proofs.ZeroFields.{fields_skipped, skipped_within}
use Rattle.lines.proofs.LineEnds.{unweighed, unclosed, closable, closed}
use Rattle.lines.proofs.JudgedLines.{refused_line, refused_opening}
use Rattle.lines.proofs.LineLoop.{lines_more, lines_refused, lines_plainly_refused}

-- a turn of the loop over lines up to its call of `open`: the lines before it are read, and its own is found
pub record Turn (manner : Manner) (text : Bytes) (start : State) (t₀ : Tables) (s : State) (t : Tables) (weights : List ℤ) (number at end : ℕ) (r : Result Opened Fault) : Type 0 where
  pub allows : manner.allows ≡ may_stand
  pub read : LinesRead manner text start t₀ s t weights number at
  pub inside : at < length text
  pub finds : Finds text 10 at end
  pub opens : Opens (part text at end) t.signatures s r

pub turn_of : {manner : Manner} {text : Bytes} {start : State} {t₀ : Tables} {s : State} {t : Tables} {weights : List ℤ} {number at end : ℕ} {r : Result Opened Fault} → manner.allows ≡ may_stand → LinesRead manner text start t₀ s t weights number at → at < length text
    → Finds text 10 at end → Opens (part text at end) t.signatures s r → Turn manner text start t₀ s t weights number at end r
turn_of allows read inside finds opens = record { allows = allows; read = read; inside = inside; finds = finds; opens = opens }

pub turn_begins : {manner : Manner} {text : Bytes} {start : State} {t₀ : Tables} {s : State} {t : Tables} {weights : List ℤ} {number at : ℕ} → LinesRead manner text start t₀ s t weights number at
    → {line : Bytes} {o : Opened} {many : ℕ} {x : Room} → many ≡ variables_before (sort_of o.letter) s → Emptied t x → x.weights ≡ weights → FieldsRead o.letter line t s o many o.from 0 x
turn_begins {s = s} {t} read {line} {o} {x = x} is emptied same =
    subst⁻¹ (λ (n : ℕ). FieldsRead o.letter line t s o n o.from 0 x) is (fields_begin o.letter read.safe emptied (subst⁻¹ NoWeights same read.clear))

module _ {manner : Manner} {text : Bytes} {start : State} {t₀ : Tables} {s : State} {t : Tables} {weights : List ℤ} {number at end : ℕ} {r : Result Opened Fault} (turn : Turn manner text start t₀ s t weights number at end r) where
  -- refused when it is opened
  pub turn_unopened : {f : Fault} → r ≡ Err f → {left : Lasting} → LoadsLines manner text start t₀ (record { ending = Err f; line = number + 1; state = s; residual = None }) left
  turn_unopened {f} e =
      lines_plainly_refused turn.read turn.inside turn.finds (refused_opening turn.allows (unweighed turn.read.clear turn.read.safe.rows) turn.opens f e) refl (turn.opens.other f e)

  module _ {o : Opened} (opened : r ≡ Ok o) where
    safe_opened : SafeOpened (part text at end) s o
    safe_opened = turn.opens.safe o opened

    passed : (w : Written) → Holds t s w → Passed manner o.letter (part text at end) s w o
    passed w holds = (turn.opens.tells manner turn.allows w (outline t s w holds)).passed o opened

    -- multipliers 0 are passed over
    module _ {many from index z : ℕ} {x₀ : Room} (fields : FieldsRead o.letter (part text at end) t s o many from index x₀) (skips : Skips (part text at end) from (sort_of o.letter) z) where
      pub turn_skipped : FieldsRead o.letter (part text at end) t s o many (from + 2 * z) (index + z) x₀
      turn_skipped = fields_skipped turn.read.safe safe_opened.short o.letter refl safe_opened.few fields skips

      module _ (within : from ≤ length (part text at end)) where
        pub turn_index_moved : Fits w64 (index + z)
        turn_index_moved = omega (arith, turn_skipped.low, skipped_within within skips, safe_opened.short)

        pub turn_width_fits : Fits w64 (2 * z)
        turn_width_fits = omega (arith, skipped_within within skips, safe_opened.short)

        pub turn_from_moved : Fits w64 (from + 2 * z)
        turn_from_moved = omega (arith, skipped_within within skips, safe_opened.short)

    pub turn_from_fits : {from stop : ℕ} → Finds (part text at end) 44 from stop → Fits w64 (stop + 1)
    turn_from_fits found = omega (arith, found.high, safe_opened.short)

    module _ {many from index : ℕ} {x₀ : Room} (fields : FieldsRead o.letter (part text at end) t s o many from index x₀) where
      module _ {stop : ℕ} (within : from ≤ length (part text at end)) (found : Finds (part text at end) 44 from stop) where
        pub turn_ready : FieldReady o.letter index (part (part text at end) from stop) s many t.claims x₀
        turn_ready = fields_ready turn.read.safe safe_opened.short o.letter safe_opened.few fields within found

        pub turn_index_fits : Fits w64 (index + 1)
        turn_index_fits = omega (arith, fields.low, safe_opened.short)

        module _ {field : Result ℕ Fault} {x : Room} (done : FieldDone o.letter index (part (part text at end) from stop) s many t.claims x₀ field x) where
          pub turn_more : {n : ℕ} → field ≡ Ok n → FieldsRead o.letter (part text at end) t s o n (stop + 1) (index + 1) x
          turn_more = fields_more turn.read.safe safe_opened.short o.letter safe_opened.few fields within found x done

          -- refused at a field
          pub turn_misread : {f : Fault} → field ≡ Err f → {left : Lasting} → LoadsLines manner text start t₀ (record { ending = Err f; line = number + 1; state = s; residual = None }) left
          turn_misread {f} bad =
              let early = fields_early turn.read.safe safe_opened.short o.letter safe_opened.few fields within found x done f bad in
              lines_plainly_refused turn.read turn.inside turn.finds {t₁ = t}
              (refused_line f (λ e. omega (arith, early)) (unweighed turn.read.clear turn.read.safe.rows) (λ w holds. fields_fault turn.read.safe safe_opened.short o.letter safe_opened.few fields within found x done f bad w holds (passed w holds)))
              refl
              (λ e. omega (arith, early))

      module _ (past : length (part text at end) < from) where
        all : index ≡ length (parts_from 44 (part text at end) o.from)
        all = fields_all turn.read.safe safe_opened.short o.letter safe_opened.few fields past

        pub turn_closable : CloseReady o.letter o s (unclosed t) x₀
        turn_closable = close_ready (closable turn.read.safe o.letter fields safe_opened.few safe_opened.place safe_opened.due all)

        module _ {close : Result State Fault} {y : Lasting} {x : Room} (done : CloseDone manner o.letter o s many (unclosed t) x₀ close y x) where
          judged : LineJudged manner (part text at end) s t close (with_rule y x) x.weights
          judged = closed turn.read.safe y x o.letter fields safe_opened.few safe_opened.place safe_opened.due safe_opened.low all passed (done.of o.letter refl)

          pub turn_done : {next : State} → close ≡ Ok next → LinesRead manner text start t₀ next (with_rule y x) x.weights (number + 1) (end + 1)
          turn_done = lines_more turn.read turn.inside turn.finds judged

          pub turn_summable : Summable x.weights x.rows
          turn_summable = judged.summable

          -- refused at its end
          pub turn_refused : {f : Fault} → close ≡ Err f → {residual : Option Form} → LeavesResidual x.weights x.rows s f residual → {left : Lasting}
              → LoadsLines manner text start t₀ (record { ending = Err f; line = number + 1; state = s; residual = residual }) left
          turn_refused bad leaves = lines_refused turn.read turn.inside turn.finds judged bad leaves
