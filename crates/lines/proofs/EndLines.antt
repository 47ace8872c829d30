-- `E` lines.
use mathlib.Core.Path.{◌≡◌, sym}
use mathlib.Core.Bool.{Bool, true, false, cond, not, ◌&&◌, ◌||◌, or-true}
use lib.Bits.{bit_or}
use lib.Dec.{eqb}
use Rattle.std.specs.Prelude.{Result, Ok, Err}
use Rattle.theory.specs.declared.Letter.TheVariants.{E}
use Rattle.theory.specs.Lists.{any}
use Rattle.theory.specs.Text.{Bytes, fields_of}
use Rattle.theory.specs.Written.{Written, add}
use Rattle.theory.specs.Faults.{first_given, is_headless, end_tests, Manner, tests, fault}
use Rattle.theory.proofs.Judging.LineWriting.{write_as}
use Rattle.tables.specs.declared.State.{State}
use Rattle.tables.specs.declared.Opened.{Opened}
use Rattle.tables.specs.declared.Fault.{Fault}
use Rattle.tables.specs.declared.Fault.TheVariants.{Headless}
use Rattle.tables.specs.Tables.{Tables, Holds, Safe}
use Rattle.tables.specs.Lines.{Passed, ClosedFor}
use Rattle.tables.proofs.Outcomes.{line_number, line_passes, line_fails}
use Rattle.tables.proofs.PredicateSets.{within_told}
use Rattle.lines.specs.Steps.{with_end, ClosesE}

-- ---- what `close_end` answers

module _ (manner : Manner) (s : State) (refuses within : Bool) (asked : refuses ≡ manner.refuses_headless) (told : within ≡ eqb (bit_or s.owing s.headed) s.headed) where
  pub end_refused : (refuses && not within) ≡ true → ClosesE manner s (Err Headless)
  end_refused e = record { answer = rw (← asked, ← told, e) }

  pub end_done : (refuses && not within) ≡ false → ClosesE manner s (Ok (with_end s))
  end_done e = record { answer = rw (← asked, ← told, e) }

-- ---- what it says of the line

-- the test that is left when the fields are counted
e_left : (manner : Manner) (line : Bytes) (s : State) (w : Written) (o : Opened) → Passed manner E line s w o → fault manner w line ≡ cond (manner.refuses_headless && any (is_headless w.pack) w.pack.predicates) 24 0
unfolding first_given tests end_tests
e_left manner line s w o passed = passed.left

-- whether one that owes a rule heads none, as the state has it, where that is refused
abbrev is_lacking : Manner → State → Bool
is_lacking manner s = manner.refuses_headless && not (eqb (bit_or s.owing s.headed) s.headed)

-- the state has ended, and so has what is written; all else stays
e_holds : (line : Bytes) (t : Tables) (s : State) (w : Written) → Holds t s w → Holds t (with_end s) (record { pack = add E (fields_of line) w.pack; ended = w.ended || true })
unfolding add
e_holds line t s w holds =
    record {
      declares = holds.declares;
      claims = holds.claims;
      claimed = holds.claimed;
      shipped = holds.shipped;
      owing = holds.owing;
      headed = holds.headed;
      rules = holds.rules;
      lines = holds.lines;
      last = λ some. let rule = holds.last some in record {
        head = rule.head;
        head_key = rule.head_key;
        subgoals = rule.subgoals;
        variables = rule.variables;
        holds_variables = rule.holds_variables;
        head_rows = rule.head_rows;
        subgoal_rows = rule.subgoal_rows;
        slots = rule.slots;
        slot = rule.slot;
        multipliers = rule.multipliers;
      };
      ended = sym (or-true w.ended);
    }

pub e_close : {manner : Manner} (line : Bytes) (t : Tables) (s : State) (w : Written) (o : Opened) (r : Result State Fault) → Holds t s w → Passed manner E line s w o → ClosesE manner s r → ClosedFor manner line w r t
e_close {manner} line t s w o r holds passed closes =
    record {
      answer = rw (e_left manner line s w o passed, within_told holds.owing holds.headed) (sym (line_number Headless (with_end s) (is_lacking manner s) closes.answer));
      holds = λ next is. rw (← (line_passes Headless (with_end s) (is_lacking manner s) closes.answer is).1, write_as E w line passed.first) (e_holds line t s w holds);
    }

pub e_fault : {manner : Manner} {s : State} {r : Result State Fault} → ClosesE manner s r → (f : Fault) → r ≡ Err f → f ≡ Headless
e_fault {manner} {s} closes f is = sym (line_fails Headless (with_end s) (is_lacking manner s) closes.answer is).1

-- the ranges are kept
pub e_safe : {manner : Manner} (t : Tables) (s next : State) (r : Result State Fault) → Safe t s → ClosesE manner s r → r ≡ Ok next → Safe t next
e_safe {manner} t s next r safe closes is =
    let state = safe.state in
    rw (← (line_passes Headless (with_end s) (is_lacking manner s) closes.answer is).1) record {
      sizes = safe.sizes;
      state = record { predicates = state.predicates; rules = state.rules; head = state.head; subgoals = state.subgoals; variables = state.variables; slots = state.slots; multipliers = state.multipliers; lines = state.lines };
      signatures = safe.signatures;
      claims = safe.claims;
      rows = safe.rows;
      slots = safe.slots;
    }
