-- `lines::load_lines` meets its contract. Assumes nothing.
use mathlib.Core.Path.{refl, sym, ◌∙◌}
use native.Mathlib.Omega.{arith}
use borrow.Author.Rules.{rules}
use Rattle.text.proofs.PlainText.{plain_line}
use Rattle.tables.proofs.Manners.{letters_kept}
use Rattle.lines.proofs.ZeroFields.{skipped_within}
use Rattle.lines.proofs.LineLoop.{room_begins, lines_end}
use Rattle.lines.proofs.Turns.{turn_of, turn_begins, turn_unopened, turn_skipped, turn_index_moved, turn_width_fits, turn_from_moved, turn_ready, turn_index_fits, turn_from_fits, turn_more, turn_misread, turn_closable, turn_done, turn_summable, turn_refused}
use Rattle.lines.proofs.load_lines.Goals as goal

-- ---- the loop over lines

pub lines-init : goal.lines-init
lines-init c = record { passing = refl; plain = refl; read = room_begins c.empty-room.ensures c.requires }

pub open-opened-requires : goal.open-opened-requires
open-opened-requires c = (c.lines.invariant.read.safe.signatures, c.lines.invariant.read.safe.state, λ plain. plain_line (sym c.is_plain-plain.ensures ∙ plain) c.find-end.ensures)

pub fields-init : goal.fields-init
fields-init c = record {
  passing = c.lines.invariant.passing;
  plain = c.lines.invariant.plain;
  read = turn_begins c.lines.invariant.read c.variables_before-many.ensures (record { row = refl; variables = refl; rows = refl; slots = refl }) refl;
}

-- ---- the loop over fields

pub overflow_add-index : goal.overflow_add-index
overflow_add-index c =
    let turn = turn_of (letters_kept c.args.manner) c.lines.invariant.read c.lines-test.true c.find-end.ensures c.open-opened.ensures in
    turn_index_moved turn c.in-Ok.is c.fields.invariant.read c.zeros_ahead-skipped.ensures c.fields-test.true

pub overflow_mul-from : goal.overflow_mul-from
overflow_mul-from c =
    let turn = turn_of (letters_kept c.args.manner) c.lines.invariant.read c.lines-test.true c.find-end.ensures c.open-opened.ensures in
    turn_width_fits turn c.in-Ok.is c.fields.invariant.read c.zeros_ahead-skipped.ensures c.fields-test.true

pub overflow_add-from : goal.overflow_add-from
overflow_add-from c =
    let turn = turn_of (letters_kept c.args.manner) c.lines.invariant.read c.lines-test.true c.find-end.ensures c.open-opened.ensures in
    turn_from_moved turn c.in-Ok.is c.fields.invariant.read c.zeros_ahead-skipped.ensures c.fields-test.true

pub field_end-stop-requires : goal.field_end-stop-requires
field_end-stop-requires c = skipped_within c.fields-test.true c.zeros_ahead-skipped.ensures

pub read_field-requires : goal.read_field-requires
read_field-requires c =
    let turn = turn_of (letters_kept c.args.manner) c.lines.invariant.read c.lines-test.true c.find-end.ensures c.open-opened.ensures in
    let fields = turn_skipped turn c.in-Ok.is c.fields.invariant.read c.zeros_ahead-skipped.ensures in
    let within = skipped_within c.fields-test.true c.zeros_ahead-skipped.ensures in
    turn_ready turn c.in-Ok.is fields within c.field_end-stop.ensures

pub overflow_add-index-in-fields : goal.overflow_add-index-in-fields
overflow_add-index-in-fields c =
    let turn = turn_of (letters_kept c.args.manner) c.lines.invariant.read c.lines-test.true c.find-end.ensures c.open-opened.ensures in
    let fields = turn_skipped turn c.in-Ok.is c.fields.invariant.read c.zeros_ahead-skipped.ensures in
    let within = skipped_within c.fields-test.true c.zeros_ahead-skipped.ensures in
    turn_index_fits turn c.in-Ok.is fields within c.field_end-stop.ensures

pub overflow_add-from-in-fields : goal.overflow_add-from-in-fields
overflow_add-from-in-fields c =
    let turn = turn_of (letters_kept c.args.manner) c.lines.invariant.read c.lines-test.true c.find-end.ensures c.open-opened.ensures in
    turn_from_fits turn c.in-Ok.is c.field_end-stop.ensures

pub fields-smaller : goal.fields-smaller
fields-smaller c = omega (arith, c.field_end-stop.ensures.low, c.fields-test.true)

pub fields-preserved : goal.fields-preserved
fields-preserved c =
    let turn = turn_of (letters_kept c.args.manner) c.lines.invariant.read c.lines-test.true c.find-end.ensures c.open-opened.ensures in
    let fields = turn_skipped turn c.in-Ok.is c.fields.invariant.read c.zeros_ahead-skipped.ensures in
    let within = skipped_within c.fields-test.true c.zeros_ahead-skipped.ensures in
    record {
      passing = c.fields.invariant.passing;
      plain = c.fields.invariant.plain;
      read = turn_more turn c.in-Ok.is fields within c.field_end-stop.ensures c.read_field.ensures (search rules);
    }

-- ---- the end of a line

pub close_line-requires : goal.close_line-requires
close_line-requires c =
    let turn = turn_of (letters_kept c.args.manner) c.lines.invariant.read c.lines-test.true c.find-end.ensures c.open-opened.ensures in
    turn_closable turn c.in-Ok.is c.fields.invariant.read c.fields-test.false

pub residual-residual-requires : goal.residual-residual-requires
residual-residual-requires c =
    let turn = turn_of (letters_kept c.args.manner) c.lines.invariant.read c.lines-test.true c.find-end.ensures c.open-opened.ensures in
    (turn.read.safe.state.subgoals, turn_summable turn c.in-Ok.is c.fields.invariant.read c.fields-test.false c.close_line.ensures)

pub overflow_add-at : goal.overflow_add-at
overflow_add-at c = omega (arith, c.find-end.ensures.high)

pub lines-smaller : goal.lines-smaller
lines-smaller c = omega (arith, c.lines-test.true, c.find-end.ensures.low)

pub lines-preserved : goal.lines-preserved
lines-preserved c =
    let turn = turn_of (letters_kept c.args.manner) c.lines.invariant.read c.lines-test.true c.find-end.ensures c.open-opened.ensures in
    record {
      passing = c.fields.invariant.passing;
      plain = c.fields.invariant.plain;
      read = turn_done turn c.in-Ok.is c.fields.invariant.read c.fields-test.false c.close_line.ensures (search rules);
    }

-- ---- the ways out

pub returns-after-lines : goal.returns-after-lines
returns-after-lines c = rw (c.lines.invariant.passing, c.lines.invariant.plain) (lines_end c.lines.invariant.read c.lines-test.false)

pub returns-in-Err : goal.returns-in-Err
returns-in-Err c =
    let turn = turn_of (letters_kept c.args.manner) c.lines.invariant.read c.lines-test.true c.find-end.ensures c.open-opened.ensures in
    rw c.lines.invariant.plain (turn_unopened turn (search rules))

pub returns-in-Err-read_field : goal.returns-in-Err-read_field
returns-in-Err-read_field c =
    let turn = turn_of (letters_kept c.args.manner) c.lines.invariant.read c.lines-test.true c.find-end.ensures c.open-opened.ensures in
    let fields = turn_skipped turn c.in-Ok.is c.fields.invariant.read c.zeros_ahead-skipped.ensures in
    let within = skipped_within c.fields-test.true c.zeros_ahead-skipped.ensures in
    rw c.fields.invariant.plain (turn_misread turn c.in-Ok.is fields within c.field_end-stop.ensures c.read_field.ensures (search rules))

pub returns-in-Err-close_line : goal.returns-in-Err-close_line
returns-in-Err-close_line c =
    let turn = turn_of (letters_kept c.args.manner) c.lines.invariant.read c.lines-test.true c.find-end.ensures c.open-opened.ensures in
    turn_refused turn c.in-Ok.is c.fields.invariant.read c.fields-test.false c.close_line.ensures (search rules) c.residual-residual.ensures
