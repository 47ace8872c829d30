use mathlib.Core.Path.{◌≡◌}
use Prim.Native.Nat.{◌+◌, ◌-◌}
use Rattle.std.specs.Prelude.{Ok, None}
use Rattle.tables.specs.Manners.{manner_of}
use Rattle.lines.specs.Steps.{with_rule}
use Rattle.lines.specs.Between.{FieldsRead, LinesRead}
use Rattle.lines.specs.LineLoading.{unruled}
use Rattle.lines.proofs.load_lines.Given as goal

abbrev pub invariant-fields : goal.invariant-fields
invariant-fields l = record {
  passing : l.ending ≡ Ok tt;
  plain : l.residual ≡ None;
  read : FieldsRead l.letter l.line (with_rule l.tables l.initial.room) l.state l.o l.many l.from l.index l.room;
}

abbrev pub decreases-fields : goal.decreases-fields
decreases-fields l = l.width + 1 - l.from

abbrev pub invariant-lines : goal.invariant-lines
invariant-lines l = record {
  passing : l.ending ≡ Ok tt;
  plain : l.residual ≡ None;
  read : LinesRead (manner_of l.manner) l.text l.initial.state (unruled l.initial.tables) l.state (with_rule l.tables l.room) l.room.weights l.number l.at;
}

abbrev pub decreases-lines : goal.decreases-lines
decreases-lines l = l.len - l.at
