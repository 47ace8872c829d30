use Rattle.groundwork.proofs.Stretches.{Stored}
use Rattle.tables.specs.Tables.{no_slot}
use Rattle.rules.proofs.AddedSlots.{slot_for}
use Rattle.rules.proofs.add_slots.Given as goal

abbrev pub invariant-loop-j : goal.invariant-loop-j
invariant-loop-j l = Stored no_slot (slot_for l.predicate l.subgoal) l.from l.initial.slots l.slots l.j
