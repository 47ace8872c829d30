use Rattle.words.proofs.WordEnds.{Named}
use Rattle.words.proofs.table.ClassTable.word_end.Given as goal

abbrev pub invariant-loop-i : goal.invariant-loop-i
invariant-loop-i l = Named l.bytes l.from l.i
