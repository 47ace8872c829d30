use Rattle.numbers.proofs.NaturalReading.{Reading}
use Rattle.numbers.proofs.read_natural.Given as goal

abbrev pub invariant-loop-b : goal.invariant-loop-b
invariant-loop-b l = Reading l.limit l.field l.value l.b-index
