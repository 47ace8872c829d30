use lib.ListN.{length}
use Rattle.terms.proofs.PlaceLoop.{Counting}
use Rattle.terms.proofs.count_occurrences.Given as goal

abbrev pub invariant-loop-place : goal.invariant-loop-place
invariant-loop-place l = Counting l.field l.places (length l.places) l.initial.names l.known l.initial.rows l.base l.place-index l.many l.names l.rows
