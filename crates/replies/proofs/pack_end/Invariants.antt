-- The lines before the place are of the pack; each line brings it nearer to the end.
use Rattle.std.proofs.Common.{◌-◌, length}
use Rattle.replies.proofs.PackSearch.{Seeking}
use Rattle.replies.proofs.pack_end.Given as goal

abbrev pub invariant-loop-at : goal.invariant-loop-at
invariant-loop-at l = Seeking l.input l.at

abbrev pub decreases-loop-at : goal.decreases-loop-at
decreases-loop-at l = length l.input - l.at
