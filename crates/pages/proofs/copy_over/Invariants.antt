use Rattle.std.proofs.Common.{◌≡◌, take}
use Rattle.pages.proofs.copy_over.Given as goal

-- the first bytes are the source's
abbrev pub invariant-loop-at : goal.invariant-loop-at
invariant-loop-at l = take l.at l.room ≡ take l.at l.source
