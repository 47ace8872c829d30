use Rattle.std.proofs.Common.{◌≡◌, ◌==◌, count_by, take}
use Rattle.text.proofs.counts.count_few.Given as goal

-- what was counted is how often the byte stands before the place
abbrev pub invariant-loop-b : goal.invariant-loop-b
invariant-loop-b l = l.n ≡ count_by (λ b. b == l.wanted) (take l.b-index l.bytes)
