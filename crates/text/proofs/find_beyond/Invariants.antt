use mathlib.Core.Path.{◌≡◌}
use mathlib.Core.Bool.{true}
use Prim.Native.Nat.{◌-◌, ◌≤◌}
use lib.ListN.{length}
use Rattle.theory.proofs.Reading.Separators.{is_free}
use Rattle.text.specs.Scans.{part}
use Rattle.text.proofs.find_beyond.Given as goal

-- what was passed is free of the byte
abbrev pub invariant-loop-at : goal.invariant-loop-at
invariant-loop-at l = (l.from ≤ l.at) × (l.at ≤ length l.bytes) × (is_free l.wanted (part l.bytes l.from l.at) ≡ true)

abbrev pub decreases-loop-at : goal.decreases-loop-at
decreases-loop-at l = length l.bytes - l.at
