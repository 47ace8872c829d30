-- Each case brings the place nearer to the end.
use Rattle.std.proofs.Common.{◌-◌, length}
use Rattle.check_cases.proofs.run_cases.Given as goal

abbrev pub decreases-loop-at : goal.decreases-loop-at
decreases-loop-at g l = length l.input - l.at
