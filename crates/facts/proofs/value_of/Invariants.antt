use mathlib.Core.Path.{◌≡◌}
use Rattle.facts.specs.Ends.{value_to}
use Rattle.facts.proofs.value_of.Given as goal

abbrev pub invariant-loop-k : goal.invariant-loop-k
invariant-loop-k l = l.sum ≡ value_to l.claims l.place l.rows l.k
