use mathlib.Core.Path.{◌≡◌}
use Prim.Native.Nat.{ℕ, ◌<◌}
use lib.IntN.{pos, ◌*ℤ◌}
use lib.ListN.{length, get_or}
use Rattle.forms.specs.Sums.{at}
use Rattle.forms.proofs.Form.times.Given as goal

abbrev pub invariant-loop-i : goal.invariant-loop-i
invariant-loop-i l = (length l.products ≡ 16) × ((j : ℕ) → j < l.i → get_or l.products j (pos 0) ≡ l.k *ℤ at l.self j)
