-- `text::Lines` gives the first line and leaves those behind it.
use mathlib.Core.Path.{ap}
use borrow.Author.Rules.{rules}
use Prim.Native.Nat.{◌<◌}
use lib.ListN.{length}
use Rattle.text.proofs.LinesLeft.{no_line, first_line}
use Rattle.text.proofs.lines.LinesIterator.next.Goals as goal

pub returns-then-is_empty-clause-steps : goal.returns-then-is_empty-clause-steps
returns-then-is_empty-clause-steps c = search (rules, no_line)

pub returns-clause-steps : goal.returns-clause-steps
returns-clause-steps c = search (rules, first_line)

pub returns-clause-goes : goal.returns-clause-goes
returns-clause-goes c = let some : 0 < length c.args.self.now.rest.now = search rules in let shorter = ap length (first_line c.args.self.now.rest.now some c.find-end.ensures c.min-after.ensures) in search rules
