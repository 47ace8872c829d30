-- `lines::zeros_ahead` meets its contract. Assumes nothing.
use borrow.Author.Rules.{rules}
use Rattle.lines.specs.Steps.{none}
use Rattle.lines.proofs.ZeroFields.{zeros_skipped}
use Rattle.lines.proofs.zeros_ahead.Goals as goal

pub returns-in-M : goal.returns-in-M
returns-in-M c = search (rules, zeros_skipped)

pub returns-in_default : goal.returns-in_default
returns-in_default c = none
