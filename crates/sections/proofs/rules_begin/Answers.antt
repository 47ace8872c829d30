-- `sections::rules_begin` meets its contract. Assumes nothing.
use borrow.Author.Rules.{rules}
use Rattle.sections.proofs.SectionLines.{rules_begun}
use Rattle.sections.proofs.rules_begin.Goals as goal

pub returns : goal.returns
returns c = search (rules, rules_begun)
