-- `sections::rule_at` meets its contract. Assumes nothing.
use borrow.Author.Rules.{rules}
use Rattle.sections.proofs.HeadLines.{some_inside, some_long, lines_found}
use Rattle.sections.proofs.rule_at.Goals as goal

pub find-end-requires : goal.find-end-requires
find-end-requires c = search (rules, some_inside)

pub field_end-requires : goal.field_end-requires
field_end-requires c = search (rules, some_long)

pub returns : goal.returns
returns c = search (rules, lines_found)
