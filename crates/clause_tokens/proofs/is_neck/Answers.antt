-- `clause_tokens::is_neck` meets its contract. Assumes nothing.
use Rattle.clause_tokens.proofs.TokenLaws.{neck_other, neck_inside, neck_past}
use borrow.Author.Rules.{rules}
use Rattle.clause_tokens.proofs.is_neck.Goals as goal

pub returns-then-text-at-ne58 : goal.returns-then-text-at-ne58
returns-then-text-at-ne58 c = search (rules, neck_other)

pub returns-then-at-text : goal.returns-then-at-text
returns-then-at-text c = search (rules, neck_inside)

pub returns-else-at-text : goal.returns-else-at-text
returns-else-at-text c = search (rules, neck_past)
