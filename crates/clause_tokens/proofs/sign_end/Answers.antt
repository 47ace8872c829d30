-- `clause_tokens::sign_end` meets its contract. Assumes nothing.
use Rattle.clause_tokens.proofs.TokenLaws.{neck_more, sign_more_lem}
use borrow.Author.Rules.{rules}
use Rattle.clause_tokens.proofs.sign_end.Goals as goal

pub returns-then-is_neck : goal.returns-then-is_neck
returns-then-is_neck c = search (rules, neck_more)

pub returns-else-is_neck : goal.returns-else-is_neck
returns-else-is_neck c = search (rules, sign_more_lem)
