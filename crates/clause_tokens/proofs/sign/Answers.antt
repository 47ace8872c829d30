-- `clause_tokens::sign` meets its contract. Assumes nothing.
use Rattle.clause_tokens.proofs.TokenLaws.{sign_is_opens, sign_is_closes, sign_is_comma, sign_is_neck, sign_is_stop, sign_is_stray}
use borrow.Author.Rules.{rules}
use Rattle.clause_tokens.proofs.sign.Goals as goal

pub returns-then-b-tight : goal.returns-then-b-tight
returns-then-b-tight c = search (rules, sign_is_opens)

pub returns-then-b-eq41 : goal.returns-then-b-eq41
returns-then-b-eq41 c = search (rules, sign_is_closes)

pub returns-then-b-eq44 : goal.returns-then-b-eq44
returns-then-b-eq44 c = search (rules, sign_is_comma)

pub returns-then-is_neck : goal.returns-then-is_neck
returns-then-is_neck c = search (rules, sign_is_neck)

pub returns-then-is_stop : goal.returns-then-is_stop
returns-then-is_stop c = search (rules, sign_is_stop)

pub returns : goal.returns
returns c = search (rules, sign_is_stray)
