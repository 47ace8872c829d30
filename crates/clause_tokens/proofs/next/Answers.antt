-- `clause_tokens::next` meets its contract. Assumes nothing.
use Rattle.clause_tokens.proofs.TokenLaws.{next_none, next_run, next_sign}
use borrow.Author.Rules.{rules}
use Rattle.clause_tokens.proofs.next.Goals as goal

pub returns-then-text-start : goal.returns-then-text-start
returns-then-text-start c = search (rules, next_none)

pub returns-then-eq : goal.returns-then-eq
returns-then-eq c = search (rules, next_sign)

pub returns : goal.returns
returns c = search (rules, next_run)
