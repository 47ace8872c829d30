-- `clause_tokens::is_stop` meets its contract. Assumes nothing.
use Rattle.clause_tokens.proofs.TokenLaws.{stop_other, stop_inside, stop_past}
use borrow.Author.Rules.{rules}
use Rattle.clause_tokens.proofs.is_stop.Goals as goal

pub returns-then-text-at-ne46 : goal.returns-then-text-at-ne46
returns-then-text-at-ne46 c = search (rules, stop_other)

pub returns-then-at-text : goal.returns-then-at-text
returns-then-at-text c = search (rules, stop_inside)

pub returns-else-at-text : goal.returns-else-at-text
returns-else-at-text c = search (rules, stop_past)
