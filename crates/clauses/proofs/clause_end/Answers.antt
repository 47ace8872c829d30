-- `clauses::clause_end` meets its contract. Assumes nothing.
use Rattle.clause_tokens.proofs.TokenLaws.{token_less}
use Rattle.clauses.proofs.Reading.{reading_none, reading_all, reading_refused, reading_ended, reading_more}
use borrow.Author.Rules.{rules}
use Rattle.clauses.proofs.clause_end.Goals as goal

pub loop-token-init : goal.loop-token-init
loop-token-init c = search (rules, reading_none)

pub returns-in-Refuses : goal.returns-in-Refuses
returns-in-Refuses c = search (rules, reading_refused, c.in-Some.ensures)

pub returns-in-Ends : goal.returns-in-Ends
returns-in-Ends c = search (rules, reading_ended, c.in-Some.ensures)

pub loop-token-smaller : goal.loop-token-smaller
loop-token-smaller c = search (rules, token_less, c.in-Some.ensures)

pub loop-token-preserved : goal.loop-token-preserved
loop-token-preserved c = search (rules, reading_more, c.in-Some.ensures)

pub returns : goal.returns
returns c = search (rules, reading_all, c.in_default.ensures)
