-- `clause_tokens::layout_end` meets its contract. Assumes nothing.
use Rattle.groundwork.proofs.Truth.{not-false}
use Rattle.clause_tokens.proofs.TokenLaws.{passed_more}
use Rattle.clause_tokens.proofs.layout_end.Goals as goal
use borrow.Author.Rules.{rules}

pub loop-at-preserved : goal.loop-at-preserved
loop-at-preserved c = search (rules, passed_more, not-false)
