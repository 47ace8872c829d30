-- `Variables::gather_clause` meets its contract. Assumes nothing.
use Rattle.clause_tokens.proofs.TokenLaws.{token_less}
use Rattle.clause_variables.proofs.ClauseLoop.{gathering_none, gathering_all, gathering_over, gathering_found, gathering_more}
use borrow.Author.Rules.{rules}
use Rattle.clause_variables.proofs.Variables.gather_clause.Goals as goal

pub loop-token-init : goal.loop-token-init
loop-token-init c = search (rules, gathering_none)

pub loop-token-smaller : goal.loop-token-smaller
loop-token-smaller c = search (rules, token_less, c.in-Some.ensures)

pub returns-in_err-gather : goal.returns-in_err-gather
returns-in_err-gather c = gathering_over _ _ c.loop-token.invariant c.in-Some.ensures c.gather.ensures c.from_residual.ensures c.in_err-gather.was

pub returns-then-eq : goal.returns-then-eq
returns-then-eq c = gathering_found _ _ c.loop-token.invariant c.in-Some.ensures c.gather.ensures c.in_ok-gather.was c.eq.ensures c.if-eq.true

pub loop-token-preserved : goal.loop-token-preserved
loop-token-preserved c = gathering_more _ _ c.loop-token.invariant c.in-Some.ensures c.gather.ensures c.in_ok-gather.was c.eq.ensures c.if-eq.false

pub returns : goal.returns
returns c = search (rules, gathering_all, c.in_default.ensures)
