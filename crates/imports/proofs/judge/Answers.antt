-- `imports::judge` meets its contract. Assumes nothing.
use Rattle.imports.proofs.ClauseByClause.{one_left}
use Rattle.imports.proofs.Loops.{judged_none, judged_high, judged_few, judged_within, judged_refused, judged_all, judged_full, judged_less, judged_more}
use Rattle.std.proofs.lemmas.Result.{err_from_is_err_and}
use borrow.Author.Rules.{rules}
use Rattle.imports.proofs.judge.Goals as goal

pub loop-variables-init : goal.loop-variables-init
loop-variables-init c = search (rules, judged_none)

pub layout_end-requires : goal.layout_end-requires
layout_end-requires c = search (rules, judged_high)

pub overflow_add-clauses : goal.overflow_add-clauses
overflow_add-clauses c = search (rules, judged_few)

pub take_clause-requires : goal.take_clause-requires
take_clause-requires c = search (rules, one_left)

pub returns-in_err-taken : goal.returns-in_err-taken
returns-in_err-taken c =
    let p = err_from_is_err_and c.from_residual.result c.from_residual.ensures.1 in
    rw (p.1, p.2) (judged_refused _ _ c.loop-variables.invariant c.take_clause.ensures.1 c.in_err-taken.was)

pub overflow_sub-room : goal.overflow_sub-room
overflow_sub-room c = search (rules, judged_within)

pub returns-then-room-bytes : goal.returns-then-room-bytes
returns-then-room-bytes c = judged_full c.args.text.now c.args.room c.loop-variables.invariant c.take_clause.ensures.1 c.in_ok-taken.was c.if-room-bytes.true

pub loop-variables-smaller : goal.loop-variables-smaller
loop-variables-smaller c = judged_less c.args.text.now c.args.room c.loop-variables.invariant c.take_clause.ensures.1 c.in_ok-taken.was

pub loop-variables-preserved : goal.loop-variables-preserved
loop-variables-preserved c = judged_more c.args.text.now c.args.room c.loop-variables.invariant c.take_clause.ensures.1 c.in_ok-taken.was c.if-room-bytes.false c.take_clause.ensures.0

pub returns : goal.returns
returns c = search (rules, judged_all)
