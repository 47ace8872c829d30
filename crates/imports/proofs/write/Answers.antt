-- `imports::write` meets its contract. Assumes nothing.
use native.Mathlib.Omega.{arith}
use Rattle.imports.proofs.ClauseByClause.{one_left}
use Rattle.imports.proofs.Loops.{written_none, written_high, written_few, written_size_lem, written_within, written_taken, written_all, written_less, written_room, written_more}
use borrow.Author.Rules.{rules}
use Rattle.imports.proofs.write.Goals as goal

pub loop-variables-init : goal.loop-variables-init
loop-variables-init c = search (rules, written_none)

pub layout_end-requires : goal.layout_end-requires
layout_end-requires c = search (rules, written_high)

pub overflow_add-clauses : goal.overflow_add-clauses
overflow_add-clauses c = search (rules, written_few)

pub slice_bounds-take_clause-count : goal.slice_bounds-take_clause-count
slice_bounds-take_clause-count c = search (rules, written_within)

pub slice_bounds-take_clause-start : goal.slice_bounds-take_clause-start
slice_bounds-take_clause-start c = search (rules, written_within)

pub take_clause-requires : goal.take_clause-requires
take_clause-requires c = search (rules, one_left)

pub unwrap-taken-requires : goal.unwrap-taken-requires
unwrap-taken-requires c = search (rules, written_taken)

pub overflow_add-to : goal.overflow_add-to
overflow_add-to c = omega (arith, written_room _ _ c.loop-variables.invariant c.take_clause.ensures.1 c.unwrap-taken.ensures, written_size_lem _ _ c.loop-variables.invariant, c.well_formed)

pub loop-variables-smaller : goal.loop-variables-smaller
loop-variables-smaller c = search (rules, written_less)

pub loop-variables-preserved : goal.loop-variables-preserved
loop-variables-preserved c = search (rules, written_more)

pub shape_of-buffer : goal.shape_of-buffer
shape_of-buffer c = search (rules, written_size_lem)

pub returns : goal.returns
returns c = search (rules, written_all)
