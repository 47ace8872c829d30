-- `packcheck::put_queries` meets its contract. Assumes nothing.
use mathlib.Core.Path.{◌∙◌, ap}
use Rattle.text.specs.Lines.{lines_left}
use Rattle.packcheck.proofs.QueryLines.{queries_begin, queries_more, queries_done}
use Rattle.packcheck.proofs.put_queries.Goals as goal

pub loop-query-init : goal.loop-query-init
loop-query-init c =
    queries_begin (ap lines_left c.into_iter-query-iterator.ensures.into_iter_gives ∙ c.of-query-items.ensures) c.requires.1

pub loop-query-preserved : goal.loop-query-preserved
loop-query-preserved c =
    queries_more c.loop-query.invariant c.requires.0 c.requires.2 c.respond.result c.from-three.result c.in-Some.ensures.steps c.requires.4 c.respond.ensures c.from-three.ensures c.put_fields-length.ensures.0 c.put_fields-length.ensures.1

pub returns : goal.returns
returns c = queries_done c.loop-query.invariant c.requires.0 c.requires.2 c.in-None.ensures.steps.0
