use Rattle.text.specs.Lines.{lines_left}
use Rattle.packcheck.proofs.QueryLines.{QueriesPut}
use Rattle.packcheck.proofs.put_queries.Given as goal

abbrev pub invariant-loop-query : goal.invariant-loop-query
invariant-loop-query l = QueriesPut l.queries l.loaded l.tables l.initial.page l.written l.page (lines_left l.query-iterator) l.length
