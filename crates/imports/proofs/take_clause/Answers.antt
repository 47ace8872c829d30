-- `imports::take_clause` meets its contract. Assumes nothing.
use Rattle.imports.proofs.Taking.{taken_unfit, taken_many, taken_ready, taken_over, taken_lines, refused_or, passed_or, refused_mapped, passed_mapped}
use mathlib.Core.Path.{refl}
use Rattle.clause_theory.specs.declared.ImportRefusal.TheVariants.{NoClauses}
use Rattle.std.proofs.lemmas.Result.{err_from_is_err_and}
use Rattle.imports.proofs.take_clause.Goals as goal

pub returns-in_err-place : goal.returns-in_err-place
returns-in_err-place c =
    let p = err_from_is_err_and c.from_residual.result c.from_residual.ensures.1 in
    let q = refused_mapped NoClauses c.clause_end.result c.map_err.ensures.cases c.in_err-place.was in
    rw (p.1, p.2, q.2) (refl, taken_unfit c.clause_end.ensures q.1)

pub returns-in_err-ok_or : goal.returns-in_err-ok_or
returns-in_err-ok_or c =
    let p = err_from_is_err_and c.from_residual-in_err-ok_or.result c.from_residual-in_err-ok_or.ensures.1 in
    let q = refused_or c.gather_clause.result c.ok_or.ensures.value c.in_err-ok_or.was in
    rw (p.1, p.2, q.1) (refl, taken_many c.clause_end.ensures (passed_mapped NoClauses c.clause_end.result c.map_err.ensures.cases c.in_ok-place.was) c.gather_clause.ensures q.0)

pub put_clause-requires : goal.put_clause-requires
put_clause-requires c = (c.requires.0, taken_ready c.clause_end.ensures (passed_mapped NoClauses c.clause_end.result c.map_err.ensures.cases c.in_ok-place.was) c.gather_clause.ensures (passed_or c.gather_clause.result _ c.ok_or.ensures.value c.in_ok-ok_or.was))

pub returns-in_err-bytes : goal.returns-in_err-bytes
returns-in_err-bytes c =
    let p = err_from_is_err_and c.from_residual-in_err-bytes.result c.from_residual-in_err-bytes.ensures.1 in
    let q = refused_or c.put_clause.result c.ok_or-2.ensures.value c.in_err-bytes.was in
    rw (p.1, p.2, q.1) (c.put_clause.ensures.size, taken_over c.clause_end.ensures (passed_mapped NoClauses c.clause_end.result c.map_err.ensures.cases c.in_ok-place.was) c.gather_clause.ensures (passed_or c.gather_clause.result _ c.ok_or.ensures.value c.in_ok-ok_or.was) c.put_clause.ensures q.0)

pub returns : goal.returns
returns c = (
  c.put_clause.ensures.size,
  taken_lines c.clause_end.ensures (passed_mapped NoClauses c.clause_end.result c.map_err.ensures.cases c.in_ok-place.was) c.gather_clause.ensures (passed_or c.gather_clause.result _ c.ok_or.ensures.value c.in_ok-ok_or.was) c.put_clause.ensures
      (passed_or c.put_clause.result _ c.ok_or-2.ensures.value c.in_ok-bytes.was),
)
