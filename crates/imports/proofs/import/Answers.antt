-- `imports::import` meets its contract. Assumes nothing.
use Rattle.imports.proofs.ImportAnswers.{import_written, import_refused}
use Rattle.std.proofs.lemmas.Result.{err_from_is_err_and}
use Rattle.imports.proofs.import.Goals as goal

pub returns-in_err-imported : goal.returns-in_err-imported
returns-in_err-imported c =
    let p = err_from_is_err_and c.from_residual.result c.from_residual.ensures.1 in
    rw (p.1, p.2) (import_refused _ _ c.judge.ensures c.in_err-imported.was)

pub returns : goal.returns
returns c = import_written _ _ c.judge.ensures c.in_ok-imported.was c.write.ensures
