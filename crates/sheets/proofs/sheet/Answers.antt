-- `sheets::sheet` meets its contract. Assumes nothing.
use mathlib.Core.Path.{sym, ◌∙◌, ap}
use borrow.Author.Rules.{rules}
use Rattle.std.proofs.lemmas.Result.{err_from_is_err_and}
use Rattle.theory.specs.Answers.{numbers_of}
use Rattle.packs.proofs.FreshTables.{fresh_made}
use Rattle.sheets.proofs.SheetAnswers.{error_made, refused_pack}
use Rattle.sheets.proofs.sheet.Goals as goal

pub load-loaded-requires : goal.load-loaded-requires
load-loaded-requires c = search (rules, fresh_made)

pub returns-in_err-counts : goal.returns-in_err-counts
returns-in_err-counts c =
    let p = err_from_is_err_and c.from_residual.result c.from_residual.ensures.1 in
    let q = error_made c.load-loaded.result.verdict c.map_err.ensures.cases c.in_err-counts.was in
    rw (p.1, p.2, q.2) (refused_pack _ _ q.0 (ap numbers_of (sym q.1) ∙ c.load-loaded.ensures.answer))
