-- `sheets::file` meets its contract. Assumes nothing.
use mathlib.Core.Path.{refl}
use borrow.Author.Rules.{rules}
use Rattle.sheets.proofs.SheetAnswers.{page_ready, short_page_lem, sheet_filed}
use Rattle.sheets.proofs.file.Goals as goal

pub returns-then-page-rules : goal.returns-then-page-rules
returns-then-page-rules c = short_page_lem _ _ c.requires refl c.if-page-rules.true

pub put_sheet-requires : goal.put_sheet-requires
put_sheet-requires c = search (rules, page_ready)

pub returns : goal.returns
returns c = sheet_filed _ _ c.requires refl c.if-page-rules.false c.put_sheet.ensures
