use Rattle.sheets.specs.Readiness.{Ready}
use Rattle.sheets.proofs.SheetWriting.{Listing}
use Rattle.sheets.proofs.put_sheet.Given as goal

abbrev pub invariant-loop-number : goal.invariant-loop-number
invariant-loop-number l = Ready l.text l.rules l.initial.page × Listing l.text l.initial.page l.page l.number l.from l.at
