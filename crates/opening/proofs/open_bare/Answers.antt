-- `opening::open_bare` meets its contract. Assumes nothing.
use borrow.Author.Rules.{rules}
use Rattle.opening.proofs.LetterOpening.{bare_miscounted, bare_passed}
use Rattle.opening.proofs.open_bare.Goals as goal

pub returns-then-count-commas : goal.returns-then-count-commas
returns-then-count-commas c = search (rules, bare_miscounted)

pub returns : goal.returns
returns c = search (rules, bare_passed)
