-- `opening::open` meets its contract. Assumes nothing.
use borrow.Author.Rules.{rules}
use Rattle.opening.proofs.LineOpening.{opens_unfit, opens_misplaced, opens_letter, fits_short}
use Rattle.opening.proofs.open.Goals as goal

pub returns-then-is_unfit_in : goal.returns-then-is_unfit_in
returns-then-is_unfit_in c = search (rules, opens_unfit)

pub returns-then-not-may_stand : goal.returns-then-not-may_stand
returns-then-not-may_stand c = search (rules, opens_misplaced)

pub open_letter-requires : goal.open_letter-requires
open_letter-requires c =
    let read = c.letter_of-letter.ensures in
    let stands = c.may_stand.ensures in
    let yes = c.if-not-may_stand.false in
    (stands.known yes, read.begins (stands.known yes), search (rules, fits_short), search rules, search rules, λ m. stands.due m yes)

pub returns : goal.returns
returns c = search (rules, opens_letter)
