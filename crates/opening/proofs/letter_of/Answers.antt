-- `opening::letter_of` meets its contract. Assumes nothing.
use mathlib.Core.Path.{◌≡◌, sym}
use Prim.Native.Nat.{◌<◌}
use native.Mathlib.Omega.{arith}
use mathlib.Core.Bool.{false, false≢true}
use lib.Dec.{eqb}
use lib.ListN.{length, get_or}
use borrow.Author.Rules.{rules}
use Rattle.opening.proofs.FirstField.{letter_none, no_letter_empty, no_letter_long, letter_read}
use Rattle.opening.proofs.letter_of.Goals as goal
use Rattle.opening.proofs.letter_of.Goals.{else-line-gt1-via-then-line-gt1+else-line-ne44, else-line-gt1-via-else-line-gt1}

pub returns-then-is_empty : goal.returns-then-is_empty
returns-then-is_empty c = search (rules, letter_none, no_letter_empty)

pub returns-then-line-ne44 : goal.returns-then-line-ne44
returns-then-line-ne44 c = search (rules, letter_none, no_letter_long)

-- where a second byte stands, it is a comma
pub returns : goal.returns
returns c =
    let comma : 1 < length c.args.line.now → get_or c.args.line.now 1 0 ≡ 44 = λ h. elim c.else-line-gt1.branch [ else-line-gt1-via-then-line-gt1+else-line-ne44 w ↦ w.if-line-ne44.false | else-line-gt1-via-else-line-gt1 w ↦ absurd (omega arith) ] in
    let filled : false ≡ eqb (length c.args.line.now) 0 = c.if-is_empty.ensures in
    letter_read c.args.line.now (λ e. false≢true (rw e at filled)) comma _ (sym c.letter_by.ensures)
