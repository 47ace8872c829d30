-- `terms::count_variable` meets its contract. Assumes nothing.
use Rattle.terms.specs.Rows.{past}
use Rattle.terms.proofs.OneOccurrence.{counts_known, counts_new, counts_none}
use borrow.Author.Rules.{rules}
use Rattle.terms.proofs.count_variable.Goals as goal

pub returns-then-known-gt-VARIABLES : goal.returns-then-known-gt-VARIABLES
returns-then-known-gt-VARIABLES c = search (rules, past)

pub returns-then-at-ge-VARIABLES : goal.returns-then-at-ge-VARIABLES
returns-then-at-ge-VARIABLES c = search (rules, counts_none)

pub returns-then-at-known : goal.returns-then-at-known
returns-then-at-known c = search (rules, counts_known)

pub returns : goal.returns
returns c = search (rules, counts_new)
