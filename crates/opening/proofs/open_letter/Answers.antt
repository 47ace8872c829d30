-- `opening::open_letter` meets its contract. Assumes nothing.
use mathlib.Core.Logic.{⊎_map}
use borrow.Author.Rules.{rules}
use Rattle.tables.proofs.LetterTags.{same_tag}
use Rattle.opening.proofs.LetterOpening.{named_letter, nameless_multipliers, nameless_end, commas_multipliers, commas_end, opens_bare, opens_none}
use Rattle.opening.proofs.open_letter.Goals as goal

pub open_named-requires : goal.open_named-requires
open_named-requires c = (named_letter _ (⊎_map same_tag (⊎_map same_tag (⊎_map same_tag (⊎_map same_tag same_tag))) c.in-P.is), search rules, search rules, search rules, search rules)

pub open_bare-requires : goal.open_bare-requires
open_bare-requires c = search (rules, nameless_multipliers, commas_multipliers)

pub open_bare-requires-in-E : goal.open_bare-requires-in-E
open_bare-requires-in-E c = search (rules, nameless_end, commas_end)

pub returns-in-M : goal.returns-in-M
returns-in-M c = search (rules, opens_bare)

pub returns-in-E : goal.returns-in-E
returns-in-E c = search (rules, opens_bare)

pub returns-in-NoLetter : goal.returns-in-NoLetter
returns-in-NoLetter c = search (rules, opens_none)
