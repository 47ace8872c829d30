-- `lines::Room::close_line` meets its contract. Assumes nothing.
use borrow.Author.Rules.{rules}
use mathlib.Core.Path.{refl}
use Rattle.theory.specs.declared.Letter.TheVariants.{P, C, G, H, B, M, E, NoLetter}
use Rattle.lines.proofs.Steps.{close_done}
use Rattle.lines.proofs.Room.close_line.Goals as goal

pub close_claim-requires : goal.close_claim-requires
close_claim-requires c = c.requires.of C (search rules)

pub close_fact-requires : goal.close_fact-requires
close_fact-requires c = c.requires.of G (search rules)

pub close_head-requires : goal.close_head-requires
close_head-requires c = c.requires.of H (search rules)

pub close_subgoal-requires : goal.close_subgoal-requires
close_subgoal-requires c = c.requires.of B (search rules)

pub close_multipliers-requires : goal.close_multipliers-requires
close_multipliers-requires c = c.requires.of M (search rules)

pub returns-in-P : goal.returns-in-P
returns-in-P c = close_done P (search rules) (c.close_predicate.ensures, refl, refl)

pub returns-in-C : goal.returns-in-C
returns-in-C c = close_done C (search rules) (c.close_claim.ensures, refl, refl)

pub returns-in-G : goal.returns-in-G
returns-in-G c = close_done G (search rules) (c.close_fact.ensures, refl, refl)

pub returns-in-H : goal.returns-in-H
returns-in-H c = close_done H (search rules) (c.close_head.ensures, refl, refl)

pub returns-in-B : goal.returns-in-B
returns-in-B c = close_done B (search rules) (c.close_subgoal.ensures, refl, refl)

pub returns-in-M : goal.returns-in-M
returns-in-M c = close_done M (search rules) (c.close_multipliers.ensures, refl, refl)

pub returns-in-E : goal.returns-in-E
returns-in-E c = close_done E (search rules) (c.close_end.ensures, refl, refl)

pub returns-in-NoLetter : goal.returns-in-NoLetter
returns-in-NoLetter c = close_done NoLetter (search rules) (refl, refl, refl)
