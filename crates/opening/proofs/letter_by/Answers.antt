-- `opening::letter_by` meets its contract. Assumes nothing.
use mathlib.Core.Path.{sym}
use borrow.Author.Rules.{rules}
use Rattle.theory.specs.declared.Letter.TheVariants.{P, C, G, H, B, M, E}
use Rattle.opening.proofs.FirstField.{letter_of_byte, no_letter_byte}
use Rattle.opening.proofs.letter_by.Goals as goal

pub returns-in-80 : goal.returns-in-80
returns-in-80 c = sym (letter_of_byte P c.in-80.is)

pub returns-in-67 : goal.returns-in-67
returns-in-67 c = sym (letter_of_byte C c.in-67.is)

pub returns-in-71 : goal.returns-in-71
returns-in-71 c = sym (letter_of_byte G c.in-71.is)

pub returns-in-72 : goal.returns-in-72
returns-in-72 c = sym (letter_of_byte H c.in-72.is)

pub returns-in-66 : goal.returns-in-66
returns-in-66 c = sym (letter_of_byte B c.in-66.is)

pub returns-in-77 : goal.returns-in-77
returns-in-77 c = sym (letter_of_byte M c.in-77.is)

pub returns-in-69 : goal.returns-in-69
returns-in-69 c = sym (letter_of_byte E c.in-69.is)

pub returns-in_default : goal.returns-in_default
returns-in_default c = sym (search (rules, no_letter_byte))
