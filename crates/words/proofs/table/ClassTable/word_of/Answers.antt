-- `words::table::ClassTable::word_of` meets its contract. Assumes nothing.
use mathlib.Core.Logic.{inl, inr}
use borrow.Author.Rules.{rules}
use Rattle.words.proofs.FieldWords.{field_empty, field_long, field_refused, field_name, field_variable, field_inner, field_outside}
use Rattle.words.proofs.table.ClassTable.word_of.Goals as goal
use Rattle.words.proofs.table.ClassTable.word_of.Goals.{then-field-gt16-via-then-field-gt16, then-field-gt16-via-else-field-gt16+then-word_end-field}

pub returns-in_default : goal.returns-in_default
returns-in_default c = search (rules, field_empty)

pub returns-then-field-gt16 : goal.returns-then-field-gt16
returns-then-field-gt16 c = elim c.then-field-gt16.branch [ then-field-gt16-via-then-field-gt16 w ↦ search (rules, field_long) | then-field-gt16-via-else-field-gt16+then-word_end-field w ↦ search (rules, field_refused) ]

pub returns-in-Small : goal.returns-in-Small
returns-in-Small c = search (rules, field_name)

pub returns-in-Capital : goal.returns-in-Capital
returns-in-Capital c = search (rules, field_variable)

pub returns-in-Inner : goal.returns-in-Inner
returns-in-Inner c = elim c.in-Inner.is [ inl w ↦ search (rules, field_inner) | inr w ↦ search (rules, field_outside) ]
