-- `words::table::ClassTable::standard` meets its contract: the table is the one that the checker computes. Assumes nothing.
use mathlib.Core.Path.{refl}
use Rattle.theory.specs.Text.{is_name_byte}
use Rattle.words.specs.Classes.{class_of}
use Rattle.words.proofs.ClassLaws.{classes_from, classes_stand}
use Rattle.words.proofs.table.ClassTable.standard.Goals as goal

pub invariant_of-result : goal.invariant_of-result
unfolding classes_from class_of is_name_byte
invariant_of-result c = record { right = classes_stand _ refl }
