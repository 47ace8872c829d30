-- `words::table::ClassTable::word_end` meets its contract: the bytes passed are those of a name. Assumes nothing.
use borrow.Author.Rules.{rules}
use Rattle.words.proofs.WordEnds.{named_none, named_more, named_ended}
use Rattle.words.proofs.table.ClassTable.word_end.Goals as goal

pub loop-i-init : goal.loop-i-init
loop-i-init c = search (rules, named_none)

pub returns-then-eq : goal.returns-then-eq
returns-then-eq c = search (rules, named_ended)

pub loop-i-preserved : goal.loop-i-preserved
loop-i-preserved c = search (rules, named_more)
