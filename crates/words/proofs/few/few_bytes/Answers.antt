-- `words::few::few_bytes` meets its contract. Assumes nothing.
use borrow.Author.Rules.{rules}
use Rattle.words.proofs.FewBytes.{byte_alone, no_byte}
use Rattle.words.proofs.few.few_bytes.Goals as goal

pub returns-then-count-eq1 : goal.returns-then-count-eq1
returns-then-count-eq1 c = search (rules, byte_alone)

pub returns : goal.returns
returns c = search (rules, no_byte)
