-- `words::few::lowest_bytes` meets its contract. Assumes nothing.
use borrow.Author.Rules.{rules}
use Rattle.words.proofs.WordBytes.{masked}
use Rattle.words.proofs.few.lowest_bytes.Goals as goal

pub returns : goal.returns
returns c = search (rules, masked)
