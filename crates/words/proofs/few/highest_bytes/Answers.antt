-- `words::few::highest_bytes` meets its contract. Assumes nothing.
use borrow.Author.Rules.{rules}
use Rattle.words.proofs.WordBytes.{shifted}
use Rattle.words.proofs.few.highest_bytes.Goals as goal

pub returns : goal.returns
returns c = search (rules, shifted)
