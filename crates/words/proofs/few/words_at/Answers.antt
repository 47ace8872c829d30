-- `words::few::words_at` meets its contract. Assumes nothing.
use borrow.Author.Rules.{rules}
use Rattle.words.proofs.WordBytes.{words_short, words_long}
use Rattle.words.proofs.few.words_at.Goals as goal

pub returns-then-end-from-le8 : goal.returns-then-end-from-le8
returns-then-end-from-le8 c = search (rules, words_short)

pub returns : goal.returns
returns c = search (rules, words_long)
