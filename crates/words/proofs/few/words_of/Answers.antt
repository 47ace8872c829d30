-- `words::few::words_of` meets its contract. Assumes nothing.
use borrow.Author.Rules.{rules}
use Rattle.words.proofs.FewBytes.{words_in_one, words_in_two}
use Rattle.words.proofs.few.words_of.Goals as goal

pub returns-then-bytes-le8 : goal.returns-then-bytes-le8
returns-then-bytes-le8 c = search (rules, words_in_one)

pub returns : goal.returns
returns c = search (rules, words_in_two)
