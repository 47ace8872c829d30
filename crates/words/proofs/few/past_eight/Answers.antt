-- `words::few::past_eight` meets its contract. Assumes nothing.
use borrow.Author.Rules.{rules}
use Rattle.words.proofs.FewBytes.{eight_later}
use Rattle.words.proofs.few.past_eight.Goals as goal

pub returns : goal.returns
returns c = search (rules, eight_later)
