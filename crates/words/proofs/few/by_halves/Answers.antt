-- `words::few::by_halves` meets its contract. Assumes nothing.
use borrow.Author.Rules.{rules}
use Rattle.words.proofs.FewBytes.{half_fits, halves_fit, whole}
use Rattle.words.proofs.few.by_halves.Goals as goal

pub overflow_mul-result-3 : goal.overflow_mul-result-3
overflow_mul-result-3 c = search (rules, half_fits)

pub overflow_add-result-2 : goal.overflow_add-result-2
overflow_add-result-2 c = search (rules, halves_fit)

pub returns : goal.returns
returns c = search (rules, whole)
