-- `fresh::numbered` meets its contract. Assumes nothing.
use Rattle.clause_variables.proofs.FreshSearch.{words_one, words_two}
use borrow.Author.Rules.{rules}
use Rattle.clause_variables.proofs.fresh.numbered.Goals as goal

pub returns-then-number-lt10 : goal.returns-then-number-lt10
returns-then-number-lt10 c = search (rules, words_one)

pub returns : goal.returns
returns c = search (rules, words_two)
