-- `clause_tokens::run_mark` meets its contract. Assumes nothing.
use Rattle.clause_tokens.proofs.TokenLaws.{found_name, found_variable, found_lone, found_stray}
use borrow.Author.Rules.{rules}
use Rattle.clause_tokens.proofs.run_mark.Goals as goal

pub returns-in-Small : goal.returns-in-Small
returns-in-Small c = search (rules, found_name)

pub returns-in-Capital : goal.returns-in-Capital
returns-in-Capital c = search (rules, found_variable)

pub returns-then-text-start : goal.returns-then-text-start
returns-then-text-start c = search (rules, found_lone)

pub returns-else-text-start : goal.returns-else-text-start
returns-else-text-start c = search (rules, found_stray)
