-- `terms::measure` meets its contract. Assumes nothing.
use Rattle.terms.proofs.Measures.{measure_unfit, measure_short, measure_no_term, measure_variable, measure_size}
use borrow.Author.Rules.{rules}
use Rattle.terms.proofs.measure.Goals as goal

pub returns-then-is_unfit : goal.returns-then-is_unfit
returns-then-is_unfit c = search (rules, measure_unfit)

pub read_tokens-requires : goal.read_tokens-requires
read_tokens-requires c = search (rules, measure_short)

pub returns-in_default : goal.returns-in_default
returns-in_default c = search (rules, measure_no_term)

pub returns-then-read-gt0 : goal.returns-then-read-gt0
returns-then-read-gt0 c = search (rules, measure_variable)

pub returns : goal.returns
returns c = search (rules, measure_size)
