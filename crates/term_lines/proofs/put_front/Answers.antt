-- `term_lines::put_front` meets its contract. Assumes nothing.
use Rattle.term_lines.proofs.Pieces.{front_put}
use borrow.Author.Rules.{rules}
use Rattle.term_lines.proofs.put_front.Goals as goal

pub returns : goal.returns
returns c = search (rules, front_put)
