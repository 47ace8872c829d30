-- `term_lines::put_numbered` meets its contract. Assumes nothing.
use Rattle.term_lines.proofs.Pieces.{numbered_put}
use borrow.Author.Rules.{rules}
use Rattle.term_lines.proofs.put_numbered.Goals as goal

pub returns : goal.returns
returns c = search (rules, numbered_put)
