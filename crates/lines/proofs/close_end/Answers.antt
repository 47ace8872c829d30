-- `lines::close_end` meets its contract. Assumes nothing.
use borrow.Author.Rules.{rules}
use Rattle.lines.proofs.EndLines.{end_refused, end_done}
use Rattle.lines.proofs.close_end.Goals as goal

pub returns-then-refuses_headless-is_within : goal.returns-then-refuses_headless-is_within
returns-then-refuses_headless-is_within c = search (rules, end_refused)

pub returns : goal.returns
returns c = search (rules, end_done)
