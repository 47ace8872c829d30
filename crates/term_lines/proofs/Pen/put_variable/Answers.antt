-- `term_lines::Pen::put_variable` meets its contract. Assumes nothing.
use Rattle.term_lines.proofs.Drawing.{drawn_in_line, variable_long, variable_no_room, variable_put}
use borrow.Author.Rules.{rules}
use Rattle.term_lines.proofs.Pen.put_variable.Goals as goal

pub returns-then-name-gt16 : goal.returns-then-name-gt16
returns-then-name-gt16 c = search (rules, variable_long)

pub lacks_room-requires : goal.lacks_room-requires
lacks_room-requires c = search (rules, drawn_in_line)

pub returns-then-lacks_room : goal.returns-then-lacks_room
returns-then-lacks_room c = search (rules, variable_no_room)

pub returns : goal.returns
returns c = search (rules, variable_put)
