-- `term_lines::Pen::put_lone` meets its contract. Assumes nothing.
use Rattle.term_lines.proofs.Drawing.{drawn_in_line, lone_no_room, lone_put}
use borrow.Author.Rules.{rules}
use Rattle.term_lines.proofs.Pen.put_lone.Goals as goal

pub lacks_room-requires : goal.lacks_room-requires
lacks_room-requires c = search (rules, drawn_in_line)

pub returns-then-lacks_room : goal.returns-then-lacks_room
returns-then-lacks_room c = search (rules, lone_no_room)

pub returns : goal.returns
returns c = search (rules, lone_put)
