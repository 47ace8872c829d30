-- `term_lines::Pen::put_symbol` meets its contract. Assumes nothing.
use Rattle.term_lines.proofs.Drawing.{drawn_in_line, name_long, symbol_no_room, symbol_put}
use borrow.Author.Rules.{rules}
use Rattle.term_lines.proofs.Pen.put_symbol.Goals as goal

pub returns-then-name-gt16 : goal.returns-then-name-gt16
returns-then-name-gt16 c = search (rules, name_long)

pub lacks_room-requires : goal.lacks_room-requires
lacks_room-requires c = search (rules, drawn_in_line)

pub returns-then-lacks_room : goal.returns-then-lacks_room
returns-then-lacks_room c = search (rules, symbol_no_room)

pub returns : goal.returns
returns c = search (rules, symbol_put)
