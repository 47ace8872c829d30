-- `term_lines::Pen::put_atom` meets its contract. Assumes nothing.
use Rattle.term_lines.proofs.Drawing.{fresh_in_line, name_long, atoms_many, atom_no_room, atom_put}
use borrow.Author.Rules.{rules}
use Rattle.term_lines.proofs.Pen.put_atom.Goals as goal

pub returns-then-name-gt16 : goal.returns-then-name-gt16
returns-then-name-gt16 c = search (rules, name_long)

pub returns-then-self-gt8 : goal.returns-then-self-gt8
returns-then-self-gt8 c = search (rules, atoms_many)

pub lacks_room-requires : goal.lacks_room-requires
lacks_room-requires c = search (rules, fresh_in_line)

pub returns-then-lacks_room : goal.returns-then-lacks_room
returns-then-lacks_room c = search (rules, atom_no_room)

pub returns : goal.returns
returns c = search (rules, atom_put)
