-- `columns::put_name` meets its contract. Assumes nothing.
use Rattle.columns.proofs.Columns.{name_put}
use Rattle.columns.proofs.put_name.Goals as goal

pub returns : goal.returns
returns c = name_put c.args.page.now c.args.name.now c.args.width c.requires.0 c.requires.1 c.copy_over.ensures c.put_spaces.ensures
