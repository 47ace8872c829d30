-- `pages::put_text` meets its contract. Assumes nothing.
use Rattle.std.proofs.Common.{refl}
use lib.ListN.{length}
use Rattle.pages.proofs.Places.{copied_part}
use Rattle.pages.proofs.put_text.Goals as goal

pub returns : goal.returns
returns c = copied_part _ c.args.page.now c.args.to (length c.args.text.now) c.requires refl c.copy_over.ensures
