-- `columns::put_end` meets its contract. Assumes nothing.
use mathlib.Core.Path.{sym}
use native.Mathlib.Omega.{arith}
use lib.Seq.{length-take-le}
use Rattle.columns.proofs.Columns.{end_put}
use Rattle.columns.proofs.put_end.Goals as goal

pub slice_bounds-put_spaces-end-2 : goal.slice_bounds-put_spaces-end-2
slice_bounds-put_spaces-end-2 c = sym (length-take-le _ _ (omega arith))

pub returns : goal.returns
returns c = end_put c.args.page.now c.args.blank (omega (arith, c.requires)) c.put_spaces.ensures c.requires
