-- `columns::put_number` meets its contract. Assumes nothing.
use mathlib.Core.Path.{sym}
use Prim.Native.Nat.{◌-◌}
use native.Mathlib.Omega.{arith}
use lib.Seq.{length-take-le}
use Rattle.columns.proofs.Columns.{blank_size, number_put}
use Rattle.columns.proofs.put_number.Goals as goal

pub slice_bounds-put_spaces-end-2 : goal.slice_bounds-put_spaces-end-2
slice_bounds-put_spaces-end-2 c = sym (length-take-le _ _ (omega arith))

pub put_field-requires : goal.put_field-requires
put_field-requires c = omega (arith, blank_size c.args.page.now (c.args.width - c.digits.result) (omega (arith, c.requires)) c.put_spaces.ensures, c.digits.ensures.0, c.requires)

pub returns : goal.returns
returns c = number_put c.args.page.now c.args.width c.args.n (c.args.width - c.digits.result) (omega (arith, c.digits.ensures.0, c.requires)) c.requires.1 c.put_spaces.ensures c.put_field.ensures.puts
