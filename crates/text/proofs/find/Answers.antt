-- `text::find` meets its contract: what stands first among the near bytes, or beyond them, is the first place from it on.
use mathlib.Core.Path.{sym, ◌∙◌}
use native.Mathlib.Omega.{arith}
use Rattle.text.proofs.Finding.{found_near, none_near, found_after}
use Rattle.text.proofs.find.Goals as goal

pub returns-in-Some : goal.returns-in-Some
returns-in-Some c = found_near c.args.wanted c.args.bytes.now c.args.from _ (omega arith) (omega arith) c.in-Some.ahead (sym c.place_of.ensures ∙ c.in-Some.is)

pub returns-in-None : goal.returns-in-None
returns-in-None c =
    let free = none_near c.args.wanted c.args.bytes.now c.args.from _ (omega arith) (omega arith) (sym c.place_of.ensures ∙ c.in-None.is) in
    found_after c.args.wanted c.args.bytes.now c.args.from _ (omega arith) free _ c.find_beyond.ensures
