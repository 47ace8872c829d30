-- `text::eights::two_bytes` meets its contract: std's number of these bytes is that of the part.
use mathlib.Core.Path.{◌∙◌}
use native.Mathlib.Omega.{arith}
use Rattle.text.proofs.EightBytes.{worths_lem}
use Rattle.text.proofs.eights.two_bytes.Goals as goal

pub returns : goal.returns
returns c = record { is = c.from_le_bytes.ensures ∙ worths_lem c.args.bytes.now c.args.at 1 c.requires; small = omega arith }
