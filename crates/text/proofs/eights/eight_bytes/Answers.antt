-- `text::eights::eight_bytes` meets its contract: std's number of these bytes is that of the part.
use mathlib.Core.Path.{◌∙◌}
use Rattle.text.proofs.EightBytes.{worths_lem}
use Rattle.text.proofs.eights.eight_bytes.Goals as goal

pub returns : goal.returns
returns c = c.from_le_bytes.ensures ∙ worths_lem c.args.bytes.now c.args.at 7 c.requires
