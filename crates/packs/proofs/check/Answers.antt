-- `packs::check` meets its contract. Assumes nothing.
use Rattle.packs.proofs.FreshTables.{fresh_made}
use Rattle.packs.proofs.LoadAnswers.{short_area_lem, none_left, laid_area, same_area}
use Rattle.packs.proofs.check.Goals as goal

pub returns-then-area-lt17 : goal.returns-then-area-lt17
returns-then-area-lt17 c = short_area_lem _ _ c.if-area-lt17.true

pub returns-in-Some : goal.returns-in-Some
returns-in-Some c = laid_area _ _ c.if-area-lt17.false c.load-l.ensures c.in-Some.residual c.in-Some.is c.lay.ensures

pub returns-in_default : goal.returns-in_default
returns-in_default c = same_area _ _ c.if-area-lt17.false c.load-l.ensures (none_left c.in_default.not-Some)

pub load-l-requires : goal.load-l-requires
load-l-requires c = let empty = c.empty-tables.ensures in fresh_made empty.signatures empty.claims
