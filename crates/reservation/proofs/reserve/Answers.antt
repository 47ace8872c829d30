-- `reservation::reserve` meets its contract. Assumes nothing.
use borrow.Author.Rules.{rules}
use Rattle.packs.proofs.FreshTables.{fresh_made}
use Rattle.reservation.proofs.QueryAnswers.{pack_ready, pack_held}
use Rattle.reservation.proofs.reserve.Goals as goal

pub respond-requires : goal.respond-requires
respond-requires c = search (rules, pack_ready)

pub returns : goal.returns
returns c =
    let held = pack_held c.load-loaded.ensures in
    record { result_value = c.respond.ensures.tells _ held; passes = c.respond.ensures.passes _ held }

pub load-loaded-requires : goal.load-loaded-requires
load-loaded-requires c = search (rules, fresh_made)
