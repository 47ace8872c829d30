-- `reservation::respond` meets its contract. Assumes nothing.
use borrow.Author.Rules.{rules}
use Rattle.reservation.proofs.QueryAnswers.{ready_accepted, answered_pack}
use Rattle.reservation.proofs.respond.Goals as goal

pub answer-requires : goal.answer-requires
answer-requires c = ready_accepted c.requires c.in-Ok.is

pub returns-in-Ok : goal.returns-in-Ok
returns-in-Ok c = search (rules, answered_pack)
