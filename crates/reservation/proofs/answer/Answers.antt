-- `reservation::answer` meets its contract. Assumes nothing.
use Rattle.reservation.proofs.QueryAnswers.{refused_query, answered_query}
use Rattle.reservation.proofs.answer.Goals as goal

pub reserve_by-requires : goal.reserve_by-requires
reserve_by-requires c = (c.requires.1.count _ c.in-Ok.asked.low.0, c.requires.2)

pub returns-in-Err : goal.returns-in-Err
returns-in-Err c = refused_query _ _ c.in-Err.ensures

pub returns-in-Ok : goal.returns-in-Ok
returns-in-Ok c = answered_query _ _ c.in-Ok.ensures _ c.reserve_by.ensures
