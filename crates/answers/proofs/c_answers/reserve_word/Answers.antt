-- The word's definition, opened, at the fields' view.
use Rattle.std.proofs.Common.{ap}
use Rattle.theory.specs.Words.{reserve_word}
use Rattle.answers.proofs.c_answers.reserve_word.Goals as goal

pub returns : goal.returns
unfolding reserve_word
returns c = ap reserve_word c.three.view_is
