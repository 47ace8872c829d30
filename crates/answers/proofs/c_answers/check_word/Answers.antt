-- The word's definition, opened, at the fields' view.
use Rattle.std.proofs.Common.{ap}
use Rattle.theory.specs.Words.{check_word}
use Rattle.answers.proofs.c_answers.check_word.Goals as goal

pub returns : goal.returns
unfolding check_word
returns c = ap check_word c.four.view_is
