-- The word's definition, opened, at the fields' view.
use Rattle.std.proofs.Common.{ap}
use Rattle.theory.specs.Words.{measure_word}
use Rattle.answers.proofs.c_answers.measure_word.Goals as goal

pub returns : goal.returns
unfolding measure_word
returns c = ap measure_word c.two.view_is
