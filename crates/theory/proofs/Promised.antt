-- All that is promised, proved as a whole.
use mathlib.Core.Bool.{true}
use Rattle.theory.specs.Written.{nothing, write_all}
use Rattle.theory.specs.Promised.{SizesPromised, LinesPromised, Promised}
use Rattle.theory.proofs.Judging.FineRuns.{reached_short}
use Rattle.theory.proofs.Judging.LinesTold.{line_told}
use Rattle.theory.proofs.Judging.LettersTold.{letter_told}
use Rattle.theory.proofs.Judging.VariableOrder.{variables_told}
use Rattle.theory.proofs.Soundness.FormRanges.{forms_fit}
use Rattle.theory.proofs.Soundness.ResidualTold.{claim_told, residual_told, numbers_told}
use Rattle.theory.proofs.Soundness.Sizes.{size_under}
use Rattle.theory.proofs.SectionForm.{section_form}
use Rattle.theory.proofs.ShareNothing.{share_nothing}
use Rattle.theory.proofs.DemandOne.{demand_one}
use Rattle.theory.proofs.DemandTwo.{demand_two, but_for_heads_lem}
use Rattle.theory.proofs.DemandThree.{demand_three}
use Rattle.theory.proofs.RightCase.{right_case_lem}
use Rattle.theory.proofs.Words.{words_tell, word_factors}
use Rattle.theory.proofs.ReserveTold.{queries_told, reserve_told}
use Rattle.theory.proofs.TextTold.{text_promised}
use Rattle.theory.proofs.MeasureTold.{measure_told}
use Rattle.theory.proofs.ReplyTold.{reply_told}
use Rattle.theory.proofs.SheetKept.{sheet_promised}
use Rattle.theory.proofs.Derived.{witnessed}
use Rattle.theory.proofs.Limits.Examples.{text_length_told}

sizes_promised : SizesPromised
sizes_promised = record {
  sections = section_form;
  substituted = λ m σ t. record { is = λ xs once within. size_under m σ xs once t within };
  claims = claim_told;
  residuals = residual_told;
  variables = variables_told;
  numbers = numbers_told;
}

lines_promised : LinesPromised
lines_promised = record {
  every = λ before l. line_told _ l;
  lettered = λ before l fine unended. letter_told (write_all nothing before) l unended (reached_short true before fine unended).reached;
}

pub promised : Promised
promised = record {
  text = text_promised;
  check = demand_one;
  text_length = text_length_told;
  lines = lines_promised;
  queries = queries_told;
  reserve = reserve_told;
  measure = measure_told;
  program = reply_told;
  sizes = sizes_promised;
  accepted = demand_two;
  but_for_heads = but_for_heads_lem;
  names = share_nothing;
  ranges = forms_fit;
  derivations = demand_three;
  witnesses = witnessed;
  right_case = right_case_lem;
  words = words_tell;
  factors = word_factors;
  sheets = sheet_promised;
}
