-- Reserve's middle field has room in its word.
use Rattle.std.proofs.Common.{ap, ◌∙◌, arith}
use Rattle.theory.specs.Reserve.{Fields}
use Rattle.theory.proofs.Words.{reserved_room}
use Rattle.cerrundix.proofs.reserve.Goals as goal

pub reserve_word-requires : goal.reserve_word-requires
reserve_word-requires c =
    omega (arith, ap (λ (x : Fields). x.middle) (c.from.ensures ∙ c.reserve.ensures.result_value), (reserved_room c.args.text.now c.args.query.now).middle)
