-- An `Option` of the code as one of the definitions.
use Rattle.std.proofs.Math.Option as M
use Rattle.std.specs.Prelude.{Option, Some, None}

abbrev pub option_of : {A : Type 0} → Option A → M.Option A
option_of (Some x) = M.some x
option_of None = M.none
