-- What an `Option` was that a step refuses, from what its `ok_or` is.
use mathlib.Core.Path.{◌≡◌, refl}
use Rattle.std.specs.Prelude.{Option, Some, None, Ok, Err}
use Rattle.std.specs.Option.{ok_or}

pub got_some : {A E : Type 0} (r : Option A) (e : E) {x : A} → ok_or r e ≡ Ok x → r ≡ Some x
got_some None e is = cc
got_some (Some y) e is = cc

pub got_none : {A E : Type 0} (r : Option A) (e : E) {f : E} → ok_or r e ≡ Err f → (r ≡ None) × (f ≡ e)
got_none None e is = (refl, cc)
got_none (Some y) e is = cc
