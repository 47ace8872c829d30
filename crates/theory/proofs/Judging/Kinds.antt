-- Whether a predicate is given or ruled: the tests, and what they say of its kind.
use mathlib.Core.Path.{◌≡◌, refl}
use mathlib.Core.Bool.{false, not}
use mathlib.Core.Option.{Option, some}
use Rattle.groundwork.proofs.Truth.{never_both}
use Rattle.theory.specs.Packs.{Kind, given, ruled, Predicate}
use Rattle.theory.specs.Faults.{is_given, given_in, ruled_in}

pub ruled_kind : (k : Kind) → is_given k ≡ false → k ≡ ruled
unfolding is_given
ruled_kind given e = never_both refl e
ruled_kind ruled e = refl

pub given_kind : (k : Kind) → not (is_given k) ≡ false → k ≡ given
unfolding is_given
given_kind given e = refl
given_kind ruled e = never_both refl e

pub given_in_lem : (o : Option Predicate) (x : Predicate) → o ≡ some x → given_in o ≡ is_given x.kind
unfolding given_in
given_in_lem o x e = rw e

pub ruled_in_lem : (o : Option Predicate) (x : Predicate) → o ≡ some x → ruled_in o ≡ not (is_given x.kind)
unfolding ruled_in
ruled_in_lem o x e = rw e
