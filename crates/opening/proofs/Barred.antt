-- Which declared predicates a line may not name: whether one is given or ruled is told by its kind in the table.
use mathlib.Core.Path.{◌≡◌, refl, sym, ◌∙◌, ap}
use mathlib.Core.Bool.{not}
use mathlib.Core.Option.{some}
use Rattle.theory.specs.declared.Letter.{Letter}
use Rattle.theory.specs.declared.Letter.TheVariants.{P, C, G, H, B, M, E, NoLetter}
use Rattle.theory.specs.Packs.{Kind as PredicateKind, given, ruled, Predicate}
use Rattle.theory.specs.Faults.{is_given, given_in, ruled_in}
use Rattle.tables.specs.declared.Kind.{Kind}
use Rattle.tables.specs.Tables.{kind_of}
use Rattle.opening.specs.Opening.{bars}
use Rattle.opening.proofs.LetterTests.{is_barred}

given_kind : (k : PredicateKind) → is_given k ≡ bars H (kind_of k)
unfolding is_given
given_kind given = refl
given_kind ruled = refl

ruled_kind : (k : PredicateKind) → not (is_given k) ≡ bars G (kind_of k)
unfolding is_given
ruled_kind given = refl
ruled_kind ruled = refl

-- whom a letter bars is told by the kind
pub barred_kind : (l : Letter) (q : Predicate) {kind : Kind} → kind ≡ kind_of q.kind → is_barred l (some q) ≡ bars l kind
unfolding given_in ruled_in
barred_kind P q is = refl
barred_kind C q is = refl
barred_kind G q is = ruled_kind q.kind ∙ ap (bars G) (sym is)
barred_kind H q is = given_kind q.kind ∙ ap (bars H) (sym is)
barred_kind B q is = refl
barred_kind M q is = refl
barred_kind E q is = refl
barred_kind NoLetter q is = refl
