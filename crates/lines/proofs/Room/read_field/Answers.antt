-- `lines::Room::read_field` meets its contract. Assumes nothing.
use borrow.Author.Rules.{rules}
use mathlib.Core.Path.{refl}
use mathlib.Core.Logic.{⊎_map}
use Rattle.theory.specs.declared.Letter.TheVariants.{C, M, NoLetter}
use Rattle.tables.proofs.LetterTags.{same_tag}
use Rattle.atoms.proofs.StatedAtoms.{atom_high}
use Rattle.lines.proofs.Steps.{ready_of, done_of, none_ready, atom_ready, atom_done}
use Rattle.lines.proofs.Room.read_field.Goals as goal

pub field_claim-requires : goal.field_claim-requires
field_claim-requires c = ready_of C c.requires (search rules)

pub field_term-requires : goal.field_term-requires
field_term-requires c =
    let ready = atom_ready (⊎_map same_tag (⊎_map same_tag same_tag) c.in-G.is) c.requires in
    (rw c.atom_of.ensures (atom_high c.args.letter c.args.state.subgoals), ready.0, ready.1, ready.2)

pub field_multiplier-requires : goal.field_multiplier-requires
field_multiplier-requires c = ready_of M c.requires (search rules)

pub returns-in-C : goal.returns-in-C
returns-in-C c = done_of C (search rules) (c.field_claim.ensures, refl)

pub returns-in-G : goal.returns-in-G
returns-in-G c =
    atom_done (⊎_map same_tag (⊎_map same_tag same_tag) c.in-G.is) (rw c.atom_of.ensures at c.field_term.ensures) refl

pub returns-in-M : goal.returns-in-M
returns-in-M c = done_of M (search rules) (c.field_multiplier.ensures, refl)

pub returns-in-P : goal.returns-in-P
returns-in-P c = absurd (none_ready _ (⊎_map same_tag same_tag c.in-P.is) c.requires)

pub returns-in-NoLetter : goal.returns-in-NoLetter
returns-in-NoLetter c = absurd (ready_of NoLetter c.requires (search rules))
