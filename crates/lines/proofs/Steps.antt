-- A dispatcher's answer, by the letter that it was asked for.
use mathlib.Core.Path.{◌≡◌, refl, sym, ◌∙◌, ap, subst}
use Rattle.std.specs.Prelude.{Result}
use mathlib.Core.List.{List, [], ◌∷◌}
use Prim.Native.Nat.{ℕ}
use types.Run.{OneOf, miss}
use lib.IntN.{ℤ}
use denote.Enum.Declared.{tag_of}
use Rattle.theory.specs.contracts.Letter.{the_type}
use Rattle.theory.specs.declared.Letter.{Letter}
use Rattle.theory.specs.declared.Letter.TheVariants.{P, C, G, H, B, M, E, NoLetter}
use Rattle.theory.specs.Text.{Bytes}
use Rattle.theory.specs.Sizes.{structural}
use Rattle.theory.specs.Faults.{Manner}
use Rattle.tables.specs.declared.State.{State}
use Rattle.tables.specs.declared.Opened.{Opened}
use Rattle.tables.specs.declared.Tables.{Tables as Lasting}
use Rattle.tables.specs.declared.Fault.{Fault}
use Rattle.tables.specs.Sorts.{Sort, declaring, ending, sort_of}
use Rattle.atoms.specs.Fields.{FieldTerm, atom_of}
use Rattle.lines.specs.declared.Room.{Room}
use Rattle.lines.specs.Steps.{after_term, TermReady, FieldNeeds, FieldLeaves, FieldReady, FieldDone, CloseNeeds, CloseReady, CloseLeaves, CloseDone}

pub field_done : (sort : Sort) {letter : Letter} {index : ℕ} {field : Bytes} {s : State} {many : ℕ} {claims : List ℤ} {x₀ : Room} {r : Result ℕ Fault} {x : Room}
    → sort_of letter ≡ sort → FieldLeaves sort index field s many claims x₀ r x → FieldDone letter index field s many claims x₀ r x
field_done sort {index = index} {field} {s} {many} {claims} {x₀} {r} {x} is leaves = record { of = λ k e. subst (λ (j : Sort). FieldLeaves j index field s many claims x₀ r x) (sym is ∙ e) leaves }

-- of a letter that is known
module _ (l : Letter) {letter : Letter} {index : ℕ} {field : Bytes} {s : State} {many : ℕ} {claims : List ℤ} {x₀ : Room} where
  pub ready_of : FieldReady letter index field s many claims x₀ → letter ≡ l → FieldNeeds (sort_of l) index field s many claims x₀
  ready_of ready is = ready.of (sort_of l) (ap sort_of is)

  pub done_of : {r : Result ℕ Fault} {x : Room} → letter ≡ l → FieldLeaves (sort_of l) index field s many claims x₀ r x → FieldDone letter index field s many claims x₀ r x
  done_of is = field_done (sort_of l) (ap sort_of is)

-- ---- the letters of lines that have no fields left, by their tags

pub none_ready : (letter : Letter) → OneOf (0 ∷ 6 ∷ []) (tag_of the_type letter) → {index : ℕ} {field : Bytes} {s : State} {many : ℕ} {claims : List ℤ} {x₀ : Room} → FieldReady letter index field s many claims x₀ → ⊥
none_ready P way ready = ready.of declaring refl
none_ready C way ready = absurd (miss (0 ∷ 6 ∷ []) 1 tt way)
none_ready G way ready = absurd (miss (0 ∷ 6 ∷ []) 2 tt way)
none_ready H way ready = absurd (miss (0 ∷ 6 ∷ []) 3 tt way)
none_ready B way ready = absurd (miss (0 ∷ 6 ∷ []) 4 tt way)
none_ready M way ready = absurd (miss (0 ∷ 6 ∷ []) 5 tt way)
none_ready E way ready = ready.of ending refl
none_ready NoLetter way ready = absurd (miss (0 ∷ 6 ∷ []) 7 tt way)

-- ---- the letters of atoms, by their tags

by_atom : (P : Letter → Type 0) (letter : Letter) → OneOf (2 ∷ 3 ∷ 4 ∷ []) (tag_of the_type letter) → P G → P H → P B → P letter
by_atom Q P way fact head subgoal = absurd (miss (2 ∷ 3 ∷ 4 ∷ []) 0 tt way)
by_atom Q C way fact head subgoal = absurd (miss (2 ∷ 3 ∷ 4 ∷ []) 1 tt way)
by_atom Q G way fact head subgoal = fact
by_atom Q H way fact head subgoal = head
by_atom Q B way fact head subgoal = subgoal
by_atom Q M way fact head subgoal = absurd (miss (2 ∷ 3 ∷ 4 ∷ []) 5 tt way)
by_atom Q E way fact head subgoal = absurd (miss (2 ∷ 3 ∷ 4 ∷ []) 6 tt way)
by_atom Q NoLetter way fact head subgoal = absurd (miss (2 ∷ 3 ∷ 4 ∷ []) 7 tt way)

module _ {letter : Letter} (way : OneOf (2 ∷ 3 ∷ 4 ∷ []) (tag_of the_type letter)) {index : ℕ} {field : Bytes} {s : State} {many : ℕ} {claims : List ℤ} {x₀ : Room} where
  pub atom_ready : FieldReady letter index field s many claims x₀ → TermReady index field many
  atom_ready ready = by_atom (λ (l : Letter). FieldNeeds (sort_of l) index field s many claims x₀ → TermReady index field many) letter way (λ needed. needed) (λ needed. needed) (λ needed. needed) (ready.of (sort_of letter) refl)

  pub atom_done : {r : Result ℕ Fault} {x : Room} → FieldTerm structural (atom_of letter s.subgoals) index field many x₀.variables x₀.rows r x.variables x.rows
      → x ≡ after_term x₀ x → FieldDone letter index field s many claims x₀ r x
  atom_done {r} {x} done same =
      field_done (sort_of letter) refl
      (by_atom (λ (l : Letter). FieldTerm structural (atom_of l s.subgoals) index field many x₀.variables x₀.rows r x.variables x.rows → FieldLeaves (sort_of l) index field s many claims x₀ r x) letter way
      (λ read. (read, same)) (λ read. (read, same)) (λ read. (read, same)) done)

pub close_done : {manner : Manner} (l : Letter) {letter : Letter} {o : Opened} {s : State} {many : ℕ} {y₀ : Lasting} {x₀ : Room} {r : Result State Fault} {y : Lasting} {x : Room}
    → letter ≡ l → CloseLeaves manner l o s many y₀ x₀ r y x → CloseDone manner letter o s many y₀ x₀ r y x
close_done {manner} l {o = o} {s} {many} {y₀} {x₀} {r} {y} {x} is leaves = record { of = λ k e. subst (λ (j : Letter). CloseLeaves manner j o s many y₀ x₀ r y x) (sym is ∙ e) leaves }

pub close_ready : {letter : Letter} {o : Opened} {s : State} {y : Lasting} {x : Room} → CloseNeeds letter o s y x → CloseReady letter o s y x
close_ready {o = o} {s} {y} {x} needs = record { of = λ k e. subst (λ (j : Letter). CloseNeeds j o s y x) e needs }
