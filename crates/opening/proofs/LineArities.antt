-- The arity that a line gives: what `read_arity` and `arity_of` answer.
use mathlib.Core.Path.{◌≡◌, refl, sym, ◌∙◌, ap}
use mathlib.Core.List.{List, [], ◌∷◌}
use mathlib.Core.Bool.{Bool}
use mathlib.Core.Option.{Option, some, none}
use native.Mathlib.Omega.{arith}
use lib.Dec.{ltb}
use Prim.Native.Nat.{ℕ, ◌+◌, ◌-◌, ◌≤◌, ◌<◌}
use lib.ListN.{length, drop}
use lib.Seq.{get_or-drop}
use types.Run.{OneOf, miss}
use denote.Enum.Declared.{tag_of}
use Rattle.std.specs.Prelude as S
use Rattle.std.specs.Option.{SomeIff}
use Rattle.numbers.specs.Numbers.{option_of}
use Rattle.groundwork.proofs.Truth.{by_truth, ltb-lt, ltb-ge, lt-ltb, ge-ltb}
use Rattle.theory.specs.contracts.Letter.{the_type}
use Rattle.theory.specs.declared.Letter.{Letter}
use Rattle.theory.specs.declared.Letter.TheVariants.{P, C, G, H, B, M, E, NoLetter}
use Rattle.theory.specs.Text.{Bytes, is_decimal, natural, fields_of}
use Rattle.theory.specs.Written.{field}
use Rattle.theory.specs.Faults.{less, line_arity}
use Rattle.theory.proofs.Judging.LineKeys.{StatesAtom, atom_arity}
use Rattle.text.specs.Scans.{part, Finds, parts_from}
use Rattle.text.proofs.Cuts.{parts_done, parts_step}

-- ---- in a field of its own

module _ (line : Bytes) (from : ℕ) where
  pub no_field : length line < from → none ≡ natural 8 (field 0 (parts_from 44 line from))
  unfolding natural is_decimal
  no_field past = rw (parts_done 44 line from past)

  pub arity_there : from ≤ length line → (stop : ℕ) → Finds line 44 from stop → {read : Option ℕ} → read ≡ natural 8 (part line from stop) → read ≡ natural 8 (field 0 (parts_from 44 line from))
  arity_there inside stop found is = is ∙ sym (ap (λ (fs : List Bytes). natural 8 (field 0 fs)) (parts_step 44 line from stop inside found))

-- ---- by letter

-- a letter by its tag
states_atom : (l : Letter) → OneOf (2 ∷ 3 ∷ 4 ∷ []) (tag_of the_type l) → StatesAtom l
states_atom P tag = absurd (miss (2 ∷ 3 ∷ 4 ∷ []) 0 tt tag)
states_atom C tag = absurd (miss (2 ∷ 3 ∷ 4 ∷ []) 1 tt tag)
states_atom G tag = StatesAtom.fact
states_atom H tag = StatesAtom.head
states_atom B tag = StatesAtom.subgoal
states_atom M tag = absurd (miss (2 ∷ 3 ∷ 4 ∷ []) 5 tt tag)
states_atom E tag = absurd (miss (2 ∷ 3 ∷ 4 ∷ []) 6 tt tag)
states_atom NoLetter tag = absurd (miss (2 ∷ 3 ∷ 4 ∷ []) 7 tt tag)

-- what `checked_sub` leaves of the commas
left_by : (k commas : ℕ) (r : S.Option ℕ) → SomeIff r (k ≤ commas) (commas - k) → option_of r ≡ less (commas + 1) (k + 1)
unfolding less
left_by k commas (S.Some n) (enough, left) = rw (ge-ltb (commas + 1) (k + 1) (omega arith)) (ap some (omega arith))
left_by k commas S.None few = rw (lt-ltb (commas + 1) (k + 1) (by_truth (λ (b : Bool). commas + 1 < k + 1) (ltb commas k) (λ e. let low = ltb-lt commas k e in omega arith) (λ e. absurd (few (ltb-ge commas k e)))))

-- this is the arity that the line gives, if it gives one
abbrev Gives : Letter → Bytes → Option ℕ → Type 0
Gives l line n = n ≡ line_arity l (fields_of line)

module _ (l : Letter) (line : Bytes) (commas : ℕ) (n : Option ℕ) (count : commas + 1 ≡ length (fields_of line)) where
  pub arity_of_predicate : l ≡ P → (from : ℕ) → parts_from 44 line from ≡ drop 2 (fields_of line) → n ≡ natural 8 (field 0 (parts_from 44 line from)) → Gives l line n
  unfolding line_arity
  arity_of_predicate is from rest given = rw is (given ∙ ap (natural 8) (ap (field 0) rest ∙ get_or-drop 2 (fields_of line) 0 []))

  -- commas less those before no argument
  pub arity_of_claim : l ≡ C → (r : S.Option ℕ) → SomeIff r (2 ≤ commas) (commas - 2) → option_of r ≡ n → Gives l line n
  unfolding line_arity less
  arity_of_claim is r taken same = rw (is, ← count) (sym same ∙ left_by 2 commas r taken)

  pub arity_of_atom : OneOf (2 ∷ 3 ∷ 4 ∷ []) (tag_of the_type l) → (r : S.Option ℕ) → SomeIff r (1 ≤ commas) (commas - 1) → option_of r ≡ n → Gives l line n
  arity_of_atom tag r taken same = rw (atom_arity (states_atom l tag) (fields_of line), ← count) (sym same ∙ left_by 1 commas r taken)

pub arity_of_none : (l : Letter) (line : Bytes) → OneOf (5 ∷ 6 ∷ 7 ∷ []) (tag_of the_type l) → Gives l line none
unfolding line_arity
arity_of_none P line tag = absurd (miss (5 ∷ 6 ∷ 7 ∷ []) 0 tt tag)
arity_of_none C line tag = absurd (miss (5 ∷ 6 ∷ 7 ∷ []) 1 tt tag)
arity_of_none G line tag = absurd (miss (5 ∷ 6 ∷ 7 ∷ []) 2 tt tag)
arity_of_none H line tag = absurd (miss (5 ∷ 6 ∷ 7 ∷ []) 3 tt tag)
arity_of_none B line tag = absurd (miss (5 ∷ 6 ∷ 7 ∷ []) 4 tt tag)
arity_of_none M line tag = refl
arity_of_none E line tag = refl
arity_of_none NoLetter line tag = refl
