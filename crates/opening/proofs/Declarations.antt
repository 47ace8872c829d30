-- The opening of a line that declares a new predicate, test by test: what `open_declaration` answers.
use mathlib.Core.Path.{◌≡◌, refl, sym, ◌∙◌}
use mathlib.Core.Bool.{Bool, true, false, cond}
use Prim.Native.Nat.{ℕ, ◌+◌}
use lib.ListN.{length}
use mathlib.Core.Option.{Option}
use Rattle.std.specs.Prelude as S
use Rattle.std.specs.Prelude.{Some, None, Result, Ok, Err}
use Rattle.std.specs.Option.{ok_or}
use Rattle.numbers.specs.Numbers.{option_of}
use Rattle.theory.specs.Lists.{is_some}
use Rattle.tables.specs.declared.Kind.{Kind}
use Rattle.tables.specs.declared.Fault.{Fault}
use Rattle.groundwork.proofs.Truth.{eqb-different}
use Rattle.theory.specs.declared.Letter.TheVariants.{P}
use Rattle.theory.specs.Text.{Bytes}
use Rattle.theory.specs.Written.{field}
use Rattle.theory.specs.Faults.{is_kind}
use Rattle.text.specs.Scans.{parts_from}
use Rattle.words.specs.declared.Words.{Words}
use Rattle.tables.specs.declared.Fault.TheVariants.{FieldCount, Number}
use Rattle.tables.proofs.Outcomes.{none_refused}
use Rattle.opening.specs.Opening.{kind_written, declaration}

-- ---- what a kind that is read tells

no_kind : (b : Bool) (k : Kind) → cond b (Some k) None ≡ None → b ≡ false
no_kind true k e = absurd (cc)
no_kind false k e = refl

some_kind : (b : Bool) (k l : Kind) → cond b (Some k) None ≡ Some l → (b ≡ true) × (l ≡ k)
some_kind true k l e = (refl, cc)
some_kind false k l e = absurd (cc)

-- ---- the answers

module _ (line : Bytes) (known : ℕ) (words : Words) (from commas : ℕ) where
  pub new_miscounted : (commas ≡ 3 → ⊥) → (arity : Option ℕ) → Err FieldCount ≡ declaration line known words from commas arity
  new_miscounted other arity = rw (eqb-different commas 3 other)

  module _ (three : commas ≡ 3) (given : S.Option ℕ) where
    pub new_malformed : (f : Fault) → ◌≡◌ {A = Result ℕ Fault} (Err f) (ok_or given Number) → Err f ≡ declaration line known words from commas (option_of given)
    unfolding is_some
    new_malformed f is = let (nothing, fault) = none_refused given is in rw (three, nothing, fault)

    module _ (arity : ℕ) (low : given ≡ Some arity) (r : S.Option Kind) (read : r ≡ kind_written (field 1 (parts_from 44 line from))) where
      pub new_kindless : (f : Fault) → ◌≡◌ {A = Result Kind Fault} (Err f) (ok_or r Number) → Err f ≡ declaration line known words from commas (option_of given)
      unfolding is_some
      new_kindless f is =
          let (nothing, fault) = none_refused r is in
          rw (three, low, fault, no_kind (is_kind (field 1 (parts_from 44 line from))) _ (sym read ∙ nothing))

      pub new_declared : (n : ℕ) (kind : Kind) → n ≡ arity → r ≡ Some kind → Ok (record { letter = P; predicate = known; signature = record { words = words; kind = kind; arity = n; claims = 0 }; from = length line + 1 }) ≡ declaration line known words from commas (option_of given)
      unfolding is_some
      new_declared n kind same is =
          let found = some_kind (is_kind (field 1 (parts_from 44 line from))) _ kind (sym read ∙ is) in
          rw (three, low, found.0, found.1, same)
