-- The asked argument's field: what its number tells of test 16, and of the argument asked for.
use mathlib.Core.Path.{◌≡◌, refl, sym, ◌∙◌, ap}
use mathlib.Core.Bool.{Bool, true, false, not}
use mathlib.Core.Option.{some, none, get_or}
use Prim.Native.Nat.{ℕ, ◌≤◌}
use native.Mathlib.Omega.{arith}
use Rattle.groundwork.proofs.Truth.{by_truth, or_left, or_right, or_neither}
use Rattle.theory.specs.Lists.{is_some}
use Rattle.theory.specs.Text.{Bytes, bytes, same, natural}
use Rattle.theory.proofs.Reading.Bytes.{same_refl, same_equal}
use Rattle.theory.proofs.Reading.Presence.{some_is, none_is}
use Rattle.theory.proofs.Reserving.QueryFields.{written_zero}
use Rattle.queries.specs.Queries.{is_unasked}
use Rattle.theory.proofs.Reading.Spelling.{natural_of_decimal, decimal_of_natural, natural_wider}

module _ (arity : ℕ) (field : Bytes) where
  -- no number, or 0
  pub unasked_none : none ≡ natural arity field → is_unasked arity field ≡ true
  unasked_none is = or_left _ _ (ap not (none_is _ (sym is)))

  pub unasked_zero : some 0 ≡ natural arity field → is_unasked arity field ≡ true
  unasked_zero is =
      let zero_field : field ≡ bytes "0" = decimal_of_natural arity field 0 (sym is) ∙ written_zero in
      or_right (not (is_some (natural arity field))) (same field (bytes "0")) (rw zero_field (same_refl (bytes "0")))

  module _ (n : ℕ) (is : natural arity field ≡ some n) (above : n ≡ 0 → ⊥) where
    not_zero : same field (bytes "0") ≡ false
    not_zero = by_truth (λ (b : Bool). b ≡ false) (same field (bytes "0")) zero_field (λ e. refl)
      where
        zero_field : same field (bytes "0") ≡ true → true ≡ false
        zero_field e =
            let reads : natural arity field ≡ some 0 = ap (natural arity) (same_equal field (bytes "0") e ∙ sym written_zero) ∙ natural_of_decimal arity 0 (omega arith) in
            let same_number : n ≡ 0 = cc in
            absurd (above same_number)

    pub asked_clear : is_unasked arity field ≡ false
    asked_clear = or_neither _ _ (ap not (some_is _ n is)) not_zero

  pub asked_is : (n : ℕ) → natural arity field ≡ some n → arity ≤ 8 → get_or (natural 8 field) 0 ≡ n
  asked_is n is few = rw (natural_wider arity 8 field n few is)
