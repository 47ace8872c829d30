-- What `measure` answers: each test, and the size where none finds a fault.
use mathlib.Core.Path.{◌≡◌, sym, ◌∙◌, ap}
use mathlib.Core.Bool.{Bool, true, false}
use mathlib.Core.Option.{some}
use Prim.Native.Nat.{ℕ, ◌≤◌, ◌<◌}
use native.Mathlib.Omega.{arith}
use lib.ListN.{length, take, drop_of_length-le}
use Rattle.groundwork.proofs.Truth.{ltb-ge, or_not_left}
use Rattle.std.specs.Prelude.{Option, Some, None, is_some}
use Rattle.theory.specs.Text.{Bytes}
use Rattle.theory.specs.Terms.{Term, read_term, variables}
use Rattle.theory.specs.Sizes.{structural, size}
use Rattle.theory.specs.Faults.{is_unfit}
use Rattle.theory.specs.Measure.{measured, measure_term, measure_of}
use Rattle.theory.proofs.SectionForm.{section_form}
use Rattle.theory.proofs.Reading.Presence.{is_some_lem, is_none_lem, empty_is, filled_is}
use Rattle.tokens.specs.declared.Tokens.{Tokens}
use Rattle.tokens.specs.declared.TokenRoom.{TokenRoom}
use Rattle.tokens.specs.TokenRows.{TokensStand, TokensRead}
use Rattle.terms.specs.Constants.{AritiesSummed}
use Rattle.terms.proofs.AritySums.{term_summed}

module _ (s : Bytes) (unfit : Bool) (unfit-is : unfit ≡ is_unfit s) where
  pub measure_unfit : unfit ≡ true → measured 4 0 ≡ measure_of s
  unfolding measure_of
  measure_unfit h = rw (sym unfit-is ∙ h)

  module _ (fit : unfit ≡ false) where
    pub measure_short : length s ≤ 1024
    unfolding is_unfit
    measure_short = ltb-ge 1024 (length s) (or_not_left _ _ (sym unfit-is ∙ fit))

    module _ (r : Option Tokens) (room : TokenRoom) (read_is : TokensRead s r room) where
      pub measure_no_term : r ≡ None → measured 11 0 ≡ measure_of s
      unfolding measure_of measure_term
      measure_no_term e = rw (sym unfit-is ∙ fit, is_none_lem (read_term s) (sym read_is.fine ∙ ap is_some e))

      module _ (read : Tokens) (e : r ≡ Some read) where
        found : (t : Term) × (read_term s ≡ some t)
        found = is_some_lem (read_term s) (sym read_is.fine ∙ ap is_some e)

        abbrev term : Term
        term = found.0

        pub stands : TokensStand s read room
        stands = read_is.stand read e

        many : read.variables ≡ length (variables term)
        many = stands.many term found.1

        pub measure_variable : 0 < read.variables → measured 19 0 ≡ measure_of s
        unfolding measure_of measure_term
        measure_variable h = rw (sym unfit-is ∙ fit, found.1, filled_is (variables term) (λ e. omega (arith, many, ap length e)))

        module _ (sum : ℕ) (sum_is_lem : AritiesSummed (take read.symbols room.arities) sum) where
          summed : sum ≡ size structural term
          summed = term_summed sum_is_lem stands.symbols term found.1 ∙ sym (section_form term).first

          pub measure_size : read.variables ≤ 0 → measured 0 sum ≡ measure_of s
          unfolding measure_of measure_term
          measure_size h = rw (sym unfit-is ∙ fit, found.1, empty_is (variables term) (drop_of_length-le (variables term) {i = 0} (omega (arith, many))), summed)
