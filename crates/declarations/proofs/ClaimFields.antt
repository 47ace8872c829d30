-- A field of a `C` line: a number of the claim, into the row.
use mathlib.Core.Path.{◌≡◌, refl, sym, ◌∙◌, ap}
use Rattle.std.specs.Prelude.{Option, Some, Result, Ok, Err}
use Rattle.std.specs.Option.{ok_or}
use mathlib.Core.Bool.{false}
use mathlib.Core.List.{List}
use mathlib.Core.Option.{some}
use Prim.Native.Nat.{ℕ, ◌≤◌, ◌<◌}
use native.Mathlib.Omega.{arith}
use lib.IntN.{ℤ, pos, nat_abs}
use lib.ListN.{length, set, length-set}
use lib.Seq.{get_or-set_same, get_or-set_other}
use mir.Facts.{to_z-of_z}
use mir.Syntax.{w16, w64}
use mir.Val.{SFits, to_z, of_z}
use Rattle.groundwork.proofs.Truth.{never_both}
use Rattle.forms.proofs.Kept.{small_fits}
use Rattle.groundwork.proofs.Stretches.{replaced}
use Rattle.theory.specs.Lists.{is_some}
use Rattle.theory.specs.Text.{Bytes, integer}
use Rattle.theory.specs.Faults.{is_claim_number}
use Rattle.theory.proofs.Reading.Spelling.{integer_within}
use Rattle.numbers.specs.Numbers.{option_of}
use Rattle.forms.proofs.Results.{kept}
use Rattle.tables.specs.declared.Fault.{Fault}
use Rattle.tables.specs.declared.Fault.TheVariants.{Number}
use Rattle.tables.proofs.Outcomes.{none_refused}
use Rattle.declarations.specs.Fields.{FieldC}

module _ (field : Bytes) (read : Option ℤ) (is : option_of read ≡ integer 9999 field) where
  module _ (z : ℤ) (found : read ≡ Some z) where
    reads : integer 9999 field ≡ some z
    reads = sym is ∙ ap option_of found

    small : nat_abs z ≤ 9999
    small = integer_within 9999 field z reads

    fits : SFits w16 z
    fits = small_fits w16 z (omega (arith, small))

    -- the number stands as its bits
    whole : kept z ≡ z
    whole = to_z-of_z {w = w64} (small_fits w64 z (omega (arith, small)))

    pub number_fits : SFits w16 (kept z)
    number_fits = rw whole fits

    pub number_read : (index many : ℕ) (row₀ : List ℤ) → index < length row₀ → FieldC index field many row₀ (Ok many) (set row₀ index (to_z w16 (of_z w16 (kept z))))
    unfolding is_some
    number_read index many row₀ inside =
        record {
          answer = rw reads;
          read = λ e. reads ∙ ap some (sym (get_or-set_same row₀ index stored (pos 0) inside ∙ is_z));
          kept = λ i. get_or-set_other row₀ index i stored (pos 0);
          size = length-set row₀ index stored;
          small = λ h i. replaced (λ x. nat_abs x ≤ 9999) row₀ index i stored (pos 0) (rw is_z small) (h i);
        }
      where
        stored : ℤ
        stored = to_z w16 (of_z w16 (kept z))

        is_z : stored ≡ z
        is_z = ap (λ (x : ℤ). to_z w16 (of_z w16 x)) whole ∙ to_z-of_z fits

  pub no_number : (index many : ℕ) (row₀ : List ℤ) (f : Fault) → ◌≡◌ {A = Result ℤ Fault} (Err f) (ok_or read Number) → FieldC index field many row₀ (Err f) row₀
  unfolding is_some
  no_number index many row₀ f refused =
      let (nothing, fault) = none_refused read refused in
      let none : is_claim_number field ≡ false = rw (← is, nothing) in
      record {
        answer = rw (none, fault);
        read = λ e. never_both e none;
        kept = λ i n. refl;
        size = refl;
        small = λ h. h;
      }
