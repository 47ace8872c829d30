-- A field of an `M` line: a multiplier, and its claim's numbers taken from the weights.
use mathlib.Core.Path.{◌≡◌, refl, sym, ◌∙◌, ap}
use Rattle.tables.specs.Tables.{slot_at}
use Rattle.std.specs.Prelude.{Option, Some, None, Ok, Err}
use mathlib.Core.List.{List, [], ◌∷◌}
use mathlib.Core.Option.{some}
use Prim.Native.Nat.{ℕ, ◌+◌, ◌*◌, ◌≤◌}
use native.Mathlib.Omega.{arith}
use lib.IntN.{ℤ, pos, nat_abs, ◌-ℤ◌, ◌*ℤ◌}
use lib.ListN.{get_or}
use mir.Syntax.{w32}
use mir.Val.{SFits, to_z}
use Rattle.std.proofs.lemmas.Int.{to_z_pos}
use Rattle.groundwork.proofs.Truth.{never_both}
use Rattle.groundwork.proofs.Difference.{diff_eq, to-diff, by_diff₂}
use Rattle.theory.specs.Lists.{is_some}
use Rattle.theory.specs.Text.{Bytes, natural, is_decimal, value_after}
use Rattle.theory.proofs.Reading.Spelling.{natural_within}
use Rattle.numbers.specs.Numbers.{option_of}
use Rattle.tables.specs.declared.Slot.{Slot}
use Rattle.tables.specs.declared.Fault.TheVariants.{Number}
use Rattle.certificates.specs.Weights.{Weighs}
use Rattle.certificates.specs.Multipliers.{FieldM}
use Rattle.forms.proofs.Kept.{small_fits}

none_taken : (w x : ℤ) → w ≡ w -ℤ pos 0 *ℤ x
none_taken = by_diff₂ _ λ p n q m. simp to-diff (diff_eq _ _ _ _ (omega arith))

nothing_taken : (claims : List ℤ) (place atom : ℕ) (weights : List ℤ) → Weighs (pos 0) claims place atom weights weights
nothing_taken claims place atom weights =
    record {
      size = refl;
      weight = λ j h. none_taken (get_or weights (atom * 9 + j) (pos 0)) (get_or claims (place + j) (pos 0));
      below = λ i h. refl;
      above = λ i h. refl;
    }

module _ (field : Bytes) (read : Option ℕ) (is : option_of read ≡ natural 9999 field) where
  module _ (m : ℕ) (found : read ≡ Some m) where
    reads : natural 9999 field ≡ some m
    reads = sym is ∙ ap option_of found

    multiplier_small : m ≤ 9999
    multiplier_small = natural_within 9999 field m reads

    pub multiplier_fits : SFits w32 (pos m)
    multiplier_fits = small_fits w32 (pos m) (omega (arith, multiplier_small))

    -- as the code has it with a sign
    whole : to_z w32 m ≡ pos m
    whole = to_z_pos w32 m (omega (arith, multiplier_small))

    pub multiplier_magnitude : nat_abs (to_z w32 m) ≤ 9999
    multiplier_magnitude = rw whole multiplier_small

  module _ (index many : ℕ) (claims : List ℤ) (slots : List Slot) (weights₀ : List ℤ) where
    pub claim_weighed : (m : ℕ) (weights : List ℤ) → read ≡ Some m → Weighs (to_z w32 m) claims (slot_at slots index).place ((slot_at slots index).subgoal + 1) weights₀ weights → FieldM index field many claims slots weights₀ (Ok many) weights
    unfolding is_some
    claim_weighed m weights found weighs =
        record {
          answer = rw (reads m found);
          weighed = λ h. (m, reads m found, rw (whole m found) at weighs);
          size = weighs.size;
        }

    pub nothing_weighed : (m : ℕ) → read ≡ Some m → m ≡ 0 → FieldM index field many claims slots weights₀ (Ok many) weights₀
    unfolding is_some
    nothing_weighed m found zero =
        record {
          answer = rw (reads m found);
          weighed = λ h. (m, reads m found, rw zero (nothing_taken claims (slot_at slots index).place ((slot_at slots index).subgoal + 1) weights₀));
          size = refl;
        }

    pub no_multiplier_lem : read ≡ None → FieldM index field many claims slots weights₀ (Err Number) weights₀
    unfolding is_some
    no_multiplier_lem found = record { answer = rw (← is, found); weighed = λ h. never_both h (rw (← is, found)); size = refl }

-- a field `0` that is not read takes nothing either
pub zero_weighed : {index many : ℕ} {claims : List ℤ} {slots : List Slot} {weights : List ℤ} {field : Bytes} → field ≡ 48 ∷ [] → FieldM index field many claims slots weights (Ok many) weights
unfolding natural is_decimal value_after
zero_weighed {index} {many} {claims} {slots} {weights} {field} is = nothing_weighed field (Some 0) (sym (ap (natural 9999) is)) index many claims slots weights 0 refl refl
