-- What std finds behind a place, as the first place at or after it.
use mathlib.Core.Path.{◌≡◌, refl, sym, ◌∙◌, ap}
use mathlib.Core.Bool.{Bool, true, false, cond}
use mathlib.Core.List.{[], ◌∷◌}
use Prim.Native.Nat.{ℕ, zero, suc, ◌+◌, ◌-◌, ◌≤◌, ◌<◌}
use native.Mathlib.Omega.{arith}
use lib.Dec.{eqb}
use lib.ListN.{length, get_or, take, drop}
use lib.Seq.{take_all, take-take}
use Rattle.std.specs.Prelude.{Some, None, position}
use Rattle.std.specs.List.{position_or_len, count_by}
use Rattle.std.proofs.lemmas.Grind.{common_steps}
use Rattle.std.proofs.lemmas.List.Quantifiers.{position-Some}
use Rattle.std.proofs.lemmas.List.Sums.{fails_before_first, sum_by-cons}
use Rattle.groundwork.proofs.Truth.{by_truth, eqb-equal}
use Rattle.theory.specs.Lists.{every}
use Rattle.theory.specs.Text.{Bytes}
use Rattle.theory.proofs.Reading.Every.{every_cons, every_append}
use Rattle.theory.proofs.Reading.Separators.{is_free}
use Rattle.text.specs.Scans.{part, Finds}
use Rattle.text.proofs.Parts.{part_length, part_at, part_join}

none_before : (p : ℕ → Bool) (xs : Bytes) → position p xs ≡ None → length xs ≤ position_or_len p xs
none_before p xs e = grind (arith, common_steps)

-- a byte that is counted nowhere stands nowhere
uncounted : (wanted : ℕ) (xs : Bytes) → count_by (λ b. eqb b wanted) xs ≡ 0 → is_free wanted xs ≡ true
unfolding every
uncounted wanted [] none = refl
uncounted wanted (b ∷ xs) none =
    let more : cond (eqb b wanted) 1 0 + count_by (λ c. eqb c wanted) xs ≡ 0 = sym (sum_by-cons (λ c. cond (eqb c wanted) 1 0) b xs) ∙ none in
    by_truth (λ (same : Bool). cond same 1 0 + count_by (λ c. eqb c wanted) xs ≡ 0 → is_free wanted (b ∷ xs) ≡ true) (eqb b wanted)
    (λ _ some. absurd (omega arith))
    (λ other rest. every_cons _ b xs (simp other) (uncounted wanted xs (omega arith)))
    more

module _ (wanted : ℕ) where
  absent : (xs : Bytes) (n : ℕ) → ((k : ℕ) → k < n → eqb (get_or xs k 0) wanted ≡ false) → is_free wanted (take n xs) ≡ true
  unfolding every
  absent xs zero none = refl
  absent [] (suc n) none = refl
  absent (b ∷ xs) (suc n) none = every_cons _ b (take n xs) (simp (none 0 (omega arith))) (absent xs n (λ k low. none (suc k) (omega arith)))

  module _ (s : Bytes) where
    free_join : (a m e : ℕ) → a ≤ m → m ≤ e → is_free wanted (part s a m) ≡ true → is_free wanted (part s m e) ≡ true → is_free wanted (part s a e) ≡ true
    free_join a m e h k front back = ap (is_free wanted) (part_join s a m e h k) ∙ every_append _ (part s a m) (part s m e) front back

    -- what was passed is free of the byte
    module _ (from at : ℕ) (low : from ≤ at) (free : is_free wanted (part s from at) ≡ true) where
      pub block_passed : at + 32 ≤ length s → count_by (λ b. eqb b wanted) (part s at (at + 32)) ≡ 0 → is_free wanted (part s from (at + 32)) ≡ true
      block_passed room none = free_join from at (at + 32) low (omega arith) free (uncounted wanted (part s at (at + 32)) none)

      pub found_after : (r : ℕ) → Finds s wanted at r → Finds s wanted from r
      found_after r f = record { low = omega (arith, f.low); high = f.high; free = free_join from at r low f.low free f.free; found = f.found }

    -- what std finds among the bytes up to a place
    module _ (from end : ℕ) (within : from ≤ end) (high : end ≤ length s) where
      pub found_near : (k : ℕ) → position (λ b. eqb b wanted) (part s from end) ≡ Some k → Finds s wanted from (from + k)
      found_near k is =
          let first = position-Some {X = ℕ} (λ b. eqb b wanted) (part s from end) k 0 is in
          let width : from + k - from ≡ k = omega arith in
          let inside : k < end - from = omega (arith, first.0, part_length s from (end - from) end refl high) in
          record {
            low = omega arith;
            high = omega arith;
            free = rw (width, sym (take-take k (end - from) (drop from s) (omega arith))) (absent (part s from end) k first.2);
            found = λ _. sym (part_at s from end k inside) ∙ eqb-equal _ wanted first.1;
          }

      pub none_near : position (λ b. eqb b wanted) (part s from end) ≡ None → is_free wanted (part s from end) ≡ true
      none_near is =
          let past = none_before (λ b. eqb b wanted) (part s from end) is in
          let whole : take (length (part s from end)) (part s from end) ≡ part s from end = take_all (length (part s from end)) (part s from end) (omega arith) in
          rw whole at (absent (part s from end) (length (part s from end)) (λ k low. fails_before_first {X = ℕ} (λ b. eqb b wanted) (part s from end) k 0 (omega arith)))

    pub none_left : (from : ℕ) → from ≤ length s → position (λ b. eqb b wanted) (part s from (length s)) ≡ None → Finds s wanted from (length s)
    none_left from within is = record { low = within; high = omega arith; free = none_near from (length s) within (omega arith) is; found = λ past. absurd (omega arith) }
