-- Where the first word from a place on ends: there is only one such place.
use mathlib.Core.Path.{◌≡◌, sym, ◌∙◌, ap}
use mathlib.Core.Bool.{Bool, true}
use Prim.Native.Nat.{ℕ, suc, ◌+◌, ◌-◌, ◌≤◌, ◌<◌}
use native.Mathlib.Decide.{dec_lt}
use native.Mathlib.Omega.{arith}
use lib.ListN.{length, get_or}
use Rattle.groundwork.proofs.Truth.{never_both}
use Rattle.groundwork.proofs.Lists.{get_d_member}
use Rattle.theory.specs.Lists.{every}
use Rattle.theory.specs.Text.{Bytes, is_name_byte}
use Rattle.theory.proofs.Reading.Every.{every_member}
use Rattle.text.specs.Scans.{part}
use Rattle.text.proofs.Parts.{part_length, part_at, drop_more}
use Rattle.words.specs.Classes.{EndsWord}

-- a test that every byte of a part passes, at a place of it
every_place : (s : Bytes) (a e : ℕ) → e ≤ length s → (test : ℕ → Bool) → every test (part s a e) ≡ true → (i : ℕ) → a ≤ i → i < e → test (get_or s i 0) ≡ true
every_place s a e high test all i h k =
    let place : a + (i - a) ≡ i = omega arith in
    let size = part_length s a (e - a) e (omega arith) high in
    ap test (ap (λ (n : ℕ). get_or s n 0) (sym place) ∙ sym (part_at s a e (i - a) (omega arith)))
    ∙ every_member test all (get_d_member (part s a e) (i - a) 0 (omega arith))

-- ---- there is only one

module _ {s : Bytes} {from : ℕ} where
  not_before : {e f : ℕ} → EndsWord s from e → EndsWord s from f → e < f → ⊥
  not_before {e} {f} w v h = never_both (every_place s from f v.high is_name_byte v.named e w.low h) (w.ended (omega (arith, v.high)))

  pub word_end_once : {e f : ℕ} → EndsWord s from e → EndsWord s from f → e ≡ f
  word_end_once {e} {f} w v = by (dec_lt e f) (dec_lt f e)
    where
      by : Dec (e < f) → Dec (f < e) → e ≡ f
      by (yes h) k = absurd (not_before w v h)
      by (no h) (yes k) = absurd (not_before v w k)
      by (no h) (no k) = omega arith

  -- one byte more in front
  pub word_from : {e : ℕ} → from < length s → is_name_byte (get_or s from 0) ≡ true → EndsWord s (from + 1) e → EndsWord s from e
  unfolding every
  word_from {e} inside named w =
      let count : e - from ≡ suc (e - (from + 1)) = omega (arith, w.low) in
      record { low = omega (arith, w.low); high = w.high; named = rw (count, drop_more s from inside, named) w.named; ended = w.ended }
