-- The first line of a text, and the lines behind it.
use mathlib.Core.Path.{◌≡◌, refl, sym, ◌∙◌, ap}
use mathlib.Core.List.{[], ◌∷◌}
use Prim.Native.Nat.{ℕ, ◌+◌, ◌-◌, ◌<◌, min}
use native.Mathlib.Decide.{dec_lt}
use native.Mathlib.Omega.{arith}
use lib.ListN.{length, take, drop, drop_of_length-le}
use Rattle.theory.specs.Text.{Bytes, lines_of}
use Rattle.text.specs.Scans.{part, Finds}
use Rattle.text.proofs.Parts.{part_rest}
use Rattle.text.proofs.Cuts.{lines_step, lines_done}

module _ (s : Bytes) where
  pub no_line : length s ≡ 0 → lines_of s ≡ []
  no_line none = lines_done s 0 (omega arith)

  pub first_line : {end after : ℕ} → 0 < length s → Finds s 10 0 end → after ≡ min (length s) (end + 1) → lines_of s ≡ take end s ∷ lines_of (part s after (length s))
  first_line {end} {after} some found place =
      let width : end - 0 ≡ end = omega arith in
      rw width at (lines_step s 0 end some found) ∙ ap (λ (rest : Bytes). take end s ∷ lines_of rest) (by (dec_lt end (length s)) ∙ sym (part_rest s after))
    where
      by : Dec (end < length s) → drop (end + 1) s ≡ drop after s
      by (yes more) = let same : after ≡ end + 1 = omega arith in rw same refl
      by (no all) = drop_of_length-le s (omega arith) ∙ sym (drop_of_length-le s (omega (arith, found.high)))
