-- Fields `0` that stand one after another, by the first of them.
use mathlib.Core.Path.{◌≡◌, sym, ◌∙◌, ap}
use mathlib.Core.List.{[], ◌∷◌}
use Prim.Native.Nat.{ℕ, suc, ◌+◌, ◌-◌, ◌*◌, ◌<◌}
use native.Mathlib.Omega.{arith}
use lib.ListN.{get_or, drop}
use lib.Seq.{drop_at, drop-cons}
use Rattle.theory.specs.Text.{Bytes}
use Rattle.text.specs.Scans.{part, Finds}
use Rattle.text.proofs.Parts.{part_length, part_at, free_none, free_more, part_join}
use Rattle.numbers.specs.Zeros.{zero_fields, Zeros}

module _ {s : Bytes} {from r : ℕ} (zeros : Zeros s from (suc r)) where
  byte : (k : ℕ) → k < 2 * suc r → get_or s (from + k) 0 ≡ get_or (zero_fields (suc r)) k 0
  byte k less = sym (part_at s from (from + 2 * suc r) k (omega arith)) ∙ ap (λ (bs : Bytes). get_or bs k 0) zeros.stand

  digit : get_or s from 0 ≡ 48
  unfolding zero_fields
  digit = let here : from ≡ from + 0 = omega arith in ap (λ (n : ℕ). get_or s n 0) here ∙ byte 0 (omega arith)

  -- the first field ends at the comma after it
  pub zeros_first : Finds s 44 from (from + 1) × (part s from (from + 1) ≡ 48 ∷ [])
  unfolding zero_fields
  zeros_first = (
    record {
      low = omega arith;
      high = omega (arith, zeros.high);
      free = free_more s 44 from from (omega arith) (omega (arith, zeros.high)) (free_none s 44 from) (λ e. omega (arith, digit));
      found = λ inside. byte 1 (omega arith);
    },
    (let one : from + 1 - from ≡ 1 = omega arith in rw (one, drop-cons s from 0 (omega (arith, zeros.high)), digit)),
  )

  pub zeros_rest : Zeros s (from + 2) r
  unfolding zero_fields
  zeros_rest =
      let end : from + 2 + 2 * r ≡ from + 2 * suc r = omega arith in
      let front = part_length s from 2 (from + 2) (omega arith) (omega (arith, zeros.high)) in
      let cut = part_join s from (from + 2) (from + 2 * suc r) (omega arith) (omega arith) in
      record {
        high = omega (arith, zeros.high);
        stand = rw end (sym (ap (drop 2) cut ∙ drop_at (part s from (from + 2)) (part s (from + 2) (from + 2 * suc r)) 2 front) ∙ ap (drop 2) zeros.stand);
      }
