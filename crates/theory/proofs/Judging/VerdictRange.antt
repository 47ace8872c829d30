-- How large the numbers of check's answers are: each has its room in the C word.
use mathlib.Core.Path.{◌≡◌, refl, sym, ap}
use mathlib.Core.Bool.{Bool, true, cond}
use mathlib.Core.List.Memᴰ
use mathlib.Core.List.{List, [], ◌∷◌}
use Prim.Native.Nat.{ℕ, suc, ◌*◌, ◌≤◌}
use native.Mathlib.Omega.{arith}
use lib.Dec.{eqb}
use lib.IntN.{ℤ}
use lib.ListN.{length, length-append}
use Rattle.groundwork.proofs.Truth.{by_truth}
use Rattle.theory.specs.Lists.{◌∈◌}
use Rattle.theory.specs.Text.{Bytes, on_first, lines_of}
use Rattle.theory.specs.Packs.{Rule, claim_limit, atom_key}
use Rattle.theory.specs.Written.{nothing, write_all, pack_of}
use Rattle.theory.specs.Check.{multiplier_lines, Checked, check_of}
use Rattle.theory.specs.Words.{CheckRoom}
use Rattle.theory.specs.Faults.{whole, last_rule}
use Rattle.theory.specs.Outcomes.{FirstFault, pack_before, Outcome, accepted, short_area, long_text, unfinished, no_end, faulty, unjustified}
use Rattle.theory.proofs.Judging.Acceptance.{AcceptedPack, checked_pack}
use Rattle.theory.proofs.Judging.FaultNumbers.{fault_small, past_place}
use Rattle.theory.proofs.Judging.FineRuns.{reached_short}

-- ---- lines

on_first_count : (b : ℕ) (ls : List Bytes) → length (on_first b ls) ≤ suc (length ls)
on_first_count b [] = omega arith
on_first_count b (l ∷ ls) = omega arith

-- a line takes at least its byte 10, or is the last
lines_count : (text : Bytes) → length (lines_of text) ≤ length text
unfolding lines_of
lines_count [] = omega arith
lines_count (b ∷ bs) =
    by_truth (λ (c : Bool). length (cond c ([] ∷ lines_of bs) (on_first b (lines_of bs))) ≤ suc (length bs)) (eqb b 10)
    (λ e. omega (arith, lines_count bs)) (λ e. omega (arith, lines_count bs, on_first_count b (lines_of bs)))

fault_line : {text : Bytes} {n line : ℕ} → FirstFault text n line → line ≤ length text
fault_line {text} first =
    omega (arith, first.place, ap length first.are, length-append first.before (first.faulty ∷ first.after), lines_count text)

-- ---- lines of multipliers

multiplier_lines_few : (rs : List Rule) → ((r : Rule) → r ∈ rs → length r.multipliers ≤ claim_limit) → multiplier_lines rs ≤ claim_limit * length rs
unfolding multiplier_lines
multiplier_lines_few [] few = omega arith
multiplier_lines_few (r ∷ rs) few = omega (arith, few r (Memᴰ.head refl), multiplier_lines_few rs (λ s m. few s (Memᴰ.tail m)))

accepted_few : (text : Bytes) → AcceptedPack text → (length (pack_of text).rules ≤ 64) × (multiplier_lines (pack_of text).rules ≤ 1024)
accepted_few text a =
    let p = pack_of text in
    let few = multiplier_lines_few p.rules (λ r m. omega (arith, (a.fits.formed.rules r m).every_claim, a.fits.counts.claims (atom_key r.head))) in
    (a.fits.counts.rules, omega (arith, few, a.fits.counts.rules))

-- ---- each outcome

module _ (text : Bytes) (area : List ℤ) where
  pub outcome_room : {c : Checked} → Outcome text area c → c ≡ check_of text area → CheckRoom c.returned
  outcome_room (accepted j fine ends) is =
      let few = accepted_few text (checked_pack text area (ap (λ (c : Checked). c.returned.number) (sym is))) in
      record { number = omega arith; line = omega (arith, j.short, lines_count text); rule = omega (arith, few.0); claim = omega (arith, few.1) }
  outcome_room (short_area h) is = record { number = omega arith; line = omega arith; rule = omega arith; claim = omega arith }
  outcome_room (long_text h k) is = record { number = omega arith; line = omega arith; rule = omega arith; claim = omega arith }
  outcome_room (unfinished h k e) is = record { number = omega arith; line = omega arith; rule = omega arith; claim = omega arith }
  outcome_room (no_end j fine e) is = record { number = omega arith; line = omega arith; rule = omega arith; claim = omega arith }
  outcome_room (faulty j first other) is =
      record { number = omega (arith, first.has, fault_small whole (write_all nothing first.before) first.faulty); line = omega (arith, j.short, fault_line first); rule = omega arith; claim = omega arith }
  outcome_room (unjustified j u) is =
      let first = u.first in
      let place = past_place whole _ first.faulty 13 first.has (λ h. omega arith) (λ h. omega arith) in
      let so = (reached_short true first.before first.fine place.unended).reached in
      record {
        number = omega arith;
        line = omega (arith, j.short, fault_line first);
        rule = omega (arith, u.is_rule, so.few_rules);
        claim = omega (arith, u.high, so.few_claims (atom_key (last_rule (pack_before first)).head));
      }
