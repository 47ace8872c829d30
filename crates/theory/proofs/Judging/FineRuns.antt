-- Lines without a fault and without `E`, as a run: the pack that they write is reached by steps, and they are its lines.
use mathlib.Core.Path.{◌≡◌, refl, subst, sym}
use mathlib.Core.Bool.{Bool, true, false}
use mathlib.Core.List.Memᴰ
use mathlib.Core.List.{List, [], ◌∷◌, map}
use Prim.Native.Nat.{◌≤◌}
use lib.ListN.{length}
use Rattle.groundwork.proofs.Lists.{all_cons}
use Rattle.groundwork.proofs.Truth.{never_both}
use Rattle.theory.specs.Lists.{◌∈◌}
use Rattle.theory.specs.Text.{Bytes, fields_of}
use Rattle.theory.specs.Packs.{Pack, empty_pack, line_limit, line, open_lines}
use Rattle.theory.specs.Written.{Written, nothing, write, write_all}
use Rattle.theory.specs.Outcomes.{AllFine}
use Rattle.theory.proofs.Reading.Separators.{joined_of_parts}
use Rattle.theory.proofs.Judging.Steps.{Run, stay, go}
use Rattle.theory.proofs.Judging.Reached.{Reached, run_reaches}
use Rattle.theory.proofs.Judging.Runs.{run_lines, empty_reached}
use Rattle.theory.proofs.Judging.LineReading.{as_whole, before, after, Fine, step, end, fine_from_fault, short_from_fault}
use Rattle.theory.proofs.Judging.JudgedRuns.{Few, no_rule_few, few_after}

record FineRun (p : Pack) (ls : List Bytes) (q : Pack) : Type 0 where
  fields : List (List Bytes)
  run : Run p fields q
  are : ls ≡ map line fields
  short : (l : Bytes) → l ∈ ls → length l ≤ line_limit
  few : Few q

ended_stays : (w : Written) (ls : List Bytes) → w.ended ≡ true → (write_all w ls).ended ≡ true
unfolding write_all write
ended_stays w [] e = e
ended_stays w (l ∷ ls) e = ended_stays (write w l) ls (rw e)

-- one line more in front
run_first : (refuses : Bool) (p : Pack) (l : Bytes) (ls fields : List Bytes) (w : Written) → Few p → Fine refuses p fields w → line fields ≡ l → length l ≤ line_limit → AllFine (as_whole refuses) w ls → (write_all w ls).ended ≡ false
    → ((q : Pack) → Few q → AllFine (as_whole refuses) (before q) ls → (write_all (before q) ls).ended ≡ false → FineRun q ls (write_all (before q) ls).pack) → FineRun p (l ∷ ls) (write_all w ls).pack
run_first refuses p l ls fields w few (step {q = q} s) is short fine e ih =
    let rest = ih q (few_after s few) fine e in
    record {
      fields = fields ∷ rest.fields;
      run = go s rest.run;
      are = rw (← is, ← rest.are);
      short = all_cons (λ x. length x ≤ line_limit) short rest.short;
      few = rest.few;
    }
run_first refuses p l ls fields w few (end c h) is short fine e ih = never_both (ended_stays (after p) ls refl) e

fine_run : (refuses : Bool) (p : Pack) (ls : List Bytes) → Few p → AllFine (as_whole refuses) (before p) ls → (write_all (before p) ls).ended ≡ false → FineRun p ls (write_all (before p) ls).pack
unfolding write_all
fine_run refuses p [] few fine e = record { fields = []; run = stay; are = refl; short = λ l m. absurd (Memᴰ.not-nil m); few = few }
fine_run refuses p (l ∷ ls) few fine e =
    run_first refuses p l ls (fields_of l) (write (before p) l) few (fine_from_fault refuses p l few fine.0) (joined_of_parts 44 l) (short_from_fault (as_whole refuses) (before p) l fine.0) fine.1 e (λ q. fine_run refuses q ls)

-- what is known of the pack that such lines write
pub record ReachedShort (p : Pack) : Type 0 where
  pub reached : Reached p
  pub short : (fields : List Bytes) → fields ∈ open_lines p → length (line fields) ≤ line_limit
  pub few : Few p

pub reached_short : (refuses : Bool) (ls : List Bytes) → AllFine (as_whole refuses) nothing ls → (write_all nothing ls).ended ≡ false → ReachedShort (write_all nothing ls).pack
unfolding nothing
reached_short refuses ls fine e =
    let found = fine_run refuses empty_pack ls (no_rule_few empty_pack refl) fine e in
    record {
      reached = run_reaches found.run empty_reached;
      short = λ fields m. found.short (line fields) (subst (λ (all : List Bytes). line fields ∈ all) (sym found.are) (Memᴰ.map line (subst (λ (all : List (List Bytes)). fields ∈ all) (sym (run_lines found.fields _ found.run)) m)));
      few = found.few;
    }
