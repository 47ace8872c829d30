-- The promises of import, of every text and buffer: how a text is cut, what the subset is, the outcome, what it tells of the text,
-- and what its lines say of each clause.
use mathlib.Core.Path.{◌≡◌, refl, sym, ◌∙◌, ap, subst}
use mathlib.Core.Bool.{true}
use mathlib.Core.List.{List, [], ◌∷◌, ◌++◌, map-append, flat_map, append_assoc, append-nil}
use Prim.Native.Nat.{◌*◌, ◌≤◌}
use native.Mathlib.Omega.{arith}
use lib.ListN.{length, take, drop}
use lib.Seq.{take_at, drop_at}
use Rattle.groundwork.proofs.Lists.{flat_map_end, all_end}
use Rattle.theory.specs.Lists.{ending, over}
use Rattle.theory.specs.Text.{Bytes, lines_of}
use Rattle.theory.specs.Check.{numbers}
use Rattle.theory.specs.Pages.{Paged, paged}
use Rattle.clause_theory.specs.ClauseTokens.{Mark}
use Rattle.clause_theory.specs.Clauses.{Clause, clause_marks}
use Rattle.clause_theory.specs.Import.{filled, clause_fits, import_of}
use Rattle.clause_theory.specs.Imported.{marks, Writes, SubsetKept, lines_for, Taken, ImportOutcome, imported, unfit, unended, past, full, FillingKept, ImportTells, ImportKept, ImportPromised}
use Rattle.clause_theory.proofs.ClauseLimits.{limits_kept}
use Rattle.clause_theory.proofs.ClauseLines.{lines_kept, atoms_within, lines_of_clauses}
use Rattle.clause_theory.proofs.Cutting.{cut_exactly}
use Rattle.clause_theory.proofs.Fills.{clause_fills}
use Rattle.clause_theory.proofs.Freshness.{fresh_in}
use Rattle.clause_theory.proofs.ImportOutcomes.{written_marks, import_outcome}
use Rattle.clause_theory.proofs.OneOutcome.{only_one_lem, one_outcome_lem}
use Rattle.clause_theory.proofs.PlainTexts.{plain, plain_writes}
use Rattle.clause_theory.proofs.RoomEnough.{room_enough}
use Rattle.clause_theory.proofs.SpelledMarks.{clauses_marks, marks_clauses}
use Rattle.clause_theory.proofs.SpelledTokens.{front_spelled}

-- ---- clauses

pub subset_kept : (clauses : List Clause) → SubsetKept clauses
subset_kept clauses =
    let ms = flat_map clause_marks clauses in
    record { writable = (λ found. let w = found.1 in marks_clauses clauses (front_spelled w.cut ms [] (w.are ∙ sym (append-nil ms))), λ spelled. (plain ms, plain_writes clauses (clauses_marks clauses spelled))) }

pub filling_kept : (c : Clause) → FillingKept c
filling_kept c = record { fills = clause_fills c; fresh = fresh_in c }

-- ---- what the outcome tells

module _ (text buffer : Bytes) where
  none_refused_lem : {a : Paged} → ImportOutcome text buffer a → (clauses : List Clause) → Writes text clauses → a.returned.number ≡ 25 → ⊥
  none_refused_lem (imported others is taken) clauses writes e = omega arith
  none_refused_lem (unfit before after t is begins none taken) clauses writes e =
      none (record {
        text = text;
        clauses = clauses;
        writes = writes;
        rest = marks after;
        is = append_assoc (marks before) (t.mark ∷ []) (marks after) ∙ sym (map-append (λ u. u.mark) before (t ∷ after)) ∙ ap marks (sym ((cut_exactly text (before ++ t ∷ after)).1 is)) ∙ written_marks writes;
      })
  none_refused_lem (unended tokens cut begins none taken) clauses writes e = none clauses writes
  none_refused_lem (past tokens earlier c left cut is taken fits) clauses writes e = omega arith
  none_refused_lem (full tokens earlier c left cut is taken fits room) clauses writes e = omega arith

  succeeded : {a : Paged} → ImportOutcome text buffer a → a.returned.number ≡ 0 → (clauses : List Clause) × Writes text clauses × Taken buffer clauses
  succeeded (imported clauses is taken) e = (clauses, is, taken)
  succeeded (unfit before after t is begins none taken) e = absurd (omega arith)
  succeeded (unended tokens cut begins none taken) e = absurd (omega arith)
  succeeded (past tokens earlier c left cut is taken fits) e = absurd (omega arith)
  succeeded (full tokens earlier c left cut is taken fits room) e = absurd (omega arith)

  -- the answer where the text writes clauses that are taken
  answered : (clauses : List Clause) → Writes text clauses → Taken buffer clauses → paged (numbers 0 (length clauses) (length (lines_for clauses)) 0) (over (lines_for clauses) buffer) ≡ import_of text buffer
  answered clauses is taken = one_outcome_lem text buffer (imported clauses is taken) (import_outcome text buffer)

  import_tells : (clauses : List Clause) → Writes text clauses → Taken buffer clauses → ImportTells text buffer clauses
  import_tells clauses is taken =
      let size = length (lines_for clauses) in
      let answer = answered clauses is taken in
      let front = ap (λ (a : Paged). take size a.page) (sym answer) ∙ take_at (lines_for clauses) (drop size buffer) size refl in
      record {
        counts = ap (λ (a : Paged). a.returned) (sym answer);
        lines = ap lines_of front ∙ lines_of_clauses clauses taken.fit;
        each = λ c m. lines_kept (filled c) (atoms_within (filled c) (taken.fit c m));
      }

  unchanged : {a : Paged} → ImportOutcome text buffer a → (a.returned.number ≡ 0 → ⊥) → a.page ≡ buffer
  unchanged (imported clauses is taken) fails = absurd (fails refl)
  unchanged (unfit before after t is begins none taken) fails = refl
  unchanged (unended tokens cut begins none taken) fails = refl
  unchanged (past tokens earlier c left cut is taken fits) fails = refl
  unchanged (full tokens earlier c left cut is taken fits room) fails = refl

  rest : {a : Paged} → ImportOutcome text buffer a → drop a.returned.rule a.page ≡ drop a.returned.rule buffer
  rest (imported clauses is taken) = drop_at (lines_for clauses) (drop (length (lines_for clauses)) buffer) (length (lines_for clauses)) refl
  rest (unfit before after t is begins none taken) = refl
  rest (unended tokens cut begins none taken) = refl
  rest (past tokens earlier c left cut is taken fits) = refl
  rest (full tokens earlier c left cut is taken fits room) = refl

  enough : {a : Paged} → ImportOutcome text buffer a → 2 * length text ≤ length buffer → a.returned.number ≡ 27 → ⊥
  enough (imported clauses is taken) large e = omega arith
  enough (unfit before after t is begins none taken) large e = omega arith
  enough (unended tokens cut begins none taken) large e = omega arith
  enough (past tokens earlier c left cut is taken fits) large e = omega arith
  enough (full tokens earlier c left cut is taken fits room) large e =
      let whole : marks tokens ≡ flat_map clause_marks (ending c earlier) ++ left =
      is ∙ sym (append_assoc (flat_map clause_marks earlier) (clause_marks c) left) ∙ ap (λ (ms : List Mark). ms ++ left) (sym (flat_map_end clause_marks earlier c)) in
      omega (arith, room, room_enough cut (ending c earlier) left whole (all_end (λ d. clause_fits (filled d) ≡ true) earlier c taken.fit fits))

pub import_kept : (text buffer : Bytes) → ImportKept text buffer
import_kept text buffer =
    let o = import_outcome text buffer in
    record {
      outcome = o;
      one_outcome = λ a other. one_outcome_lem text buffer other o;
      none_refused = none_refused_lem text buffer o;
      succeeds = (succeeded text buffer o, λ found. ap (λ (a : Paged). a.returned.number) (sym (answered text buffer found.0 found.1 found.2)));
      only_one = λ clauses others is other. only_one_lem clauses others (sym (written_marks is) ∙ written_marks other);
      tells = λ zero clauses is.
          let found = succeeded text buffer o zero in
          import_tells text buffer clauses is (subst (Taken buffer) (only_one_lem found.0 clauses (sym (written_marks found.1) ∙ written_marks is)) found.2);
      unchanged = unchanged text buffer o;
      rest = rest text buffer o;
      enough = enough text buffer o;
    }

pub import_promised : ImportPromised
import_promised = record { cutting = cut_exactly; subset = subset_kept; limits = limits_kept; filling = filling_kept; lines = lines_kept; each = import_kept }
