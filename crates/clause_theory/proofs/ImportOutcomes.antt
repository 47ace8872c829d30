-- What import makes of a text, token by token: after each token stand whole clauses that are taken and marks that lead to
-- the reader's state, and at the end one of the outcomes.
use mathlib.Core.Path.{◌≡◌, refl, sym, ◌∙◌, ap, subst}
use mathlib.Core.Logic.{⊎_elim}
use mathlib.Core.Bool.{Bool, true, false, cond}
use mathlib.Core.List.Memᴰ
use mathlib.Core.List.{List, [], ◌∷◌, ◌++◌, map-append, flat_map, append_assoc, append-nil, append-eq-nil_iff, nil≢cons}
use Prim.Native.Nat.{ℕ, suc, ◌≤◌, ◌+◌}
use native.Mathlib.Numerals.{add-one}
use native.Mathlib.Omega.{arith}
use lib.Dec.{leb}
use lib.ListN.{length, length-append}
use Rattle.groundwork.proofs.Lists.{length_end, flat_map_append, flat_map_end, all_end}
use Rattle.groundwork.proofs.Truth.{by_truth, never_both, leb-le, leb-gt}
use Rattle.theory.specs.Lists.{◌∈◌, ending, over}
use Rattle.theory.specs.Text.{Bytes}
use Rattle.theory.specs.Packs.{text_of}
use Rattle.theory.specs.Check.{numbers}
use Rattle.theory.specs.Pages.{Paged, paged}
use Rattle.clause_theory.specs.ClauseTokens.{Mark, Token, tokens_of}
use Rattle.clause_theory.specs.Cutting.{Cut}
use Rattle.clause_theory.specs.Clauses.{Clause, clause_marks, State, begin, is_begin, Step, refuses, goes, ends, step}
use Rattle.clause_theory.specs.Import.{filled, clause_lines, clause_fits, Importing, refused, import_from, import_of}
use Rattle.clause_theory.specs.Imported.{marks, Writes, Begins, lines_for, Taken, AllTaken, ImportOutcome, imported, unfit, unended, past, full, refusal}
use Rattle.clause_theory.proofs.Cutting.{text_cut, cut_exactly}
use Rattle.clause_theory.proofs.Leading.{Leads, leads_none, leads_more, leads_runs, none_read, some_read, completed, left_some, left_unrefused, Ways, fewer, further, ways}
use Rattle.clause_theory.proofs.PlainTexts.{plain, plain_writes}
use Rattle.clause_theory.proofs.Running.{runs_end, runs_sound}
use Rattle.clause_theory.proofs.SpelledTokens.{front_spelled}
use Rattle.theory.proofs.Reading.Every.{every_member}
use Rattle.clause_theory.proofs.SpelledMarks.{is_spelled, AllSpelled}

-- the marks of a text that writes clauses
pub written_marks : {text : Bytes} {clauses : List Clause} → Writes text clauses → marks (tokens_of text) ≡ flat_map clause_marks clauses
written_marks {text} w = ap marks ((cut_exactly text w.tokens).1 w.cut) ∙ w.are

-- ---- clauses that are taken

lines_more : (earlier : List Clause) (c : Clause) → lines_for (ending c earlier) ≡ lines_for earlier ++ text_of (clause_lines (filled c))
unfolding lines_for
lines_more earlier c = flat_map_end (λ d. text_of (clause_lines (filled d))) earlier c

taken_more : {buffer : Bytes} (earlier : List Clause) (c : Clause) → Taken buffer earlier → clause_fits (filled c) ≡ true → length (lines_for (ending c earlier)) ≤ length buffer → Taken buffer (ending c earlier)
taken_more earlier c taken fits room = record { fit = all_end (λ d. clause_fits (filled d) ≡ true) earlier c taken.fit fits; room = room }

pub taken_front : {buffer : Bytes} (clauses later : List Clause) → Taken buffer (clauses ++ later) → Taken buffer clauses
unfolding lines_for
taken_front clauses later taken =
    let text : Clause → Bytes = λ c. text_of (clause_lines (filled c)) in
    record {
      fit = λ c m. taken.fit c (Memᴰ.append_left later m);
      room = omega (arith, taken.room, ap length (flat_map_append text clauses later), length-append (flat_map text clauses) (flat_map text later));
    }

-- ---- how far the text has been read

module _ (buffer : Bytes) where
  record Reading (passed : List Mark) (s : State) (earlier : List Clause) : Type 0 where
    begun : List Mark
    are : passed ≡ flat_map clause_marks earlier ++ begun
    leads : Leads begin begun s
    taken : Taken buffer earlier

  module _ {passed : List Mark} {s : State} {earlier : List Clause} (r : Reading passed s earlier) where
    -- the other ways to read it
    ways_to : (rest more : List Mark) (clauses : List Clause) → passed ++ rest ≡ flat_map clause_marks clauses ++ more → Ways earlier r.begun rest s clauses more
    ways_to rest more clauses is = ways r.leads rest more earlier clauses (ap (λ (ms : List Mark). ms ++ rest) (sym r.are) ∙ is)

    begins : AllSpelled passed → Begins passed
    begins spelled =
        let c = completed s in
        let clauses = ending c.clause earlier in
        let is : passed ++ c.rest ≡ flat_map clause_marks clauses =
        ap (λ (ms : List Mark). ms ++ c.rest) r.are
        ∙ append_assoc (flat_map clause_marks earlier) r.begun c.rest
        ∙ ap (λ (ms : List Mark). flat_map clause_marks earlier ++ ms) (runs_sound (leads_runs r.leads c.runs))
        ∙ sym (flat_map_end clause_marks earlier c.clause) in
        let all : AllSpelled (flat_map clause_marks clauses) =
        λ m n. ⊎_elim (spelled m) (every_member is_spelled c.spelled) (Memᴰ.append_cases passed (subst (λ (ms : List Mark). m ∈ ms) (sym is) n)) in
        record { text = plain (flat_map clause_marks clauses); clauses = clauses; writes = plain_writes clauses all; rest = c.rest; is = is }

    all_taken : AllTaken buffer passed
    all_taken clauses rest is = at (ways_to [] rest clauses (append-nil passed ∙ is))
      where
        at : Ways earlier r.begun [] s clauses rest → Taken buffer clauses
        at (fewer later front left) = taken_front clauses later (subst (Taken buffer) front r.taken)
        at (further c later front left) = absurd (left_some left)

    not_begins : (m : Mark) → step s m ≡ refuses → Begins (ending m passed) → ⊥
    not_begins m refuse b = at (ways_to (m ∷ b.rest) [] b.clauses (sym (append_assoc passed (m ∷ []) b.rest) ∙ b.is ∙ sym (append-nil (flat_map clause_marks b.clauses))))
      where
        at : Ways earlier r.begun (m ∷ b.rest) s b.clauses [] → ⊥
        at (fewer later front left) = nil≢cons (sym ((append-eq-nil_iff {p = flat_map clause_marks later ++ r.begun} {q = m ∷ b.rest}).0 left).1)
        at (further c later front left) = left_unrefused left refuse

    not_written : is_begin s ≡ false → (clauses : List Clause) → passed ≡ flat_map clause_marks clauses → ⊥
    not_written within clauses is = at (ways_to [] [] clauses (append-nil passed ∙ is ∙ sym (append-nil (flat_map clause_marks clauses))))
      where
        at : Ways earlier r.begun [] s clauses [] → ⊥
        at (fewer later front left) = never_both (some_read r.leads ((append-eq-nil_iff {p = flat_map clause_marks later} {q = r.begun}).0 (sym (append-nil (flat_map clause_marks later ++ r.begun)) ∙ left)).1) within
        at (further c later front left) = left_some left

    written : is_begin s ≡ true → passed ≡ flat_map clause_marks earlier
    written e = r.are ∙ ap (λ (ms : List Mark). flat_map clause_marks earlier ++ ms) (none_read r.leads e) ∙ append-nil (flat_map clause_marks earlier)

    -- one mark more
    goes_on : (m : Mark) (next : State) → step s m ≡ goes next → Reading (ending m passed) next earlier
    goes_on m next e = record {
      begun = ending m r.begun;
      are = ap (ending m) r.are ∙ append_assoc (flat_map clause_marks earlier) r.begun (m ∷ []);
      leads = leads_more m r.leads e;
      taken = r.taken;
    }

    ends_with : (m : Mark) (c : Clause) → step s m ≡ ends c → ending m passed ≡ flat_map clause_marks earlier ++ clause_marks c
    ends_with m c e =
        ap (ending m) r.are ∙ append_assoc (flat_map clause_marks earlier) r.begun (m ∷ [])
        ∙ ap (λ (ms : List Mark). flat_map clause_marks earlier ++ ms) (runs_sound (leads_runs r.leads (runs_end e)))

    next_clause : (m : Mark) (c : Clause) → step s m ≡ ends c → Taken buffer (ending c earlier) → Reading (ending m passed) begin (ending c earlier)
    next_clause m c e taken = record {
      begun = [];
      are = ends_with m c e ∙ sym (flat_map_end clause_marks earlier c) ∙ sym (append-nil (flat_map clause_marks (ending c earlier)));
      leads = leads_none;
      taken = taken;
    }

-- ---- the outcome

module _ (text buffer : Bytes) where
  answer : Importing → Paged
  answer i = paged i.returned (over i.text buffer)

  Ends : List Clause → State → List Token → Type 0
  Ends earlier s left = ImportOutcome text buffer (answer (import_from (length text) (length buffer) (length earlier) (lines_for earlier) s left))

  -- where no token is left
  ends_begun : (earlier : List Clause) (s : State) → Reading buffer (marks (tokens_of text)) s earlier → Ends earlier s []
  unfolding Ends answer import_from
  ends_begun earlier s r =
      by_truth (λ b. ImportOutcome text buffer (answer (cond b (record { returned = numbers 0 (length earlier) (length (lines_for earlier)) 0; text = lines_for earlier }) (refused 25 (length text))))) (is_begin s)
      (λ e. imported earlier (record { tokens = tokens_of text; cut = text_cut text; are = written buffer r e }) r.taken)
      (λ e. unended (tokens_of text) (text_cut text) (begins buffer r (front_spelled (text_cut text) (marks (tokens_of text)) [] (sym (append-nil (marks (tokens_of text)))))) (λ clauses writes. not_written buffer r e clauses (written_marks writes)) (all_taken buffer r))

  -- at a token
  module _ (passed left : List Token) (t : Token) (all : tokens_of text ≡ passed ++ t ∷ left) (s : State) (earlier : List Clause) (r : Reading buffer (marks passed) s earlier) where
    passes : marks (ending t passed) ≡ ending t.mark (marks passed)
    passes = map-append (λ u. u.mark) passed (t ∷ [])

    stands : (c : Clause) → step s t.mark ≡ ends c → marks (tokens_of text) ≡ flat_map clause_marks earlier ++ (clause_marks c ++ marks left)
    stands c e =
        ap marks (all ∙ sym (append_assoc passed (t ∷ []) left))
        ∙ map-append (λ u. u.mark) (ending t passed) left
        ∙ ap (λ (ms : List Mark). ms ++ marks left) (passes ∙ ends_with buffer r t.mark c e)
        ∙ append_assoc (flat_map clause_marks earlier) (clause_marks c) (marks left)

    Later : Type 0
    Later = (next : State) (more : List Clause) → Reading buffer (ending t.mark (marks passed)) next more → Ends more next left

    lines_with : Clause → Bytes
    lines_with c = lines_for earlier ++ text_of (clause_lines (filled c))

    -- what becomes of a clause: with its room, and before that with its limits
    with_room : Clause → Bool → Importing
    with_room c b = cond b (import_from (length text) (length buffer) (suc (length earlier)) (lines_with c) begin left) (refused 27 (suc (length earlier)))

    with_limits : Clause → Bool → Importing
    with_limits c b = cond b (with_room c (leb (length (lines_with c)) (length buffer))) (refused 26 (suc (length earlier)))

    ends_clause : (c : Clause) → step s t.mark ≡ ends c → Later → ImportOutcome text buffer (answer (with_limits c (clause_fits (filled c))))
    unfolding Ends answer Later lines_with with_room with_limits
    ends_clause c e later =
        by_truth (λ b. ImportOutcome text buffer (answer (with_limits c b))) (clause_fits (filled c))
        (λ fits. by_truth (λ b. ImportOutcome text buffer (answer (with_room c b))) (leb (length (lines_with c)) (length buffer))
        (λ room.
        let taken = taken_more earlier c r.taken fits (omega (arith, leb-le (length (lines_with c)) (length buffer) room, ap length (lines_more earlier c))) in
        subst (λ (i : Importing). ImportOutcome text buffer (answer i))
        (λ i. import_from (length text) (length buffer) (length_end earlier c i) (lines_more earlier c i) begin left)
        (later begin (ending c earlier) (next_clause buffer r t.mark c e taken)))
        (λ room. numbered 27 (full (tokens_of text) earlier c (marks left) (text_cut text) (stands c e) r.taken fits (omega (arith, leb-gt (length (lines_with c)) (length buffer) room, ap length (lines_more earlier c))))))
        (λ misfit. numbered 26 (past (tokens_of text) earlier c (marks left) (text_cut text) (stands c e) r.taken misfit))
      where
        numbered : (n : ℕ) → ImportOutcome text buffer (refusal n (length earlier + 1) buffer) → ImportOutcome text buffer (refusal n (suc (length earlier)) buffer)
        numbered n = subst (λ (k : ℕ). ImportOutcome text buffer (refusal n k buffer)) (add-one (length earlier))

    ends_token : Later → Ends earlier s (t ∷ left)
    unfolding Ends answer import_from Later lines_with with_room with_limits
    ends_token later = at (step s t.mark) refl
      where
        at : (st : Step) → step s t.mark ≡ st
            → ImportOutcome text buffer (answer (elim st [ refuses ↦ refused 25 t.place | goes next ↦ import_from (length text) (length buffer) (length earlier) (lines_for earlier) next left | ends c ↦ with_limits c (clause_fits (filled c)) ]))
        at refuses e = unfit passed left t (subst (Cut text) all (text_cut text)) (begins buffer r (front_spelled (text_cut text) (marks passed) (marks (t ∷ left)) (ap marks all ∙ map-append (λ u. u.mark) passed (t ∷ left)))) (not_begins buffer r t.mark e) (all_taken buffer r)
        at (goes next) e = later next earlier (goes_on buffer r t.mark next e)
        at (ends c) e = ends_clause c e later

  ends_from : (left passed : List Token) → tokens_of text ≡ passed ++ left → (s : State) (earlier : List Clause) → Reading buffer (marks passed) s earlier → Ends earlier s left
  unfolding Later
  ends_from [] passed all s earlier r = ends_begun earlier s (subst (λ (ts : List Token). Reading buffer (marks ts) s earlier) (sym (all ∙ append-nil passed)) r)
  ends_from (t ∷ left) passed all s earlier r =
      ends_token passed left t all s earlier r
      (λ next more reading. ends_from left (ending t passed) (all ∙ sym (append_assoc passed (t ∷ []) left)) next more
      (subst (λ (ms : List Mark). Reading buffer ms next more) (sym (passes passed left t all s earlier r)) reading))

  pub import_outcome : ImportOutcome text buffer (import_of text buffer)
  unfolding import_of Ends answer lines_for flat_map
  import_outcome = ends_from (tokens_of text) [] refl begin [] (record { begun = []; are = refl; leads = leads_none; taken = record { fit = λ c m. absurd (Memᴰ.not-nil m); room = omega arith } })
