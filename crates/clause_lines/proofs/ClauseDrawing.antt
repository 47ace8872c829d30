-- The loop of `put_clause`: the lines of the filled clause are written up to a state, and the other tokens of the clause come.
use mathlib.Core.Path.{◌≡◌, refl, sym, ◌∙◌, ap, subst}
use mathlib.Core.Bool.{Bool, true, false}
use mathlib.Core.List.Memᴰ
use mathlib.Core.List.{List, [], ◌∷◌, ◌++◌, head-eq_of_cons-eq, tail-eq_of_cons-eq}
use mathlib.Core.Option.{some}
use Prim.Native.Nat.{ℕ, suc, ◌+◌, ◌≤◌, ◌<◌}
use native.Mathlib.Omega.{arith}
use lib.ListN.{length, drop}
use Rattle.std.specs.Prelude.{Some, None}
use Rattle.std.specs.Prelude as Rust
use Rattle.groundwork.proofs.Truth.{never_both}
use Rattle.theory.specs.Text.{Bytes, bytes, same}
use Rattle.theory.specs.Packs.{text_of}
use Rattle.clause_theory.specs.ClauseTokens.{variable}
use Rattle.clause_theory.specs.ClauseTokens as T
use Rattle.clause_theory.specs.Clauses.{Clause, clause_marks, due, State, state, begin, goes, ends, step}
use Rattle.clause_theory.specs.Import.{clause_variables, lones, numbered_variable, nth, fresh_of, filled, clause_lines, clause_fits}
use Rattle.clause_theory.proofs.Running.{Runs, runs_end, runs_on, runs_complete}
use Rattle.clause_theory.proofs.Filling.{mark_variables, clause_variables_lem, filled_marks, filled_marks_lem}
use Rattle.clause_theory.proofs.FreshNumbering.{FreshAt, fresh_none, fresh_next, fresh_low}
use Rattle.clause_theory.specs.Imported.{marks}
use Rattle.text.specs.Scans.{part}
use Rattle.clause_tokens.proofs.TokenLaws.{token_inside}
use Rattle.clause_variables.proofs.FreshSearch.{next_is_fresh}
use Rattle.pages.specs.Pages.{Puts}
use Rattle.clause_tokens.specs.NextTokens.{tokens_at, marks_at, is_stop_mark, Sign, sign_opens, sign_closes, sign_comma, sign_neck, sign_stop, sign_stray, Seen, seen_name, seen_variable, seen_lone, seen_sign, NextToken, none_left, one_found}
use Rattle.clause_tokens.specs.declared.Mark.{Mark}
use Rattle.clause_tokens.specs.declared.Mark.TheVariants.{Name, Variable, Lone}
use Rattle.clause_tokens.specs.declared.Token.{Token as Found}
use Rattle.clause_variables.specs.declared.Variables.{Variables}
use Rattle.clause_variables.specs.FreshNumbers.{Tabled, NextFree}
use Rattle.clause_variables.specs.Variables.{Gathered}
use Rattle.clause_variables.proofs.Gathering.{gathered_few, gathered_tabled}
use Rattle.clause_variables.proofs.Stopping.{is_stop_token, EndsByStop, step_by}
use Rattle.term_lines.specs.declared.Pen.{Pen}
use Rattle.term_lines.specs.Texts.{done_text, open_text, last_text, drawn_text, Moves, atoms_of, lines_of, current, StateFits}
use Rattle.term_lines.specs.Drawings.{Begun, Drawing, DrawnNext, drawn_on, passes, Shows, shows_name, shows_variable, shows_lone, shows_sign, Drawable, Draws}
use Rattle.clause_lines.specs.WholeClauses.{NumberAfter, ClausePut, clause_put, not_put, ClauseReady, LinesPut}
use Rattle.term_lines.proofs.Moving.{step_goes, step_ends}
use Rattle.term_lines.proofs.DrawnLimits.{whole_text, whole_fits, fits_whole, run_fits, run_grows}

-- ---- the next token of a clause that is being read

-- of the tokens left, as they are written and as they are filled, there is a first
no_run : {s : State} {c : Clause} → Runs s [] c → ⊥
no_run = elim [ ]

record FirstLeft (m : T.Mark) (coming left after : List T.Mark) : Type 0 where
  others : List T.Mark
  is : left ≡ m ∷ others
  coming_is : coming ≡ others ++ after

first_left : {s : State} {c : Clause} {m : T.Mark} {coming : List T.Mark} (fresh : List Bytes) (i : ℕ) (left after : List T.Mark) → Runs s (filled_marks fresh i left) c → m ∷ coming ≡ left ++ after → FirstLeft m coming left after
unfolding filled_marks
first_left fresh i [] after runs there = absurd (no_run runs)
first_left fresh i (k ∷ left) after runs there =
    record { others = left; is = ap (λ (n : T.Mark). n ∷ left) (sym (head-eq_of_cons-eq there)); coming_is = tail-eq_of_cons-eq there }

some_left : {s : State} {c : Clause} (fresh : List Bytes) (i : ℕ) (left after : List T.Mark) → Runs s (filled_marks fresh i left) c → [] ≡ left ++ after → ⊥
unfolding filled_marks
some_left fresh i [] after runs there = no_run runs
some_left fresh i (k ∷ left) after runs there = omega (arith, ap length there)

-- its step ends the clause, or the clause goes on
data NextStep (s : State) (m : T.Mark) (ms : List T.Mark) (c : Clause) : Type 0 where
  last_step : step s m ≡ ends c → NextStep s m ms c
  more_steps : {next : State} → step s m ≡ goes next → Runs next ms c → NextStep s m ms c

next_step : {s : State} {m : T.Mark} {ms : List T.Mark} {c : Clause} → Runs s (m ∷ ms) c → NextStep s m ms c
next_step (runs_end e) = last_step e
next_step (runs_on e runs) = more_steps e runs

-- ---- the token that is filled

-- what a token is in the filled clause, after so many `_`, the last of which has this number
record Filled (c : Clause) (x : Bytes) (mark : Mark) (m : T.Mark) (others : List T.Mark) (i r : ℕ) : Type 0 where
  token : T.Mark
  passed : ℕ
  shows : Shows x r mark token
  stops : is_stop_mark mark ≡ is_stop_token token
  is : filled_marks (fresh_of c) i (m ∷ others) ≡ token ∷ filled_marks (fresh_of c) passed others
  counts : passed + lones (mark_variables others) ≡ lones (clause_variables c)
  fresh : FreshAt c passed r

-- no sign is a lone `_`
sign_not_lone : {k : Mark} {m : T.Mark} → Sign k m → k ≡ Lone → ⊥
sign_not_lone {m = m} sign e = lone_sign (subst (λ (k : Mark). Sign k m) e sign)
  where
    lone_sign : {m : T.Mark} → Sign Lone m → ⊥
    lone_sign = elim [ ]

name_not_lone : Name ≡ Lone → ⊥
name_not_lone e = let z : ◌≡◌ {A = ℕ} 0 1 = cc in omega arith

variable_not_lone : Variable ≡ Lone → ⊥
variable_not_lone e = let z : ◌≡◌ {A = ℕ} 0 1 = cc in omega arith

module _ {v : Variables} {number r : ℕ} (c : Clause) (others : List T.Mark) (i : ℕ) (gathered : Gathered v (clause_variables c)) (fresh : FreshAt c i number) where
  -- another token than `_`: nothing is numbered
  same_number : {mark : Mark} → NumberAfter mark v number r → (mark ≡ Lone → ⊥) → FreshAt c i r
  same_number after other = subst (FreshAt c i) (sym (after.other other)) fresh

  -- a lone `_`: the next number that is free
  next_number : NextFree v.names v.named (number + 1) r → i < lones (clause_variables c) → (nth (fresh_of c) i ≡ numbered_variable r) × FreshAt c (suc i) r
  next_number free more = let next = next_is_fresh c gathered free in fresh_next fresh more r next.0 next.1 next.2

  -- a token that is the same in the filled clause
  as_written : {x : Bytes} {mark : Mark} {m : T.Mark} → Shows x r mark m → is_stop_mark mark ≡ is_stop_token m → (mark ≡ Lone → ⊥) → filled_marks (fresh_of c) i (m ∷ others) ≡ m ∷ filled_marks (fresh_of c) i others
      → lones (mark_variables (m ∷ others)) ≡ lones (mark_variables others) → NumberAfter mark v number r → i + lones (mark_variables (m ∷ others)) ≡ lones (clause_variables c) → Filled c x mark m others i r
  as_written {m = m} shows stops other is plain after counts =
      record { token = m; passed = i; shows = shows; stops = stops; is = is; counts = ap (λ (k : ℕ). i + k) (sym plain) ∙ counts; fresh = same_number after other }

  filled_token : {x : Bytes} {mark : Mark} {m : T.Mark} → Seen x mark m → NumberAfter mark v number r → i + lones (mark_variables (m ∷ others)) ≡ lones (clause_variables c) → Filled c x mark m others i r
  unfolding filled_marks mark_variables lones is_stop_token bytes same
  filled_token {x} (seen_name told) after counts = as_written (shows_name told) refl name_not_lone refl refl after counts
  filled_token {x} (seen_variable told written) after counts = as_written (shows_variable told) refl variable_not_lone (rw written refl) (rw written refl) after counts
  filled_token seen_lone after counts =
      let next = next_number (after.lone refl) (omega arith) in
      record {
        token = variable (numbered_variable r);
        passed = suc i;
        shows = shows_lone (omega (arith, fresh_low next.1, gathered.named_is, gathered.lones_is, v.few));
        stops = refl;
        is = ap (λ (y : Bytes). variable y ∷ filled_marks (fresh_of c) (suc i) others) next.0;
        counts = omega arith;
        fresh = next.1;
      }
  filled_token (seen_sign sign_opens) after counts = as_written (shows_sign sign_opens) refl (sign_not_lone sign_opens) refl refl after counts
  filled_token (seen_sign sign_closes) after counts = as_written (shows_sign sign_closes) refl (sign_not_lone sign_closes) refl refl after counts
  filled_token (seen_sign sign_comma) after counts = as_written (shows_sign sign_comma) refl (sign_not_lone sign_comma) refl refl after counts
  filled_token (seen_sign sign_neck) after counts = as_written (shows_sign sign_neck) refl (sign_not_lone sign_neck) refl refl after counts
  filled_token (seen_sign sign_stop) after counts = as_written (shows_sign sign_stop) refl (sign_not_lone sign_stop) refl refl after counts
  filled_token (seen_sign (sign_stray {s = s})) after counts = as_written (shows_sign sign_stray) refl (sign_not_lone (sign_stray {s = s})) refl refl after counts

-- ---- the loop

-- of a clause: the lines are written up to a state, these tokens are left of it, and so many `_` were passed
pub record LeftOf (text page₀ page : Bytes) (d : Pen) (number at : ℕ) (c : Clause) : Type 0 where
  pub left : List T.Mark
  pub after : List T.Mark
  pub passed : ℕ
  pub reached : State
  pub runs : Runs reached (filled_marks (fresh_of c) passed left) (filled c)
  pub there : marks_at text at ≡ left ++ after
  pub counts : passed + lones (mark_variables left) ≡ lones (clause_variables c)
  pub fresh : FreshAt c passed number
  pub drawing : Drawing reached d page₀ page

-- nothing is written
nothing_drawn : (page : Bytes) {d : Pen} → Begun d → Drawing begin d page page
unfolding begin drawn_text done_text open_text last_text atoms_of lines_of current
nothing_drawn page begun =
    record {
      puts = record { many = begun.to; is = ap (λ (i : ℕ). drop i page) (sym begun.to) };
      room = omega (arith, begun.to);
      line = begun.line;
      depth = begun.depth;
      atoms = begun.atoms;
      arguments = tt;
      stand = tt;
      fits = record { atoms = λ a m. absurd (Memᴰ.not-nil m); lines = λ l m. absurd (Memᴰ.not-nil m); count = omega arith; opens_fit = tt; last_fits = tt; line = omega arith };
    }

module _ (text : Bytes) (from : ℕ) (v : Variables) (page₀ : Bytes) where
  pub record Progress (page : Bytes) (d : Pen) (number at : ℕ) : Type 0 where
    pub ready : ClauseReady text from v
    pub size : length page ≡ length page₀
    pub high : at ≤ length text
    pub rest : (r : ClauseReady text from v) → LeftOf text page₀ page d number at r.clause

  pub progress_none : {d : Pen} → Begun d → from ≤ length text → ClauseReady text from v
      → Progress page₀ d 0 from
  progress_none {d} begun high ready =
      record {
        ready = ready;
        size = refl;
        high = high;
        rest = λ r.
            let c = r.clause in
            record {
              left = clause_marks c;
              after = r.stands.after;
              passed = 0;
              reached = begin;
              runs = subst (λ (ms : List T.Mark). Runs begin ms (filled c)) (sym (filled_marks_lem c)) (runs_complete (filled c));
              there = r.stands.marks;
              counts = omega (arith, ap lones (clause_variables_lem c));
              fresh = fresh_none c;
              drawing = nothing_drawn page₀ begun;
            };
      }

  module _ {page : Bytes} {d : Pen} {number at : ℕ} (g : Progress page d number at) where
    -- nothing comes, so no clause stands there
    no_clause : tokens_at text at ≡ [] → ClauseReady text from v → ⊥
    no_clause none r =
        let rest = g.rest r in
        some_left (fresh_of r.clause) rest.passed rest.left rest.after rest.runs (sym (ap marks none) ∙ rest.there)

    pub progress_all : NextToken text at None → LinesPut text from v page₀ None page
    progress_all (none_left none) = record { size = g.size; put = λ r. absurd (no_clause none r) }

    pub progress_tabled : Tabled v.names v.named
    progress_tabled = gathered_tabled g.ready.gathered

    pub progress_low : number + 1 + v.named < 100
    progress_low =
        let rest = g.rest g.ready in
        let gathered = g.ready.gathered in
        omega (arith, fresh_low rest.fresh, rest.counts, gathered.named_is, gathered.lones_is, v.few)

    module _ {t : Found} (next : NextToken text at (Some t)) {r : ℕ} (numbered : NumberAfter t.mark v number r) where
      abbrev x : Bytes
      x = part text t.start t.end

      -- the token of a clause at this place
      record Coming (c : Clause) : Type 0 where
        others : List T.Mark
        after : List T.Mark
        passed : ℕ
        reached : State
        token : T.Mark
        shows : Shows x r t.mark token
        stops : is_stop_mark t.mark ≡ is_stop_token token
        takes : NextStep reached token (filled_marks (fresh_of c) passed others) (filled c)
        there : marks_at text t.end ≡ others ++ after
        counts : passed + lones (mark_variables others) ≡ lones (clause_variables c)
        fresh : FreshAt c passed r
        drawing : Drawing reached d page₀ page

      coming : (ready : ClauseReady text from v) → Coming ready.clause
      coming ready = at_next next
        where
          at_next : NextToken text at (Some t) → Coming ready.clause
          at_next (one_found m seen low wide high tokens) =
              let rest = g.rest ready in
              let first = first_left (fresh_of ready.clause) rest.passed rest.left rest.after rest.runs (sym (ap marks tokens) ∙ rest.there) in
              let token = filled_token ready.clause first.others rest.passed ready.gathered rest.fresh seen numbered (ap (λ (ms : List T.Mark). rest.passed + lones (mark_variables ms)) (sym first.is) ∙ rest.counts) in
              record {
                others = first.others;
                after = rest.after;
                passed = token.passed;
                reached = rest.reached;
                token = token.token;
                shows = token.shows;
                stops = token.stops;
                takes = next_step (subst (λ (ms : List T.Mark). Runs rest.reached ms (filled ready.clause)) (ap (filled_marks (fresh_of ready.clause) rest.passed) first.is ∙ token.is) rest.runs);
                there = first.coming_is;
                counts = token.counts;
                fresh = token.fresh;
                drawing = rest.drawing;
              }

      drawable : {c : Clause} (k : Coming c) {to : State} → Moves k.reached k.token to → Drawable x t.mark r d page
      drawable k {to} moves = record { page₀ = page₀; state = k.reached; next = to; token = k.token; drawing = k.drawing; shows = k.shows; moves = moves }

      pub progress_drawable : Drawable x t.mark r d page
      progress_drawable = by (coming g.ready).takes
        where
          by : {ms : List T.Mark} → NextStep (coming g.ready).reached (coming g.ready).token ms (filled g.ready.clause) → Drawable x t.mark r d page
          by (last_step s) = drawable (coming g.ready) (step_ends s)
          by (more_steps s runs) = drawable (coming g.ready) (step_goes s)

      module _ {e : Rust.Option (Unit {0})} {f : Pen} {after : Bytes} (draws : Draws x t.mark r d page e f after) where
        -- what the token leaves: the whole clause, or one of which some tokens are left
        data Left (c : Clause) (k : Coming c) : Type 0 where
          none_more : is_stop_mark t.mark ≡ true → DrawnNext (state (some (filled c)) [] due) f page₀ after e → Left c k
          some_more : {to : State} → is_stop_mark t.mark ≡ false → Runs to (filled_marks (fresh_of c) k.passed k.others) (filled c) → DrawnNext to f page₀ after e → Left c k

        left_after : {c : Clause} (k : Coming c) → Left c k
        unfolding drawable
        left_after {c} k = by k.takes
          where
            by : NextStep k.reached k.token (filled_marks (fresh_of c) k.passed k.others) (filled c) → Left c k
            by (last_step s) = none_more (k.stops ∙ subst (EndsByStop k.token) s (step_by k.reached k.token)) (draws.drawn (drawable k (step_ends s)))
            by (more_steps s runs) = some_more (k.stops ∙ subst (EndsByStop k.token) s (step_by k.reached k.token)) runs (draws.drawn (drawable k (step_goes s)))

        pub progress_size : length after ≡ length page₀
        progress_size = draws.size ∙ g.size

        -- a limit is passed, or the page is too short
        pub progress_over : {a : Rust.Option ℕ} → e ≡ None → a ≡ None → LinesPut text from v page₀ a after
        progress_over {a} refused none = record { size = progress_size; put = λ ready. subst (ClausePut ready.clause page₀ after) (sym none) (not_put (λ fits. over (coming ready) fits (left_after (coming ready)))) }
          where
            short : {to : State} → DrawnNext to f page₀ after None → StateFits to → length page₀ < length (drawn_text to)
            short (passes lacks) = lacks

            by_none : {to : State} → DrawnNext to f page₀ after e → StateFits to → length page₀ < length (drawn_text to)
            by_none {to} drawn = short (subst (DrawnNext to f page₀ after) refused drawn)

            over : {c : Clause} (k : Coming c) → clause_fits (filled c) ≡ true → Left c k → length page₀ < length (text_of (clause_lines (filled c)))
            over {c} k fits (none_more is drawn) = omega (arith, by_none drawn (whole_fits (filled c) fits), ap length (whole_text (filled c)))
            over {c} k fits (some_more is runs drawn) = omega (arith, by_none drawn (run_fits runs fits), run_grows runs fits)

        module _ (stops : Bool) (told : stops ≡ is_stop_mark t.mark) {u : Unit {0}} (accepted : e ≡ Some u) where
          written : {to : State} → DrawnNext to f page₀ after (Some u) → Drawing to f page₀ after
          written (drawn_on drawing) = drawing

          drawn_up_to : {to : State} → DrawnNext to f page₀ after e → Drawing to f page₀ after
          drawn_up_to {to} drawn = written (subst (DrawnNext to f page₀ after) accepted drawn)

          -- the clause is at its end
          pub progress_whole : stops ≡ true → LinesPut text from v page₀ (Some f.to) after
          progress_whole is = record { size = progress_size; put = λ ready. whole ready (left_after (coming ready)) }
            where
              whole : (ready : ClauseReady text from v) → Left ready.clause (coming ready) → ClausePut ready.clause page₀ after (Some f.to)
              whole ready (some_more goes_on runs drawn) = never_both (sym told ∙ is) goes_on
              whole ready (none_more ended drawn) =
                  let drawing = drawn_up_to drawn in
                  let c = ready.clause in
                  clause_put (fits_whole (filled c) drawing.fits (gathered_few c ready.gathered)) drawing.room (subst (λ (bs : Bytes). Puts bs page₀ after f.to) (whole_text (filled c)) drawing.puts)

          -- it goes on
          pub progress_more : stops ≡ false → Progress after f r t.end
          progress_more is =
              record { ready = g.ready; size = progress_size; high = token_inside next; rest = λ ready. onwards (coming ready) (left_after (coming ready)) }
            where
              onwards : {c : Clause} (k : Coming c) → Left c k → LeftOf text page₀ after f r t.end c
              onwards k (none_more ended drawn) = never_both ended (sym told ∙ is)
              onwards k (some_more {to = to} goes_on runs drawn) =
                  record {
                    left = k.others;
                    after = k.after;
                    passed = k.passed;
                    reached = to;
                    runs = runs;
                    there = k.there;
                    counts = k.counts;
                    fresh = k.fresh;
                    drawing = drawn_up_to drawn;
                  }
