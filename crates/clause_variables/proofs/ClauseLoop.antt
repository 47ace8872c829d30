-- The loop of `gather_clause`: of each clause that stands from a place on, some marks are passed and some are left.
use mathlib.Core.Path.{◌≡◌, refl, sym, ◌∙◌, ap, subst}
use mathlib.Core.Bool.{Bool, true, false}
use mathlib.Core.List.{List, [], ◌∷◌, ◌++◌, append_assoc, head-eq_of_cons-eq, tail-eq_of_cons-eq}
use Prim.Native.Nat.{ℕ, ◌≤◌}
use native.Mathlib.Omega.{arith}
use lib.ListN.{length}
use Rattle.std.specs.Prelude.{Option, Some, None}
use Rattle.groundwork.proofs.Truth.{never_both}
use Rattle.theory.specs.Text.{Bytes}
use Rattle.theory.specs.Residuals.{numbered}
use Rattle.clause_theory.specs.ClauseTokens.{name, variable, opens, closes, comma, neck, stop, stray}
use Rattle.clause_theory.specs.ClauseTokens as T
use Rattle.clause_theory.specs.Clauses.{Clause, clause_marks, State, begin}
use Rattle.clause_theory.specs.Import.{clause_variables, lones}
use Rattle.clause_theory.specs.Imported.{marks}
use Rattle.clause_theory.proofs.Running.{Runs, runs_end, runs_on, runs_complete}
use Rattle.clause_theory.proofs.Filling.{mark_variables, clause_variables_lem}
use Rattle.clause_theory.proofs.FilledVariables.{named}
use Rattle.theory.proofs.Judging.Variables.{once_none}
use Rattle.text.specs.Scans.{part}
use Rattle.clause_tokens.specs.NextTokens.{tokens_at, marks_at, is_stop_mark, Seen, NextToken, none_left, one_found}
use Rattle.clause_tokens.proofs.TokenLaws.{token_inside}
use Rattle.clause_tokens.specs.declared.Token.{Token as Found}
use Rattle.clause_variables.specs.declared.Variables.{Variables}
use Rattle.clause_variables.specs.Variables.{ClauseAt, Gathered, TooMany, Known, all_known, over, Gathers, VariablesFound}
use Rattle.clause_variables.proofs.Gathering.{too_many_more}
use Rattle.clause_variables.proofs.Stopping.{is_stop_token, stop_seen, EndsByStop, step_by}

-- ---- marks one after another

marks_append : (ms ns : List T.Mark) → mark_variables (ms ++ ns) ≡ mark_variables ms ++ mark_variables ns
unfolding mark_variables
marks_append [] ns = refl
marks_append (name f ∷ ms) ns = marks_append ms ns
marks_append (variable x ∷ ms) ns = ap (λ (xs : List Bytes). x ∷ xs) (marks_append ms ns)
marks_append (opens ∷ ms) ns = marks_append ms ns
marks_append (closes ∷ ms) ns = marks_append ms ns
marks_append (comma ∷ ms) ns = marks_append ms ns
marks_append (neck ∷ ms) ns = marks_append ms ns
marks_append (stop ∷ ms) ns = marks_append ms ns
marks_append (stray s ∷ ms) ns = marks_append ms ns

-- some marks are left of a clause that is being read
some_left : {s : State} {left : List T.Mark} {c : Clause} (after : List T.Mark) → Runs s left c → [] ≡ left ++ after → ⊥
some_left after (runs_end e) none = omega (arith, ap length none)
some_left after (runs_on e runs) none = omega (arith, ap length none)

-- the next mark of a clause: its last, or others come after it
data NextMark (passed : List T.Mark) (m : T.Mark) (coming : List T.Mark) (c : Clause) : Type 0 where
  last_mark : is_stop_token m ≡ true → clause_marks c ≡ passed ++ (m ∷ []) → NextMark passed m coming c
  more_marks : {next : State} {left : List T.Mark} (after : List T.Mark) → is_stop_token m ≡ false → Runs next left c → clause_marks c ≡ passed ++ (m ∷ left) → coming ≡ left ++ after → NextMark passed m coming c

next_mark : {s : State} {left coming : List T.Mark} {m : T.Mark} {c : Clause} (passed after : List T.Mark) → Runs s left c → clause_marks c ≡ passed ++ left → m ∷ coming ≡ left ++ after → NextMark passed m coming c
next_mark {m = m} passed after (runs_end {s = s} {m = k} e) whole there =
    let same : m ≡ k = head-eq_of_cons-eq there in
    last_mark (ap is_stop_token same ∙ subst (EndsByStop k) e (step_by s k)) (whole ∙ ap (λ (n : T.Mark). passed ++ (n ∷ [])) (sym same))
next_mark {m = m} passed after (runs_on {s = s} {m = k} {ms = ms} e runs) whole there =
    let same : m ≡ k = head-eq_of_cons-eq there in
    more_marks after (ap is_stop_token same ∙ subst (EndsByStop k) e (step_by s k)) runs (whole ∙ ap (λ (n : T.Mark). passed ++ (n ∷ ms)) (sym same)) (tail-eq_of_cons-eq there)

-- ---- the loop

-- what an answer says
of_some : {v : Variables} {xs : List Bytes} → Known v xs (Some tt) → Gathered v xs
of_some (all_known known) = known

of_none : {v : Variables} {xs : List Bytes} → Known v xs None → TooMany xs
of_none (over past) = past

-- of a clause: these marks are passed and their variables gathered, and the others come from this place on
pub record Rest (text : Bytes) (v : Variables) (at : ℕ) (c : Clause) : Type 0 where
  pub passed : List T.Mark
  pub left : List T.Mark
  pub after : List T.Mark
  pub state : State
  pub runs : Runs state left c
  pub whole : clause_marks c ≡ passed ++ left
  pub there : marks_at text at ≡ left ++ after
  pub gathered : Gathered v (mark_variables passed)

module _ (text : Bytes) (from : ℕ) where
  pub record Gathering (v : Variables) (at : ℕ) : Type 0 where
    pub high : at ≤ length text
    pub rest : (c : Clause) → ClauseAt text from c → Rest text v at c

  module _ {v : Variables} (size : length v.names ≡ 32) (no_names : v.named ≡ 0) (no_lones : v.lones ≡ 0) where
    nothing_gathered : Gathered v (mark_variables [])
    unfolding mark_variables named numbered lones
    nothing_gathered =
        record {
          holds = record { size = size; few = omega arith; words = λ i h. absurd (omega arith); proper = λ i h. absurd (omega arith); once = once_none };
          named_is = no_names;
          lones_is = no_lones;
        }

    pub gathering_none : from ≤ length text → Gathering v from
    gathering_none high =
        record {
          high = high;
          rest = λ c at.
              record { passed = []; left = clause_marks c; after = at.after; state = begin; runs = runs_complete c; whole = refl; there = at.marks; gathered = nothing_gathered };
        }

  module _ {v : Variables} {at : ℕ} (g : Gathering v at) where
    -- nothing comes, so no clause stands there
    no_clause : tokens_at text at ≡ [] → (c : Clause) → ClauseAt text from c → ⊥
    no_clause none c stands = let r = g.rest c stands in some_left r.after r.runs (sym (ap marks none) ∙ r.there)

    pub gathering_all : {r : Option (Unit {0})} → NextToken text at None → VariablesFound text from r v
    gathering_all (none_left none) = record { found = λ c stands. absurd (no_clause none c stands) }

    module _ {t : Found} (next : NextToken text at (Some t)) where
      module _ {r : Option (Unit {0})} {w : Variables} (gathers : Gathers (part text t.start t.end) t.mark v r w) where
        -- what is known of a clause's variables after this token
        data Stepped (c : Clause) : Type 0 where
          clause_ends : is_stop_mark t.mark ≡ true → Known w (clause_variables c) r → Stepped c
          clause_goes : {s : State} (passed left after : List T.Mark) → is_stop_mark t.mark ≡ false → Runs s left c → clause_marks c ≡ passed ++ left → marks_at text t.end ≡ left ++ after
              → Known w (mark_variables passed) r → Stepped c

        stepped : (c : Clause) → ClauseAt text from c → Stepped c
        stepped c stands = at_next next
          where
            known_more : (m : T.Mark) → Seen (part text t.start t.end) t.mark m → Known w (mark_variables ((g.rest c stands).passed ++ (m ∷ []))) r
            known_more m seen =
                let rest = g.rest c stands in
                subst (λ (xs : List Bytes). Known w xs r) (sym (marks_append rest.passed (m ∷ []))) (gathers.gathers (mark_variables rest.passed) m rest.gathered seen)

            at_mark : (m : T.Mark) → Seen (part text t.start t.end) t.mark m → NextMark (g.rest c stands).passed m (marks_at text t.end) c → Stepped c
            at_mark m seen (last_mark is whole) = clause_ends (stop_seen seen ∙ is) (subst (λ (xs : List Bytes). Known w xs r) (ap mark_variables (sym whole) ∙ clause_variables_lem c) (known_more m seen))
            at_mark m seen (more_marks {left = left} after is runs whole coming) =
                let rest = g.rest c stands in
                clause_goes (rest.passed ++ (m ∷ [])) left after (stop_seen seen ∙ is) runs (whole ∙ sym (append_assoc rest.passed (m ∷ []) left)) coming (known_more m seen)

            at_next : NextToken text at (Some t) → Stepped c
            at_next (one_found m seen low some high tokens) =
                let rest = g.rest c stands in
                at_mark m seen (next_mark rest.passed rest.after rest.runs rest.whole (sym (ap marks tokens) ∙ rest.there))

        pub gathering_over : {q : Option (Unit {0})} → q ≡ None → r ≡ None → VariablesFound text from q w
        gathering_over none refused = subst (λ (o : Option (Unit {0})). VariablesFound text from o w) (sym none) (record { found = λ c stands. at_step c (stepped c stands) })
          where
            too_many : {xs : List Bytes} → Known w xs r → TooMany xs
            too_many {xs} known = of_none (subst (Known w xs) refused known)

            at_step : (c : Clause) → Stepped c → Known w (clause_variables c) None
            at_step c (clause_ends is known) = over (too_many known)
            at_step c (clause_goes passed left after is runs whole coming known) =
                over (subst TooMany (sym (marks_append passed left) ∙ ap mark_variables (sym whole) ∙ clause_variables_lem c) (too_many_more (mark_variables left) (too_many known)))

        module _ (accepted : r ≡ Some tt) {stops : Bool} (told : stops ≡ is_stop_mark t.mark) where
          pub gathering_found : stops ≡ true → VariablesFound text from (Some tt) w
          gathering_found is = record { found = λ c stands. at_step c (stepped c stands) }
            where
              at_step : (c : Clause) → Stepped c → Known w (clause_variables c) (Some tt)
              at_step c (clause_ends is_end_lem known) = subst (Known w (clause_variables c)) accepted known
              at_step c (clause_goes passed left after goes_on runs whole coming known) = never_both (sym told ∙ is) goes_on

          pub gathering_more : stops ≡ false → Gathering w t.end
          gathering_more is = record { high = token_inside next; rest = λ c stands. at_step c (stepped c stands) }
            where
              at_step : (c : Clause) → Stepped c → Rest text w t.end c
              at_step c (clause_ends is_end_lem known) = never_both is_end_lem (sym told ∙ is)
              at_step c (clause_goes {s = s} passed left after goes_on runs whole coming known) =
                  record { passed = passed; left = left; after = after; state = s; runs = runs; whole = whole; there = coming; gathered = of_some (subst (Known w (mark_variables passed)) accepted known) }
