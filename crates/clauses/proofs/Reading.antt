-- The loop of `clause_end`: where the reader stands after some tokens of a clause.
use mathlib.Core.Path.{◌≡◌, refl, sym, ◌∙◌, ap, subst}
use mathlib.Core.Bool.{false}
use mathlib.Core.List.{List, [], ◌∷◌, ◌++◌}
use Prim.Native.Nat.{ℕ, ◌+◌, ◌≤◌}
use native.Mathlib.Omega.{arith}
use lib.ListN.{length}
use Rattle.groundwork.proofs.Truth.{by_truth}
use Rattle.theory.specs.Lists.{is_some}
use Rattle.theory.specs.Text.{Bytes}
use Rattle.clause_theory.specs.ClauseTokens.{Token}
use Rattle.clause_theory.specs.ClauseTokens as T
use Rattle.clause_theory.specs.Clauses.{Clause, State, begin, is_begin, refuses, goes, ends, step}
use Rattle.clause_theory.specs.Clauses as Grammar
use Rattle.clause_theory.proofs.Running.{consumed, begin_consumed, Adds, step_adds}
use Rattle.clause_tokens.specs.NextTokens.{tokens_at, Seen, NextToken, none_left, one_found}
use Rattle.clause_tokens.specs.declared.Token.{Token as Found}
use Rattle.std.specs.Prelude.{Some, None, Ok, Err}
use Rattle.clauses.specs.declared.Last.TheVariants.{Due}
use Rattle.clauses.specs.declared.Standing.{Standing}
use Rattle.clauses.specs.declared.Step.{Step}
use Rattle.clauses.specs.declared.Step.TheVariants.{Refuses, Goes, Ends}
use Rattle.clauses.specs.Standings.{is_due_lem, Stands, StepIs, step_refuses, step_goes, step_ends, Advances, Deep}
use Rattle.clauses.specs.Endings.{Reaches, reaches_here, reaches_on, Fails, fails_here, fails_on, fails_end, EndFound, found_clause, found_none}

-- no token leads to the beginning
step_begun : (s next : State) (m : T.Mark) → step s m ≡ goes next → is_begin next ≡ false
step_begun s next m e =
    by_truth (λ b. b ≡ false) (is_begin next)
    (λ first. absurd (some_passed (consumed s) (sym (begin_consumed next first) ∙ subst (Adds (consumed s) m) e (step_adds s m))))
    (λ _. refl)
  where
    some_passed : (passed : List T.Mark) → [] ≡ passed ++ (m ∷ []) → ⊥
    some_passed [] e = absurd (omega (arith, ap length e))
    some_passed (k ∷ passed) e = absurd (omega (arith, ap length e))

-- ---- what the grammar's step is, by the answer

refused_step : {k : Grammar.Step} → StepIs k Refuses → k ≡ refuses
refused_step step_refuses = refl

ended_step : {k : Grammar.Step} → StepIs k Ends → (c : Clause) × (k ≡ ends c)
ended_step (step_ends {c = c}) = (c, refl)

going_step : {k : Grammar.Step} {next : Standing} → StepIs k (Goes next) → (s : State) × (k ≡ goes s) × Stands s next
going_step (step_goes {s = s} stands) = (s, refl, stands)

module _ (text : Bytes) (from : ℕ) where
  -- the tokens from a place on are read from this state, as those from the clause's start are from the beginning
  pub record Reading (at : ℕ) (standing : Standing) : Type 0 where
    pub reached : State
    pub stands : Stands reached standing
    pub low : from ≤ at
    pub high : at ≤ length text
    pub shallow : standing.depth ≤ at
    pub begun : tokens_at text at ≡ [] → is_begin reached ≡ false
    pub reaches : {c : Clause} {rest : List Token} → Reaches reached (tokens_at text at) c rest → Reaches begin (tokens_at text from) c rest
    pub fails : {place : ℕ} → Fails (length text) reached (tokens_at text at) place → Fails (length text) begin (tokens_at text from) place

  pub reading_none : from ≤ length text → (tokens_at text from ≡ [] → ⊥) → Reading from (record { last = Due; depth = 0; body = false })
  unfolding begin is_some
  reading_none h some =
      record {
        reached = begin;
        stands = record { last_is = is_due_lem; depth_is = refl; body_is = refl };
        low = omega arith;
        high = h;
        shallow = omega arith;
        begun = λ e. absurd (some e);
        reaches = λ r. r;
        fails = λ f. f;
      }

  module _ {at : ℕ} {standing : Standing} (r : Reading at standing) where
    pub reading_all : NextToken text at None → EndFound text from (Err (length text))
    reading_all (none_left none) = found_none (r.fails (subst (λ ts. Fails (length text) r.reached ts (length text)) (sym none) (fails_end (r.begun none))))

    module _ {t : Found} {a : Step} (next : NextToken text at (Some t)) (advances : Advances standing t.mark a) where
      -- the grammar's step of the token
      stepped : {b : Step} → a ≡ b → {x : Bytes} {m : T.Mark} → Seen x t.mark m → StepIs (step r.reached m) b
      stepped is {m = m} seen = subst (StepIs (step r.reached m)) is (advances.steps r.stands seen)

      pub reading_refused : a ≡ Refuses → EndFound text from (Err t.start)
      reading_refused is = at_next next
        where
          at_next : NextToken text at (Some t) → EndFound text from (Err t.start)
          at_next (one_found m seen low some high tokens) =
              found_none (r.fails (subst (λ ts. Fails (length text) r.reached ts t.start) (sym tokens) (fails_here (refused_step (stepped is seen)))))

      pub reading_ended : a ≡ Ends → EndFound text from (Ok t.end)
      reading_ended is = at_next next
        where
          at_next : NextToken text at (Some t) → EndFound text from (Ok t.end)
          at_next (one_found m seen low some high tokens) =
              let reached = ended_step (stepped is seen) in
              found_clause reached.0 (omega (arith, r.low)) high (r.reaches (subst (λ ts. Reaches r.reached ts reached.0 (tokens_at text t.end)) (sym tokens) (reaches_here reached.1)))

      pub reading_more : {standing₁ : Standing} → a ≡ Goes standing₁ → Reading t.end standing₁
      reading_more {standing₁} is = at_next next
        where
          at_next : NextToken text at (Some t) → Reading t.end standing₁
          at_next (one_found m seen low some high tokens) =
              let reached = going_step (stepped is seen) in
              let deep : standing₁.depth ≤ standing.depth + 1 = subst (Deep (standing.depth + 1)) is advances.deep in
              record {
                reached = reached.0;
                stands = reached.2;
                low = omega (arith, r.low);
                high = high;
                shallow = omega (arith, r.shallow);
                begun = λ _. step_begun r.reached reached.0 m reached.1;
                reaches = λ {c} {rest} more. r.reaches (subst (λ ts. Reaches r.reached ts c rest) (sym tokens) (reaches_on reached.1 more));
                fails = λ {place} more. r.fails (subst (λ ts. Fails (length text) r.reached ts place) (sym tokens) (fails_on reached.1 more));
              }
