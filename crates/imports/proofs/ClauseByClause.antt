-- What import makes of a text, clause by clause.
use mathlib.Core.Path.{◌≡◌, refl, sym, ◌∙◌, ap}
use mathlib.Core.Bool.{true, false, cond}
use mathlib.Core.List.{List, [], ◌∷◌, ◌++◌}
use Prim.Native.Nat.{ℕ, suc, ◌≤◌, ◌<◌}
use native.Mathlib.Omega.{arith}
use lib.Dec.{leb, eqb}
use lib.ListN.{length, get_or, drop}
use lib.Seq.{drop-cons}
use Rattle.theory.specs.Lists.{is_empty, is_some}
use Rattle.theory.specs.Text.{Bytes}
use Rattle.theory.specs.Check.{numbers}
use Rattle.clause_theory.specs.ClauseTokens.{Token, token, Mark, mark_of, bytes_after, tokens_from}
use Rattle.clause_theory.specs.Clauses.{Clause, is_due, State, begin, is_begin}
use Rattle.clause_theory.specs.Imported.{marks}
use Rattle.clause_theory.specs.Import.{filled, clause_fits, Importing, refused, import_from}
use Rattle.clause_theory.proofs.Running.{Runs, runs_end, runs_on, runs_sound}
use Rattle.clause_tokens.specs.NextTokens.{tokens_at, LayoutEnds}
use Rattle.clause_tokens.proofs.TokenLaws.{none_at_end}
use Rattle.clauses.specs.Endings.{Reaches, reaches_here, reaches_on, Fails, fails_here, fails_on, fails_end}
use Rattle.clause_variables.specs.Variables.{ClauseAt}
use Rattle.imports.specs.Takings.{text_for}

-- ---- the tokens of a clause

record Front (s : State) (ts : List Token) (c : Clause) (rest : List Token) : Type 0 where
  front : List Mark
  runs : Runs s front c
  is : marks ts ≡ front ++ marks rest

reaches_front : {s : State} {ts rest : List Token} {c : Clause} → Reaches s ts c rest → Front s ts c rest
reaches_front (reaches_here {t = t} e) = record { front = t.mark ∷ []; runs = runs_end e; is = refl }
reaches_front (reaches_on {t = t} e later) =
    let f = reaches_front later in
    record { front = t.mark ∷ f.front; runs = runs_on e f.runs; is = ap (λ (ms : List Mark). t.mark ∷ ms) f.is }

pub clause_at : {text : Bytes} {at : ℕ} {c : Clause} {rest : List Token} → Reaches begin (tokens_at text at) c rest → ClauseAt text at c
clause_at {rest = rest} reaches =
    let f = reaches_front reaches in
    record { after = marks rest; marks = f.is ∙ ap (λ (ms : List Mark). ms ++ marks rest) (runs_sound f.runs) }

-- ---- a clause more

module _ (size room clauses : ℕ) (lines : Bytes) where
  -- after a clause: 26, 27, or the text from there on
  after_clause : Clause → List Token → Importing
  after_clause c rest =
      cond (clause_fits (filled c)) (cond (leb (length (lines ++ text_for c)) room) (import_from size room (suc clauses) (lines ++ text_for c) begin rest) (refused 27 (suc clauses)))
      (refused 26 (suc clauses))

  clause_read : {s : State} {ts rest : List Token} {c : Clause} → Reaches s ts c rest → import_from size room clauses lines s ts ≡ after_clause c rest
  unfolding import_from after_clause
  clause_read (reaches_here e) = rw (e, import_from) refl
  clause_read (reaches_on e later) = rw (e, import_from) (clause_read later)

  pub none_read : {s : State} {ts : List Token} {place : ℕ} → Fails size s ts place → import_from size room clauses lines s ts ≡ refused 25 place
  unfolding import_from
  none_read (fails_here e) = rw (e, import_from) refl
  none_read (fails_on e later) = rw (e, import_from) (none_read later)
  none_read (fails_end e) = rw (e, import_from) refl

  pub past_read : {ts rest : List Token} {c : Clause} → Reaches begin ts c rest → clause_fits (filled c) ≡ false → import_from size room clauses lines begin ts ≡ refused 26 (suc clauses)
  unfolding after_clause
  past_read reaches unfit = clause_read reaches ∙ rw unfit refl

  pub full_read : {ts rest : List Token} {c : Clause} → Reaches begin ts c rest → clause_fits (filled c) ≡ true → leb (length (lines ++ text_for c)) room ≡ false → import_from size room clauses lines begin ts ≡ refused 27 (suc clauses)
  unfolding after_clause
  full_read reaches fits lacks = clause_read reaches ∙ rw (fits, lacks) refl

  pub more_read : {ts rest : List Token} {c : Clause} → Reaches begin ts c rest → clause_fits (filled c) ≡ true → leb (length (lines ++ text_for c)) room ≡ true
      → import_from size room clauses lines begin ts ≡ import_from size room (suc clauses) (lines ++ text_for c) begin rest
  unfolding after_clause
  more_read reaches fits enough = clause_read reaches ∙ rw (fits, enough) refl

  pub all_read : import_from size room clauses lines begin [] ≡ record { returned = numbers 0 clauses (length lines) 0; text = lines }
  unfolding import_from begin is_begin is_some is_empty is_due
  all_read = refl

-- ---- whether a token is left

module _ {text : Bytes} {at end : ℕ} (layout : LayoutEnds text at end) where
  pub none_left : length text ≤ end → tokens_at text at ≡ []
  unfolding tokens_from
  none_left h = layout.passed ∙ none_at_end text (cond (eqb end at) false true) end end h

  pub one_left : end < length text → tokens_at text at ≡ [] → ⊥
  unfolding tokens_from
  one_left h none =
      let some : tokens_at text at ≡ token (mark_of (cond (eqb end at) false true) (get_or text end 0) (drop (suc end) text)) end ∷ tokens_from false (bytes_after (get_or text end 0) (drop (suc end) text)) (suc end) (drop (suc end) text) =
      layout.passed ∙ ap (tokens_from (cond (eqb end at) false true) 0 end) (drop-cons text end 0 h) ∙ rw (layout.ended h) refl in
      omega (arith, ap length (sym some ∙ none))
