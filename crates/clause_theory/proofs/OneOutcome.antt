-- A text and a buffer have one outcome: no two of them agree with the same tokens but with the same answer.
use mathlib.Core.Path.{◌≡◌, refl, sym, ◌∙◌, ap, ap₂, subst}
use mathlib.Core.Logic.{◌⊎◌, inl, inr, ⊎_elim}
use mathlib.Core.Bool.{Bool, false, cond}
use mathlib.Core.List.Memᴰ
use mathlib.Core.List.{List, [], ◌∷◌, ◌++◌, map-append, flat_map, append_assoc, append-nil, nil≢cons, head-eq_of_cons-eq, tail-eq_of_cons-eq}
use Prim.Native.Nat.{◌+◌, ◌<◌}
use native.Mathlib.Omega.{arith}
use lib.ListN.{length}
use Rattle.groundwork.proofs.Lists.{flat_map_end, end_split}
use Rattle.groundwork.proofs.Truth.{never_both}
use Rattle.theory.specs.Lists.{ending, over}
use Rattle.theory.specs.Text.{Bytes}
use Rattle.theory.specs.Check.{numbers}
use Rattle.theory.specs.Pages.{Paged, paged}
use Rattle.clause_theory.specs.ClauseTokens.{Mark, Token, tokens_of}
use Rattle.clause_theory.specs.Cutting.{Cut}
use Rattle.clause_theory.specs.Clauses.{Clause, clause_marks, term_marks, begin}
use Rattle.clause_theory.specs.Import.{filled, clause_fits}
use Rattle.clause_theory.specs.Imported.{marks, Writes, Begins, lines_for, Taken, AllTaken, refusal, ImportOutcome, imported, unfit, unended, past, full}
use Rattle.clause_theory.proofs.Cutting.{text_cut, cut_exactly}
use Rattle.clause_theory.proofs.ImportOutcomes.{written_marks, taken_front}
use Rattle.clause_theory.proofs.PlainTexts.{plain, plain_writes}
use Rattle.clause_theory.proofs.SpelledTokens.{front_spelled}
use Rattle.clause_theory.proofs.Leading.{leads_none, left_some, Ways, fewer, further, ways}

-- ---- one list, cut twice

module _ {A : Type 0} where
  -- the one cut lies within the other's front, or the other way round
  cuts : (p x : List A) (m : A) (q y : List A) → p ++ m ∷ q ≡ x ++ y → ((r : List A) × (p ≡ x ++ r)) ⊎ ((r : List A) × (x ≡ p ++ m ∷ r))
  cuts p [] m q y same = inl (p, refl)
  cuts [] (z ∷ x) m q y same = inr (x, ap (λ (w : A). w ∷ x) (sym (head-eq_of_cons-eq same)))
  cuts (a ∷ p) (z ∷ x) m q y same = further_on (cuts p x m q y (tail-eq_of_cons-eq same))
    where
      first : a ≡ z
      first = head-eq_of_cons-eq same

      further_on : ((r : List A) × (p ≡ x ++ r)) ⊎ ((r : List A) × (x ≡ p ++ m ∷ r)) → ((r : List A) × (a ∷ p ≡ z ∷ x ++ r)) ⊎ ((r : List A) × (z ∷ x ≡ a ∷ p ++ m ∷ r))
      further_on (inl found) = inl (found.0, λ i. first i ∷ found.1 i)
      further_on (inr found) = inr (found.0, λ i. sym first i ∷ found.1 i)

  -- two elements of a list, with what is before them
  data Places (p x : List A) (m n : A) : Type 0 where
    same_place : p ≡ x → m ≡ n → Places p x m n
    earlier_place : (r : List A) → x ≡ p ++ m ∷ r → Places p x m n
    later_place : (r : List A) → p ≡ x ++ n ∷ r → Places p x m n

  places : (p x : List A) (m n : A) (q y : List A) → p ++ m ∷ q ≡ x ++ n ∷ y → Places p x m n
  places [] [] m n q y same = same_place refl (head-eq_of_cons-eq same)
  places [] (z ∷ x) m n q y same = earlier_place x (ap (λ (w : A). w ∷ x) (sym (head-eq_of_cons-eq same)))
  places (a ∷ p) [] m n q y same = later_place p (ap (λ (w : A). w ∷ p) (head-eq_of_cons-eq same))
  places (a ∷ p) (z ∷ x) m n q y same = further_on (places p x m n q y (tail-eq_of_cons-eq same))
    where
      first : a ≡ z
      first = head-eq_of_cons-eq same

      further_on : Places p x m n → Places (a ∷ p) (z ∷ x) m n
      further_on (same_place is e) = same_place (λ i. first i ∷ is i) e
      further_on (earlier_place r is) = earlier_place r (λ i. sym first i ∷ is i)
      further_on (later_place r is) = later_place r (λ i. first i ∷ is i)

-- ---- one reading

-- two lists of clauses at the front of the same marks
pub fronts : (clauses others : List Clause) (rest more : List Mark) → flat_map clause_marks clauses ++ rest ≡ flat_map clause_marks others ++ more → Ways clauses [] rest begin others more
fronts clauses others rest more same = ways leads_none rest more clauses others (ap (λ (ms : List Mark). ms ++ rest) (append-nil (flat_map clause_marks clauses)) ∙ same)

pub only_one_lem : (clauses others : List Clause) → flat_map clause_marks clauses ≡ flat_map clause_marks others → clauses ≡ others
unfolding flat_map clause_marks term_marks
only_one_lem clauses others same = at (fronts clauses others [] [] (append-nil (flat_map clause_marks clauses) ∙ same ∙ sym (append-nil (flat_map clause_marks others))))
  where
    none_later : (later : List Clause) → (flat_map clause_marks later ++ []) ++ [] ≡ [] → others ++ later ≡ others
    none_later [] none = append-nil others
    none_later (c ∷ later) none = absurd (nil≢cons (sym none))

    at : Ways clauses [] [] begin others [] → clauses ≡ others
    at (fewer later is none) = is ∙ none_later later none
    at (further c later is left) = absurd (left_some left)

begins_front : (front rest : List Mark) → Begins (front ++ rest) → Begins front
begins_front front rest b = record { text = b.text; clauses = b.clauses; writes = b.writes; rest = rest ++ b.rest; is = sym (append_assoc front rest b.rest) ∙ b.is }

-- ---- how an outcome ends: with all tokens read, at a token, or at a clause

module _ (text buffer : Bytes) where
  all : List Mark
  all = marks (tokens_of text)

  record Whole : Type 0 where
    begins : Begins all
    taken : AllTaken buffer all

  record Unfit (before after : List Token) (t : Token) : Type 0 where
    is : tokens_of text ≡ before ++ t ∷ after
    begins : Begins (marks before)
    none : Begins (ending t.mark (marks before)) → ⊥
    taken : AllTaken buffer (marks before)

  record Stops (earlier : List Clause) (c : Clause) (rest : List Mark) : Type 0 where
    is : all ≡ flat_map clause_marks earlier ++ (clause_marks c ++ rest)
    taken : Taken buffer earlier
    none : Taken buffer (ending c earlier) → ⊥

  whole : (clauses : List Clause) → Writes text clauses → Taken buffer clauses → Whole
  unfolding all
  whole clauses writes taken = record {
    begins = record { text = text; clauses = clauses; writes = writes; rest = []; is = append-nil (marks (tokens_of text)) ∙ written_marks writes };
    taken = λ others rest is. at others (fronts clauses others [] rest (append-nil (flat_map clause_marks clauses) ∙ sym (written_marks writes) ∙ is));
  }
    where
      at : (others : List Clause) {rest : List Mark} → Ways clauses [] [] begin others rest → Taken buffer others
      at others (fewer later is left) = taken_front others later (subst (Taken buffer) is taken)
      at others (further c later is left) = absurd (left_some left)

  stops_past : (earlier : List Clause) (c : Clause) (rest : List Mark) → all ≡ flat_map clause_marks earlier ++ (clause_marks c ++ rest) → Taken buffer earlier → clause_fits (filled c) ≡ false → Stops earlier c rest
  stops_past earlier c rest is taken misfit = record { is = is; taken = taken; none = λ more. never_both (more.fit c (Memᴰ.append_right earlier (Memᴰ.head refl))) misfit }

  stops_full : (earlier : List Clause) (c : Clause) (rest : List Mark) → all ≡ flat_map clause_marks earlier ++ (clause_marks c ++ rest) → Taken buffer earlier → length buffer < length (lines_for (ending c earlier)) → Stops earlier c rest
  stops_full earlier c rest is taken short = record { is = is; taken = taken; none = λ more. omega (arith, more.room) }

  -- ---- no two ways

  module _ {before after : List Token} {t : Token} (u : Unfit before after t) where
    split : all ≡ marks before ++ t.mark ∷ marks after
    unfolding all
    split = ap marks u.is ∙ map-append (λ v. v.mark) before (t ∷ after)

    whole_unfit : Whole → ⊥
    whole_unfit w = u.none (begins_front (ending t.mark (marks before)) (marks after) (subst Begins (split ∙ sym (append_assoc (marks before) (t.mark ∷ []) (marks after))) w.begins))

  module _ {earlier : List Clause} {c : Clause} {rest : List Mark} (s : Stops earlier c rest) where
    stops_at : all ≡ flat_map clause_marks (ending c earlier) ++ rest
    stops_at = s.is ∙ sym (append_assoc (flat_map clause_marks earlier) (clause_marks c) rest) ∙ ap (λ (ms : List Mark). ms ++ rest) (sym (flat_map_end clause_marks earlier c))

    whole_stops : Whole → ⊥
    whole_stops w = s.none (w.taken (ending c earlier) rest stops_at)

    unfit_stops : {before after : List Token} {t : Token} → Unfit before after t → ⊥
    unfolding all
    unfit_stops {before} {after} {t} u =
        ⊎_elim (λ found. s.none (u.taken (ending c earlier) found.0 found.1))
        (λ found. u.none (record {
          text = plain (flat_map clause_marks (ending c earlier));
          clauses = ending c earlier;
          writes = plain_writes (ending c earlier) (front_spelled (text_cut text) (flat_map clause_marks (ending c earlier)) rest stops_at);
          rest = found.0;
          is = append_assoc (marks before) (t.mark ∷ []) found.0 ∙ sym found.1;
        }))
        (cuts (marks before) (flat_map clause_marks (ending c earlier)) t.mark (marks after) rest (sym (split u) ∙ stops_at))

  -- the same token
  unfit_before : {before after others later : List Token} {t u : Token} → Unfit before after t → Unfit others later u → (between : List Token) → others ≡ before ++ t ∷ between → ⊥
  unfit_before {before} {t = t} f g between is =
      f.none (begins_front (ending t.mark (marks before)) (marks between)
      (subst Begins (ap marks is ∙ map-append (λ v. v.mark) before (t ∷ between) ∙ sym (append_assoc (marks before) (t.mark ∷ []) (marks between))) g.begins))

  unfit_same : {before after others later : List Token} {t u : Token} → Unfit before after t → Unfit others later u → t ≡ u
  unfit_same {before} {after} {others} {later} {t} {u} f g = at (places before others t u after later (sym f.is ∙ g.is))
    where
      at : Places before others t u → t ≡ u
      at (same_place is e) = e
      at (earlier_place r is) = absurd (unfit_before f g r is)
      at (later_place r is) = absurd (unfit_before g f r is)

  -- the same clause
  record SameStop (earlier others : List Clause) (c d : Clause) : Type 0 where
    front : earlier ≡ others
    here : c ≡ d

  -- where the one stops within the other's clauses
  stop_within : (earlier others : List Clause) (c d : Clause) {rest more : List Mark} → Stops earlier c rest → Stops others d more → (later : List Clause) → ending c earlier ≡ others ++ d ∷ later → SameStop earlier others c d
  stop_within earlier others c d s z later is = at (end_split earlier others later d c is)
    where
      at : ((others ≡ earlier) × (d ≡ c)) ⊎ ((r : List Clause) × (earlier ≡ others ++ d ∷ r)) → SameStop earlier others c d
      at (inl same) = record { front = sym same.0; here = sym same.1 }
      at (inr found) = absurd (z.none (taken_front (ending d others) found.0 (subst (Taken buffer) (found.1 ∙ sym (append_assoc others (d ∷ []) found.0)) s.taken)))

  stops_same : {earlier others : List Clause} {c d : Clause} {rest more : List Mark} → Stops earlier c rest → Stops others d more → SameStop earlier others c d
  stops_same {earlier} {others} {c} {d} {rest} {more} s z = at (fronts (ending c earlier) (ending d others) rest more (sym (stops_at s) ∙ stops_at z))
    where
      at : Ways (ending c earlier) [] rest begin (ending d others) more → SameStop earlier others c d
      at (fewer later is left) = stop_within earlier others c d s z later (is ∙ append_assoc others (d ∷ []) later)
      at (further e later is left) =
          let same = stop_within others earlier d c z s (e ∷ later) (is ∙ append_assoc earlier (c ∷ []) (e ∷ later)) in
          record { front = sym same.front; here = sym same.here }

  -- ---- so there is one

  importing : List Clause → Paged
  importing clauses = paged (numbers 0 (length clauses) (length (lines_for clauses)) 0) (over (lines_for clauses) buffer)

  -- 26 or 27
  stopping : Clause → List Clause → Paged
  stopping c earlier = refusal (cond (clause_fits (filled c)) 27 26) (length earlier + 1) buffer

  -- an outcome by the way it ends
  data Ends : Paged → Type 0 where
    written : (clauses : List Clause) → Writes text clauses → Whole → Ends (importing clauses)
    unwritten : ((clauses : List Clause) → Writes text clauses → ⊥) → Whole → Ends (refusal 25 (length text) buffer)
    at_token : {before after : List Token} {t : Token} → Unfit before after t → Ends (refusal 25 t.place buffer)
    at_clause : {earlier : List Clause} {c : Clause} {rest : List Mark} → Stops earlier c rest → Ends (stopping c earlier)

  the_tokens : {tokens : List Token} → Cut text tokens → tokens_of text ≡ tokens
  the_tokens {tokens} cut = (cut_exactly text tokens).1 cut

  ends : {a : Paged} → ImportOutcome text buffer a → Ends a
  unfolding importing stopping all
  ends (imported clauses is taken) = written clauses is (whole clauses is taken)
  ends (unfit before after t is begins none taken) = at_token {before = before} {after = after} {t = t} (record { is = the_tokens is; begins = begins; none = none; taken = taken })
  ends (unended tokens cut begins none taken) = let is = ap marks (sym (the_tokens cut)) in unwritten none (record { begins = subst Begins is begins; taken = subst (AllTaken buffer) is taken })
  ends (past tokens earlier c rest cut is taken fits) =
      subst Ends (ap (λ (b : Bool). refusal (cond b 27 26) (length earlier + 1) buffer) fits) (at_clause (stops_past earlier c rest (ap marks (the_tokens cut) ∙ is) taken fits))
  ends (full tokens earlier c rest cut is taken fits short) =
      subst Ends (ap (λ (b : Bool). refusal (cond b 27 26) (length earlier + 1) buffer) fits) (at_clause (stops_full earlier c rest (ap marks (the_tokens cut) ∙ is) taken short))

  one_end : {a b : Paged} → Ends a → Ends b → a ≡ b
  one_end (written clauses is w) (written others is' w') = ap importing (only_one_lem clauses others (sym (written_marks is) ∙ written_marks is'))
  one_end (written clauses is w) (unwritten none w') = absurd (none clauses is)
  one_end (written clauses is w) (at_token u) = absurd (whole_unfit u w)
  one_end (written clauses is w) (at_clause s) = absurd (whole_stops s w)
  one_end (unwritten none w) (written clauses is w') = absurd (none clauses is)
  one_end (unwritten none w) (unwritten none' w') = refl
  one_end (unwritten none w) (at_token u) = absurd (whole_unfit u w)
  one_end (unwritten none w) (at_clause s) = absurd (whole_stops s w)
  one_end (at_token u) (written clauses is w) = absurd (whole_unfit u w)
  one_end (at_token u) (unwritten none w) = absurd (whole_unfit u w)
  one_end (at_token u) (at_token v) = ap (λ (t : Token). refusal 25 t.place buffer) (unfit_same u v)
  one_end (at_token u) (at_clause s) = absurd (unfit_stops s u)
  one_end (at_clause s) (written clauses is w) = absurd (whole_stops s w)
  one_end (at_clause s) (unwritten none w) = absurd (whole_stops s w)
  one_end (at_clause s) (at_token u) = absurd (unfit_stops s u)
  one_end (at_clause s) (at_clause z) = let same = stops_same s z in ap₂ stopping same.here same.front

  pub one_outcome_lem : {a b : Paged} → ImportOutcome text buffer a → ImportOutcome text buffer b → a ≡ b
  one_outcome_lem o p = one_end (ends o) (ends p)
