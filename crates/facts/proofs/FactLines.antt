-- `G` lines: their terms, and what they add to the facts.
use mathlib.Core.Path.{◌≡◌, refl, sym, ◌∙◌, ap}
use mathlib.Core.Bool.{Bool, true, false, not, cond}
use mathlib.Core.List.Memᴰ
use mathlib.Core.List.{List, [], ◌∷◌}
use Prim.Native.Nat.{ℕ, ◌≤◌, ◌<◌}
use native.Mathlib.Omega.{arith}
use lib.Dec.{ltb}
use lib.IntN.{ℤ}
use lib.ListN.{length, drop}
use Rattle.std.specs.Prelude.{Result, Ok, Err}
use Rattle.groundwork.proofs.Lists.{member_get_d}
use Rattle.groundwork.proofs.Truth.{by_truth, ltb-lt, ltb-ge}
use Rattle.theory.specs.Lists.{is_empty}
use Rattle.theory.specs.Text.{Bytes, fields_of}
use Rattle.theory.specs.Terms.{all_variables}
use Rattle.theory.specs.Sizes.{Measure}
use Rattle.theory.specs.Packs.{Atom, measure_in, atom_key, claims_on}
use Rattle.theory.specs.declared.Letter.TheVariants.{G}
use Rattle.theory.specs.Written.{Written, terms_from, atom_from, add}
use Rattle.theory.specs.Residuals.{numbered}
use Rattle.theory.specs.Facts.{meets_every}
use Rattle.theory.specs.Faults.{Manner, test, first_given, fact_tests, tests, fault}
use Rattle.theory.proofs.Reading.Presence.{is_empty_lem, empty_is, filled_is}
use Rattle.theory.proofs.Judging.Keys.{on_arity}
use Rattle.theory.proofs.Judging.LineWriting.{writes_letter}
use Rattle.theory.proofs.Judging.Variables.{member_numbered}
use Rattle.theory.proofs.Judging.Sections.{facts_stand}
use Rattle.words.specs.declared.Words.{Words}
use Rattle.tables.specs.declared.Signature.{Signature}
use Rattle.tables.specs.declared.State.{State}
use Rattle.tables.specs.declared.Opened.{Opened}
use Rattle.tables.specs.declared.Fault.{Fault}
use Rattle.tables.specs.declared.Fault.TheVariants.{NotGround}
use Rattle.tables.specs.Faults.{number_of, closing_number}
use Rattle.tables.specs.Tables.{Tables, tables, SafeRows, Holds, Safe}
use Rattle.tables.specs.Lines.{Passed, at, ClosedFor}
use Rattle.tables.proofs.Outcomes.{ok_never_err, same_ok, same_err}
use Rattle.tables.proofs.PredicateSets.{key_alone}
use Rattle.tables.proofs.Shipping.{ships_more}
use Rattle.atoms.specs.Fields.{FieldTerm, ProgressTerms}
use Rattle.atoms.proofs.AtomLines.{atom_ended, atom_fault, count_terms, few_terms, Finished, finished}
use Rattle.facts.specs.Ends.{met_by, with_fact, ended, ClosesG}
use Rattle.facts.proofs.Meeting.{met_is}

pub g_fault : {manner : Manner} {m : Measure} {line : Bytes} {s : State} {w : Written} {o : Opened} {atom index many : ℕ} {variables₀ variables : List Words} {rows₀ rows : List ℕ} {r : Result ℕ Fault} {f : Fault} → Passed manner G line s w o → index < length (drop 2 (fields_of line))
    → FieldTerm m atom index (at (drop 2 (fields_of line)) index) many variables₀ rows₀ r variables rows → r ≡ Err f → fault manner w line ≡ number_of f
unfolding tests fact_tests
g_fault {line = line} {w = w} passed inside done bad = passed.left ∙ atom_fault G false (_ ∷ []) _ (fields_of line) w.pack inside done bad

-- ---- what the line's end answers

module _ (o : Opened) (s : State) where
  -- the numbers of its last tests, where the second is told only of a ground fact
  end_number : (varies met meets : Bool) → (varies ≡ false → met ≡ meets) → {r : Result State Fault} → r ≡ cond varies (Err NotGround) (ended met o s) → first_given (test 21 varies ∷ test 22 (not meets) ∷ []) ≡ closing_number r
  unfolding first_given
  end_number true met meets same is = sym (ap closing_number is)
  end_number false true meets same is = rw (← same refl) (sym (ap closing_number is))
  end_number false false meets same is = rw (← same refl) (sym (ap closing_number is))

  end_done : (varies met : Bool) {r : Result State Fault} {next : State} → r ≡ cond varies (Err NotGround) (ended met o s) → r ≡ Ok next → (varies ≡ false) × (met ≡ true) × (with_fact o.predicate s ≡ next)
  end_done true met is e = absurd (ok_never_err (sym e ∙ is))
  end_done false true is e = (refl, refl, same_ok (sym is ∙ e))
  end_done false false is e = absurd (ok_never_err (sym e ∙ is))

  end_other : (varies met : Bool) {r : Result State Fault} {f : Fault} → r ≡ cond varies (Err NotGround) (ended met o s) → r ≡ Err f → number_of f ≡ 13 → ⊥
  end_other true met is e n = omega (arith, ap number_of (same_err (sym is ∙ e)))
  end_other false true is e n = ok_never_err (sym is ∙ e)
  end_other false false is e n = omega (arith, ap number_of (same_err (sym is ∙ e)))

-- ---- whether the fact is ground

-- some variables are numbered exactly if there are some
none_numbered : (xs : List Bytes) → length (numbered [] xs) ≡ 0 → xs ≡ []
none_numbered [] e = refl
none_numbered (x ∷ xs) e = let found = member_get_d [] (member_numbered [] (x ∷ xs) (Memᴰ.head refl)) in absurd (omega (arith, found.1))

some_numbered : (xs : List Bytes) → 0 < length (numbered [] xs) → xs ≡ [] → ⊥
unfolding numbered
some_numbered xs h e = omega (arith, ap (λ (ys : List Bytes). length (numbered [] ys)) e)

module _ {m : Measure} {fs : List Bytes} {many : ℕ} {variables : List Words} {rows₀ rows : List ℕ} (terms : Finished m 0 fs (numbered [] (all_variables (terms_from fs))) many variables rows₀ rows) where
  ground_told : ltb 0 many ≡ not (is_empty (all_variables (terms_from fs)))
  ground_told =
      by_truth (λ (b : Bool). b ≡ not (is_empty (all_variables (terms_from fs)))) (ltb 0 many)
      (λ h. sym (ap not (filled_is _ (some_numbered _ (many_numbered (ltb-lt 0 many h))))))
      (λ h. let zero : many ≤ 0 = ltb-ge 0 many h in sym (ap not (empty_is _ (none_numbered _ (sym (terms.count (omega arith)) ∙ omega arith)))))
    where
      many_numbered : 0 < many → 0 < length (numbered [] (all_variables (terms_from fs)))
      many_numbered h =
          by_truth (λ (b : Bool). 0 < length (numbered [] (all_variables (terms_from fs)))) (ltb 16 many)
          (λ e. omega (arith, ltb-lt 16 (length (numbered [] (all_variables (terms_from fs)))) (sym terms.past ∙ e)))
          (λ e. omega (arith, terms.count (ltb-ge 16 many e)))

-- ---- the line's end

module _ {manner : Manner} {line : Bytes} {t : Tables} {s : State} {w : Written} {o : Opened} {many : ℕ} {variables : List Words} {rows : List ℕ} (holds : Holds t s w) (safe : Safe t s) (passed : Passed manner G line s w o)
    (done : ProgressTerms (measure_in w.pack) 0 [] (drop 2 (fields_of line)) (length (drop 2 (fields_of line))) many variables t.rows rows) where
  abbrev fact : Atom
  fact = atom_from (fields_of line)

  terms : Finished (measure_in w.pack) 0 (drop 2 (fields_of line)) (numbered [] (all_variables (terms_from (drop 2 (fields_of line))))) many variables t.rows rows
  terms = finished (few_terms passed.named holds safe) refl done

  abbrev met : Bool
  met = met_by o t.signatures t.claims rows

  -- what the tables say of its claims, where it is ground
  met_told : ltb 0 many ≡ false → met ≡ meets_every w.pack fact
  unfolding atom_from
  met_told e =
      let key = passed.named.is in
      let below = passed.named.below in
      let p = o.predicate in
      let known : p < s.predicates = omega (arith, holds.declares.count) in
      let full = sym (count_terms passed.named) in
      rw (holds.declares.arity p known ∙ full, holds.claims.count p below, key)
      (met_is p fact (claims_on (atom_key fact) w.pack.claims) (terms.stands (omega (arith, ltb-ge 0 many e)))
      (λ j less. rw key at (holds.claims.at p j below (rw key less)))
      (on_arity (atom_key fact) w.pack.claims))

  fact_holds : Holds (tables t.signatures t.claims variables rows t.slots) (with_fact o.predicate s) (record { pack = add G (fields_of line) w.pack; ended = w.ended })
  unfolding add
  fact_holds = record {
    declares = holds.declares;
    claims = holds.claims;
    claimed = holds.claimed;
    shipped = ships_more holds.shipped fact o.predicate (key_alone holds.declares o.predicate passed.named.below) passed.named.below passed.named.is;
    owing = holds.owing;
    headed = holds.headed;
    rules = holds.rules;
    lines = holds.lines;
    last = λ some. absurd (some (is_empty_lem w.pack.rules (sym (facts_stand w.pack) ∙ passed.stands)));
    ended = holds.ended;
  }

  pub g_close : {r : Result State Fault} → ClosesG o s many t.signatures t.claims rows r → ClosedFor manner line w r (tables t.signatures t.claims variables rows t.slots)
  unfolding tests fact_tests atom_from
  g_close closes = record {
    answer =
        passed.left
        ∙ atom_ended G false (_ ∷ []) _ (fields_of line) w.pack terms.good
        ∙ rw (← ground_told terms) (end_number o s (ltb 0 many) met (meets_every w.pack fact) met_told closes.answer);
    holds = λ next fine. rw (← (end_done o s (ltb 0 many) met closes.answer fine).2, writes_letter G w line passed.first refl) fact_holds;
  }

-- the ranges are kept
pub g_safe : {t : Tables} {s : State} {o : Opened} {many : ℕ} {variables : List Words} {rows : List ℕ} {r : Result State Fault} → Safe t s → length variables ≡ 32 → length rows ≡ 1224 → SafeRows rows → ClosesG o s many t.signatures t.claims rows r
    → (next : State) → r ≡ Ok next → Safe (tables t.signatures t.claims variables rows t.slots) next
g_safe {t} {s} {o} {many} {rows = rows} safe name_size row_size small closes next fine =
    let state = safe.state in
    rw (← (end_done o s (ltb 0 many) (met_by o t.signatures t.claims rows) closes.answer fine).2) record {
      sizes = record { signatures = safe.sizes.signatures; claims = safe.sizes.claims; variables = name_size; rows = row_size; slots = safe.sizes.slots };
      state = record { predicates = state.predicates; rules = state.rules; head = state.head; subgoals = state.subgoals; variables = state.variables; slots = state.slots; multipliers = state.multipliers; lines = state.lines };
      signatures = safe.signatures;
      claims = safe.claims;
      rows = small;
      slots = safe.slots;
    }

pub g_other : {o : Opened} {s : State} {many : ℕ} {signatures : List Signature} {claims : List ℤ} {rows : List ℕ} {r : Result State Fault} → ClosesG o s many signatures claims rows r → (f : Fault) → r ≡ Err f → number_of f ≡ 13 → ⊥
g_other {o} {s} {many} {signatures} {claims} {rows} closes f = end_other o s (ltb 0 many) (met_by o signatures claims rows) closes.answer
