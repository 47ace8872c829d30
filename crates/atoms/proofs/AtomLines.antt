-- Lines that state an atom: their faults from the terms on, and what their terms leave when all are read.
use mathlib.Core.Path.{◌≡◌, refl, sym, ◌∙◌, ap}
use mathlib.Core.Bool.{Bool, true, not}
use mathlib.Core.List.{List, [], ◌∷◌}
use Prim.Native.Nat.{ℕ, suc, ◌≤◌, ◌<◌}
use native.Mathlib.Omega.{arith}
use lib.Dec.{ltb}
use lib.ListN.{length, get_or, drop, length-drop}
use lib.Seq.{take-length, drop-append_seam}
use Rattle.std.specs.Prelude.{Result, Ok, Err}
use Rattle.groundwork.proofs.Truth.{by_truth, ltb-lt, ltb-ge, lt-ltb, ge-ltb}
use Rattle.theory.specs.Lists.{every}
use Rattle.theory.specs.Text.{Bytes, fields_of}
use Rattle.theory.specs.Terms.{arity, all_variables}
use Rattle.theory.specs.Sizes.{Measure}
use Rattle.theory.specs.Packs.{Pack, Key}
use Rattle.theory.specs.Written.{Written, terms_from}
use Rattle.theory.specs.Residuals.{numbered}
use Rattle.theory.specs.declared.Letter.{Letter}
use Rattle.theory.specs.Faults.{Test, test, is_term, first_given, atom_tests}
use Rattle.theory.proofs.Judging.Tests.{first_passed, first_found}
use Rattle.theory.proofs.Reading.Places.{places_every, not_every}
use Rattle.theory.proofs.Reading.TermFields.{terms_arity}
use Rattle.words.specs.declared.Words.{Words}
use Rattle.terms.specs.Rows.{Holds as HoldsVariables}
use Rattle.theory.proofs.Judging.Variables.{once_none}
use Rattle.tables.specs.declared.State.{State}
use Rattle.tables.specs.declared.Opened.{Opened}
use Rattle.tables.specs.declared.Fault.{Fault}
use Rattle.tables.specs.declared.Fault.TheVariants.{NoTerm}
use Rattle.tables.specs.Faults.{number_of}
use Rattle.tables.specs.Tables.{Tables, row_place, predicate_at, AtomStands, Holds, Safe}
use Rattle.tables.specs.Lines.{OldPredicate, at}
use Rattle.tables.proofs.Outcomes.{field_fails}
use Rattle.atoms.specs.Fields.{FieldTerm, known, ProgressTerms}
use Rattle.atoms.proofs.TermRows.{terms_begin, term_field}

-- ---- faults

module _ (l : Letter) (is_refused : Bool) (after_name afterTerms : List Test) (fields : List Bytes) (p : Pack) where
  -- the tests from 11 on
  from_terms : first_given (drop (suc (suc (length after_name))) (atom_tests l is_refused after_name afterTerms fields p)) ≡ first_given (test 11 (not (every is_term (drop 2 fields))) ∷ afterTerms)
  unfolding atom_tests
  from_terms = ap first_given (drop-append_seam after_name _)

  -- all are terms: those after 11 decide
  pub atom_ended : every is_term (drop 2 fields) ≡ true → first_given (drop (suc (suc (length after_name))) (atom_tests l is_refused after_name afterTerms fields p)) ≡ first_given afterTerms
  atom_ended good = from_terms ∙ first_passed 11 _ afterTerms (ap not good)

  pub atom_fault : {m : Measure} {atom index many : ℕ} {names₀ names : List Words} {rows₀ rows : List ℕ} {r : Result ℕ Fault} {f : Fault} → index < length (drop 2 fields) → FieldTerm m atom index (at (drop 2 fields) index) many names₀ rows₀ r names rows → r ≡ Err f
      → first_given (drop (suc (suc (length after_name))) (atom_tests l is_refused after_name afterTerms fields p)) ≡ number_of f
  atom_fault {index = index} inside done bad =
      let found = field_fails done.known NoTerm (is_term (at (drop 2 fields) index)) done.answer bad in
      from_terms ∙ first_found 11 _ afterTerms (ap not (not_every is_term (drop 2 fields) [] index inside found.0)) ∙ ap number_of found.1

-- ---- as many terms as the predicate has arguments

module _ {k : Key} {line : Bytes} {w : Written} {o : Opened} (named : OldPredicate k 2 line w o) where
  pub count_terms : arity (terms_from (drop 2 (fields_of line))) ≡ (predicate_at w.pack.predicates o.predicate).arguments
  count_terms = omega (arith, terms_arity (drop 2 (fields_of line)), length-drop 2 (fields_of line), named.full)

  pub few_terms : {t : Tables} {s : State} → Holds t s w → Safe t s → length (drop 2 (fields_of line)) ≤ 8
  few_terms {s = s} holds safe =
      let below : o.predicate < s.predicates = omega (arith, named.below, holds.declares.count) in
      omega (arith, terms_arity (drop 2 (fields_of line)), count_terms, holds.declares.arity o.predicate below, safe.signatures.arity o.predicate (omega (arith, safe.state.predicates)))

-- ---- all terms are read

-- the atom's rows stand over these variables, if they are few
pub record Finished (m : Measure) (atom : ℕ) (fs all : List Bytes) (many : ℕ) (variables : List Words) (rows₀ rows : List ℕ) : Type 0 where
  pub good : every is_term fs ≡ true
  pub past : ltb 16 many ≡ ltb 16 (length all)
  pub count : many ≤ 16 → many ≡ length all
  pub holds : many ≤ 16 → HoldsVariables variables all
  pub stands : many ≤ 16 → AtomStands m rows atom all (terms_from fs)
  pub before : (i : ℕ) → i < row_place atom 0 → get_or rows i 0 ≡ get_or rows₀ i 0

pub finished : {m : Measure} {atom : ℕ} {seen fs all : List Bytes} {many : ℕ} {variables : List Words} {rows₀ rows : List ℕ} → length fs ≤ 8 → all ≡ numbered seen (all_variables (terms_from fs)) → ProgressTerms m atom seen fs (length fs) many variables rows₀ rows
    → Finished m atom fs all many variables rows₀ rows
finished {seen = seen} {fs = fs} {all = all} {many = many} short is done = record {
  good = places_every is_term fs [] done.good;
  past = rw same (by_truth (λ b. ltb 16 many ≡ b) (ltb 16 (length (known seen fs (length fs)))) (λ h. lt-ltb 16 many (omega (arith, done.many_more (ltb-lt _ _ h)))) (λ h. ge-ltb 16 many (omega (arith, ltb-ge 16 (length (known seen fs (length fs))) h, done.few (ltb-ge _ _ h)))));
  count = λ h. rw same (done.few (done.holds h).few);
  holds = λ h. rw same (done.holds h);
  stands = λ h. rw same record { few = omega (arith, terms_arity fs); row = λ k inside. done.row h k (omega (arith, terms_arity fs)) };
  before = done.before;
}
  where
    same : all ≡ known seen fs (length fs)
    same = is ∙ ap (λ gs. numbered seen (all_variables (terms_from gs))) (sym (take-length fs))

-- ---- the first atom of its rule, or one with no rule: a head, a fact

pub first_begin : (m : Measure) (fs : List Bytes) (variables : List Words) (rows : List ℕ) → length variables ≡ 32 → ProgressTerms m 0 [] fs 0 0 variables rows rows
first_begin m fs variables rows size = terms_begin m 0 [] fs rows (record { size = size; few = omega arith; words = λ i h. absurd (omega arith); proper = λ i h. absurd (omega arith); once = once_none }) refl

pub first_field : {m : Measure} {fs : List Bytes} {index many : ℕ} {variables₀ variables : List Words} {rows₀ rows₁ rows : List ℕ} {r : Result ℕ Fault} {n : ℕ} → index < 8 → index < length fs → length rows₁ ≡ 1224 → ProgressTerms m 0 [] fs index many variables₀ rows₀ rows₁
    → FieldTerm m 0 index (at fs index) many variables₀ rows₁ r variables rows → r ≡ Ok n → ProgressTerms m 0 [] fs (suc index) n variables rows₀ rows
first_field = term_field (omega arith)
