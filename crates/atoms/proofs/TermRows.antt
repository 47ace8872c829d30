-- Terms that are read one by one into rows: a row over a rule's first variables, and over all of them when more come.
use mathlib.Core.Path.{◌≡◌, refl, sym, ◌∙◌, ap}
use Rattle.std.specs.Prelude.{Result, Ok}
use Rattle.words.specs.declared.Words.{Words}
use mathlib.Core.Bool.{true}
use mathlib.Core.List.Memᴰ
use mathlib.Core.List.{List, [], ◌∷◌, ◌++◌, append_assoc, append-nil}
use mathlib.Core.Option
use mathlib.Core.Option.{some}
use Prim.Native.Nat.{ℕ, zero, suc, ◌+◌, ◌≤◌, ◌<◌}
use native.Mathlib.Omega.{arith}
use borrow.Author.Count.{below_more}
use lib.Dec.{ltb}
use lib.IntN.{pos}
use lib.ListN.{length, get_or, take}
use lib.Seq.{take-suc, length-take-le, get_or-take}
use Rattle.groundwork.proofs.Lists.{member_get_d}
use Rattle.groundwork.proofs.Truth.{by_truth, ltb-lt, ltb-ge}
use Rattle.theory.specs.Lists.{◌∈◌}
use Rattle.theory.specs.Text.{Bytes}
use Rattle.theory.specs.Terms.{Term, Terms, variable, nil, cons, arity, read_term, variables, all_variables}
use Rattle.theory.specs.Sizes.{Measure, counted}
use Rattle.theory.specs.Forms.{form_of}
use Rattle.theory.specs.Written.{terms_from}
use Rattle.theory.specs.Residuals.{numbered}
use Rattle.theory.specs.Faults.{is_term}
use Rattle.theory.proofs.Reading.FieldValues.{value_read}
use Rattle.theory.proofs.Judging.RuleVariables.{numbered_append, numbered_length}
use Rattle.theory.proofs.Reading.TermFields.{terms_arity}
use Rattle.theory.proofs.Judging.Variables.{Once, member_numbered}
use Rattle.theory.proofs.Soundness.Sizes.{counted_variable}
use Rattle.terms.proofs.Numbering.{place_once, numbered_place}
use Rattle.terms.proofs.Counting.{occurrences_absent}
use Rattle.terms.specs.Rows.{Holds as HoldsVariables, VariablesTabled}
use Rattle.terms.specs.TermForms.{RowStands, FormTaken}
use Rattle.tables.specs.declared.Fault.{Fault}
use Rattle.tables.specs.Tables.{row_place, argument, AtomStands}
use Rattle.tables.specs.Lines.{at}
use Rattle.atoms.specs.Fields.{FieldTerm, known, ProgressTerms}
use Rattle.atoms.proofs.TermFields.{t_read}

-- ---- the terms of some fields

abbrev pub term_from : Bytes → Term
term_from f = Option.get_or (read_term f) (variable [])

pub argument_from : (fs : List Bytes) (k : ℕ) → k < length fs → argument (terms_from fs) k ≡ term_from (at fs k)
unfolding argument terms_from
argument_from [] k inside = absurd (omega arith)
argument_from (f ∷ fs) zero inside = refl
argument_from (f ∷ fs) (suc k) inside = argument_from fs k (omega arith)

variables_end : (fs : List Bytes) (f : Bytes) → all_variables (terms_from (fs ++ (f ∷ []))) ≡ all_variables (terms_from fs) ++ variables (term_from f)
unfolding terms_from all_variables
variables_end [] f = append-nil (variables (term_from f))
variables_end (g ∷ fs) f = ap (λ xs. variables (term_from g) ++ xs) (variables_end fs f) ∙ sym (append_assoc (variables (term_from g)) (all_variables (terms_from fs)) (variables (term_from f)))

-- one term more
pub known_more : (seen fs : List Bytes) (index : ℕ) → index < length fs → known seen fs (suc index) ≡ numbered (known seen fs index) (variables (term_from (at fs index)))
known_more seen fs index inside =
    ap (λ gs. numbered seen (all_variables (terms_from gs))) (take-suc fs index [] inside)
    ∙ ap (numbered seen) (variables_end (take index fs) (at fs index))
    ∙ numbered_append seen (all_variables (terms_from (take index fs))) (variables (term_from (at fs index)))

argument_variable : (ts : Terms) (k : ℕ) → k < arity ts → (x : Bytes) → x ∈ variables (argument ts k) → x ∈ all_variables ts
unfolding argument arity all_variables
argument_variable nil k inside x m = absurd (omega arith)
argument_variable (cons t ts) zero inside x m = Memᴰ.append_left (all_variables ts) m
argument_variable (cons t ts) (suc k) inside x m = Memᴰ.append_right (variables t) (argument_variable ts k (omega arith) x m)

-- a term read has its variables among those known
known_variable : (seen fs : List Bytes) (index k : ℕ) → k < index → index ≤ length fs → (x : Bytes) → x ∈ variables (argument (terms_from fs) k) → x ∈ known seen fs index
known_variable seen fs index k before inside x m =
    let read = take index fs in
    let within : k < length read = omega (arith, length-take-le index fs inside) in
    let same : argument (terms_from fs) k ≡ argument (terms_from read) k = argument_from fs k (omega arith) ∙ ap term_from (sym (get_or-take index fs k [] before)) ∙ sym (argument_from read k within) in
    member_numbered seen (all_variables (terms_from read)) (argument_variable (terms_from read) k (omega (arith, terms_arity read)) x (rw same at m))

-- ---- a row when more variables come

-- a variable that does not stand in a term counts nothing in its form
form_absent : (m : Measure) (t : Term) (x : Bytes) → (x ∈ variables t → ⊥) → (form_of m t).coefficient x ≡ pos 0
unfolding form_of
form_absent m t x absent = ap pos (occurrences_absent x (counted m t) (λ n. absent (counted_variable m t n)))

-- the variables of a term are among those of which its row tells: those that come later do not occur in it
module _ (xs ys : List Bytes) (once : Once (numbered xs ys)) (few : length (numbered xs ys) ≤ 16) where
  later_elsewhere : (i : ℕ) → length xs ≤ i → i < length (numbered xs ys) → get_or (numbered xs ys) i [] ∈ xs → ⊥
  later_elsewhere i later inside m =
      let found = member_get_d [] m in
      let low = found.1 in
      let same = place_once once found.0 i (omega (arith, numbered_length xs ys)) inside (numbered_place xs ys found.0 low ∙ found.2) in
      omega arith

  row_over_more : {m : Measure} (rows : List ℕ) (base : ℕ) (t : Term) → ((x : Bytes) → x ∈ variables t → x ∈ xs) → RowStands m rows base xs t → RowStands m rows base (numbered xs ys) t
  row_over_more {m} rows base t within row = record {
    constant = row.constant;
    coefficient = λ i inside. by_truth (λ b. pos (get_or rows (base + 1 + i) 0) ≡ (form_of m t).coefficient (get_or (numbered xs ys) i [])) (ltb i (length xs))
        (λ h. rw (numbered_place xs ys i (ltb-lt _ _ h)) (row.coefficient i (ltb-lt _ _ h)))
        (λ h. ap pos (row.beyond i (ltb-ge _ _ h) (omega arith)) ∙ sym (form_absent m t _ (λ n. later_elsewhere i (ltb-ge _ _ h) inside (within _ n))));
    beyond = λ i outside small. row.beyond i (omega (arith, numbered_length xs ys)) small;
  }

row_same : {m : Measure} (rows₀ rows : List ℕ) (base : ℕ) (xs : List Bytes) (t : Term) → length xs ≤ 16 → ((i : ℕ) → base ≤ i → i < base + 17 → get_or rows i 0 ≡ get_or rows₀ i 0) → RowStands m rows₀ base xs t → RowStands m rows base xs t
row_same rows₀ rows base xs t few same row = record {
  constant = ap pos (same base (omega arith) (omega arith)) ∙ row.constant;
  coefficient = λ i inside. ap pos (same (base + 1 + i) (omega arith) (omega arith)) ∙ row.coefficient i inside;
  beyond = λ i outside small. same (base + 1 + i) (omega arith) (omega arith) ∙ row.beyond i outside small;
}

-- an atom's rows stay where the numbers stay up to another atom's
pub atom_over_more : {m : Measure} (xs ys : List Bytes) → Once (numbered xs ys) → length (numbered xs ys) ≤ 16 → (rows₀ rows : List ℕ) (atom later : ℕ) (ts : Terms) → atom < later
    → ((i : ℕ) → i < row_place later 0 → get_or rows i 0 ≡ get_or rows₀ i 0) → ((x : Bytes) → x ∈ all_variables ts → x ∈ xs) → AtomStands m rows₀ atom xs ts → AtomStands m rows atom (numbered xs ys) ts
atom_over_more xs ys once few rows₀ rows atom later ts before same within stands = record {
  few = stands.few;
  row = λ k inside. row_over_more xs ys once few rows (row_place atom k) (argument ts k) (λ x m. within x (argument_variable ts k inside x m))
      (row_same rows₀ rows (row_place atom k) xs (argument ts k) (omega (arith, numbered_length xs ys)) (λ i low high. same i (omega (arith, stands.few))) (stands.row k inside));
}

-- ---- the terms of a line, one by one

pub terms_begin : (m : Measure) (atom : ℕ) (seen fs : List Bytes) {many : ℕ} {variables : List Words} (rows : List ℕ) → HoldsVariables variables seen → many ≡ length seen → ProgressTerms m atom seen fs 0 many variables rows rows
unfolding terms_from all_variables numbered
terms_begin m atom seen fs rows holds count = record {
  good = λ i h. absurd (omega arith);
  few = λ h. count;
  many_more = λ h. absurd (omega (arith, holds.few));
  holds = λ h. holds;
  row = λ h k inside. absurd (omega arith);
  before = λ i h. refl;
}

-- what the field of a term leaves, after the variables known so far
module _ {m : Measure} {atom index : ℕ} {field : Bytes} {many : ℕ} {names₀ : List Words} {rows₀ : List ℕ} {r : Result ℕ Fault} {names : List Words} {rows : List ℕ} (done : FieldTerm m atom index field many names₀ rows₀ r names rows) (size : length rows₀ ≡ 1224)
    (n : ℕ) (fine : r ≡ Ok n) (t : Term) (reads : read_term field ≡ some t) where
  taken : FormTaken m field names₀ many rows₀ (row_place atom index) n names rows
  taken = rw (t_read done fine).1 at (done.form (t_read done fine).0)

  -- past the limit nothing but the count is claimed
  tabled_after : (known : List Bytes) → (length known ≤ 16 → many ≡ length known) → (16 < length known → many ≡ 17) → (many ≤ 16 → HoldsVariables names₀ known) → VariablesTabled (λ xs. RowStands m rows (row_place atom index) xs t) known t n names
  tabled_after known few full holds = by_truth (λ b. VariablesTabled (λ xs. RowStands m rows (row_place atom index) xs t) known t n names) (ltb 16 (length known))
      (λ h.
      let past = ltb-lt 16 (length known) h in
      let is : n ≡ 17 = taken.full (omega (arith, full past)) in
      record {
        few = λ k. absurd (omega (arith, numbered_length known (variables t)));
        many = λ k. is;
        holds = λ k. absurd (omega arith);
        row = λ k. absurd (omega arith);
      })
      (λ h.
      let within = ltb-ge 16 (length known) h in
      let count = few within in
      taken.from known (holds (omega arith)) (sym count) size t reads)

module _ {m : Measure} {atom : ℕ} {seen fs : List Bytes} {index many : ℕ} {names₀ names : List Words} {rows₀ rows₁ rows : List ℕ} {r : Result ℕ Fault} {n : ℕ} where
  pub term_field : atom ≤ 8 → index < 8 → index < length fs → length rows₁ ≡ 1224 → ProgressTerms m atom seen fs index many names₀ rows₀ rows₁ → FieldTerm m atom index (at fs index) many names₀ rows₁ r names rows → r ≡ Ok n
      → ProgressTerms m atom seen fs (suc index) n names rows₀ rows
  term_field low place inside size before done fine = record {
    good = λ i h. below_more (λ j. is_term (at fs j) ≡ true) index before.good (t_read done fine).0 i (omega arith);
    few = rw (known_more seen fs index inside) left.few;
    many_more = rw (known_more seen fs index inside) left.many;
    holds = rw (known_more seen fs index inside) left.holds;
    row = λ h k lower. rw (known_more seen fs index inside) (below_more Stands index (earlier h) (latest h) k (omega arith));
    before = λ i h. kept i (omega arith) ∙ before.before i h;
  }
    where
      t : Term
      t = term_from (at fs index)

      reads : read_term (at fs index) ≡ some t
      reads = value_read read_term (variable []) (at fs index) (t_read done fine).0

      left : VariablesTabled (λ xs. RowStands m rows (row_place atom index) xs t) (known seen fs index) t n names
      left = tabled_after done size n fine t reads (known seen fs index) before.few before.many_more before.holds

      kept : (i : ℕ) → i < row_place atom index → get_or rows i 0 ≡ get_or rows₁ i 0
      kept = (taken done size n fine t reads).below

      Stands : ℕ → Type 0
      Stands k = RowStands m rows (row_place atom k) (numbered (known seen fs index) (variables t)) (argument (terms_from fs) k)

      earlier : n ≤ 16 → (k : ℕ) → k < index → Stands k
      earlier h k lower =
          let holds = left.holds h in
          let fewer : length (known seen fs index) ≤ 16 = omega (arith, holds.few, numbered_length (known seen fs index) (variables t)) in
          row_over_more (known seen fs index) (variables t) holds.once holds.few rows (row_place atom k) (argument (terms_from fs) k) (known_variable seen fs index k lower (omega arith))
          (row_same rows₁ rows (row_place atom k) (known seen fs index) (argument (terms_from fs) k) fewer (λ i low high. kept i (omega arith)) (before.row (omega (arith, before.few fewer)) k lower))

      latest : n ≤ 16 → Stands index
      latest h = rw (argument_from fs index inside) (left.row h)
