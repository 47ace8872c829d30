-- Marks whose names and variables are spelled as those of the subset; and clauses that are, which is the same of their marks.
use mathlib.Core.Path.{◌≡◌, refl}
use mathlib.Core.Bool.{Bool, true, false, ◌||◌}
use mathlib.Core.Logic.{◌⊎◌, inl, inr}
use mathlib.Core.List.Memᴰ
use mathlib.Core.List.{List, [], ◌∷◌, ◌++◌, flat_map}
use Rattle.groundwork.proofs.Lists.{all_cons, all_append}
use Rattle.groundwork.proofs.Truth.{or_left, or_right}
use Rattle.theory.specs.Lists.{◌∈◌}
use Rattle.theory.specs.Text.{Bytes, bytes, is_lower, is_upper}
use Rattle.theory.specs.Terms.{Term, Terms, symbol, nil, cons}
use Rattle.theory.specs.Terms as T
use Rattle.theory.specs.Packs.{Atom}
use Rattle.clause_theory.specs.ClauseTokens.{Mark, name, variable, opens, closes, comma, neck, stop, stray}
use Rattle.clause_theory.specs.Cutting.{is_run}
use Rattle.clause_theory.specs.Clauses.{Clause, term_marks, argument_marks, later_marks, atom_marks, body_marks, clause_marks}
use Rattle.clause_theory.specs.Import.{is_lone}
use Rattle.clause_theory.specs.Imported.{TermSpelled, TermsSpelled, AtomSpelled, ClauseSpelled}
use Rattle.theory.proofs.Reading.Bytes.{same_refl, same_equal}

unfoldable pub is_spelled : Mark → Bool
is_spelled (name f) = is_run is_lower f
is_spelled (variable x) = is_run is_upper x || is_lone x
is_spelled opens = true
is_spelled closes = true
is_spelled comma = true
is_spelled neck = true
is_spelled stop = true
is_spelled (stray s) = true

abbrev pub AllSpelled : List Mark → Type 0
AllSpelled ms = (m : Mark) → m ∈ ms → is_spelled m ≡ true

-- ---- variables

lone_told : (x : Bytes) → (is_run is_upper x ≡ true) ⊎ (x ≡ bytes "_") → (is_run is_upper x || is_lone x) ≡ true
lone_told x (inl run) = or_left (is_run is_upper x) (is_lone x) run
lone_told x (inr is) = or_right (is_run is_upper x) (is_lone x) (rw is (same_refl (bytes "_")))

told_lone : (x : Bytes) (run : Bool) → is_run is_upper x ≡ run → (run || is_lone x) ≡ true → (is_run is_upper x ≡ true) ⊎ (x ≡ bytes "_")
told_lone x true is e = inl is
told_lone x false is e = inr (same_equal x (bytes "_") e)

-- ---- from clauses to marks

one_mark : {m : Mark} → is_spelled m ≡ true → {ms : List Mark} → AllSpelled ms → AllSpelled (m ∷ ms)
one_mark spelled rest = all_cons (λ (m : Mark). is_spelled m ≡ true) spelled rest

no_marks : AllSpelled []
no_marks m n = absurd (Memᴰ.not-nil n)

both_marks : (ms ns : List Mark) → AllSpelled ms → AllSpelled ns → AllSpelled (ms ++ ns)
both_marks ms ns = all_append (λ (m : Mark). is_spelled m ≡ true) ms ns

mutual
  unfolding term_marks is_spelled

  term_marks_lem : (t : Term) → TermSpelled t → AllSpelled (term_marks t)
  term_marks_lem (T.variable x) h = one_mark (lone_told x h) no_marks
  term_marks_lem (symbol f ts) h = one_mark h.0 (argument_marks_lem ts h.1)

  argument_marks_lem : (ts : Terms) → TermsSpelled ts → AllSpelled (argument_marks ts)
  argument_marks_lem nil h = no_marks
  argument_marks_lem (cons t ts) h = one_mark refl (both_marks (term_marks t) (later_marks ts) (term_marks_lem t h.0) (later_marks_lem ts h.1))

  later_marks_lem : (ts : Terms) → TermsSpelled ts → AllSpelled (later_marks ts)
  later_marks_lem nil h = one_mark refl no_marks
  later_marks_lem (cons t ts) h = one_mark refl (both_marks (term_marks t) (later_marks ts) (term_marks_lem t h.0) (later_marks_lem ts h.1))

body_marks_lem : (before : Mark) → is_spelled before ≡ true → (atoms : List Atom) → ((a : Atom) → a ∈ atoms → AtomSpelled a) → AllSpelled (body_marks before atoms)
unfolding body_marks is_spelled
body_marks_lem before spelled [] h = one_mark refl no_marks
body_marks_lem before spelled (a ∷ atoms) h =
    one_mark spelled (both_marks (atom_marks a) (body_marks comma atoms) (term_marks_lem _ (h a (Memᴰ.head refl))) (body_marks_lem comma refl atoms (λ b n. h b (Memᴰ.tail n))))

pub clauses_marks : (clauses : List Clause) → ((c : Clause) → c ∈ clauses → ClauseSpelled c) → AllSpelled (flat_map clause_marks clauses)
unfolding flat_map clause_marks is_spelled
clauses_marks [] h = no_marks
clauses_marks (c ∷ clauses) h =
    let spelled = h c (Memᴰ.head refl) in
    both_marks (clause_marks c) (flat_map clause_marks clauses)
    (both_marks (atom_marks c.head) (body_marks neck c.subgoals) (term_marks_lem _ spelled.head) (body_marks_lem neck refl c.subgoals spelled.subgoals))
    (clauses_marks clauses (λ d n. h d (Memᴰ.tail n)))

-- ---- and back

left_marks : {ms : List Mark} (ns : List Mark) → AllSpelled (ms ++ ns) → AllSpelled ms
left_marks ns h m n = h m (Memᴰ.append_left ns n)

right_marks : (ms : List Mark) {ns : List Mark} → AllSpelled (ms ++ ns) → AllSpelled ns
right_marks ms h m n = h m (Memᴰ.append_right ms n)

rest_marks : {m : Mark} {ms : List Mark} → AllSpelled (m ∷ ms) → AllSpelled ms
rest_marks h m n = h m (Memᴰ.tail n)

mutual
  unfolding term_marks is_spelled

  marks_term : (t : Term) → AllSpelled (term_marks t) → TermSpelled t
  marks_term (T.variable x) h = told_lone x (is_run is_upper x) refl (h (variable x) (Memᴰ.head refl))
  marks_term (symbol f ts) h = (h (name f) (Memᴰ.head refl), marks_arguments ts (rest_marks h))

  marks_arguments : (ts : Terms) → AllSpelled (argument_marks ts) → TermsSpelled ts
  marks_arguments nil h = tt
  marks_arguments (cons t ts) h = (marks_term t (left_marks (later_marks ts) (rest_marks h)), marks_later ts (right_marks (term_marks t) (rest_marks h)))

  marks_later : (ts : Terms) → AllSpelled (later_marks ts) → TermsSpelled ts
  marks_later nil h = tt
  marks_later (cons t ts) h = (marks_term t (left_marks (later_marks ts) (rest_marks h)), marks_later ts (right_marks (term_marks t) (rest_marks h)))

marks_body : (before : Mark) (atoms : List Atom) → AllSpelled (body_marks before atoms) → (a : Atom) → a ∈ atoms → AtomSpelled a
unfolding body_marks
marks_body before [] h = λ a n. absurd (Memᴰ.not-nil n)
marks_body before (b ∷ atoms) h =
    all_cons AtomSpelled (marks_term _ (left_marks (body_marks comma atoms) (rest_marks h))) (marks_body comma atoms (right_marks (atom_marks b) (rest_marks h)))

pub marks_clauses : (clauses : List Clause) → AllSpelled (flat_map clause_marks clauses) → (c : Clause) → c ∈ clauses → ClauseSpelled c
unfolding flat_map clause_marks
marks_clauses [] h = λ c n. absurd (Memᴰ.not-nil n)
marks_clauses (d ∷ clauses) h =
    let first = left_marks (flat_map clause_marks clauses) h in
    all_cons ClauseSpelled
    (record { head = marks_term _ (left_marks (body_marks neck d.subgoals) first); subgoals = marks_body neck d.subgoals (right_marks (atom_marks d.head) first) })
    (marks_clauses clauses (right_marks (clause_marks d) h))
