-- Twice as many bytes as a text has are room enough for its lines: token by token, a clause's lines have at most twice its bytes.
use mathlib.Core.Path.{◌≡◌, refl, ◌∙◌, ap}
use mathlib.Core.Logic.{⊎_elim}
use mathlib.Core.Bool.{Bool, true, cond}
use mathlib.Core.List.Memᴰ
use mathlib.Core.List.{List, [], ◌∷◌, ◌++◌, map, flat_map}
use Prim.Native.Nat.{ℕ, suc, ◌+◌, ◌*◌, ◌≤◌, ◌<◌}
use native.Mathlib.Decide.{dec_lt}
use native.Mathlib.Omega.{arith}
use lib.ListN.{length, take, drop, length-append, get_or-eq_default}
use lib.Seq.{split_at, length-take-le}
use Rattle.groundwork.proofs.Truth.{by_truth}
use Rattle.theory.specs.Lists.{◌∈◌}
use Rattle.theory.specs.Text.{Bytes, bytes, among, decimal}
use Rattle.theory.specs.Terms.{Term, Terms, symbol, nil, cons, arity, symbol_token, tokens, all_tokens, WellFormed, AllWellFormed, variables, all_variables}
use Rattle.theory.specs.Terms as T
use Rattle.theory.specs.Packs.{Atom, term_fields, head_line, subgoal_line, line, text_of}
use Rattle.clause_theory.specs.ClauseTokens.{Mark, name, variable, opens, closes, comma, neck, stop, stray, Token}
use Rattle.clause_theory.specs.Cutting.{Known, a_name, a_variable, the_lone, an_opening, a_closing, a_comma, a_neck, a_stop, last_stop, Marked, known, unknown, CutFrom, nothing_left, layout_first, token_first, Cut}
use Rattle.clause_theory.specs.Clauses.{Clause, term_marks, argument_marks, later_marks, atom_marks, body_marks, clause_marks}
use Rattle.theory.specs.Residuals.{numbered}
use Rattle.clause_theory.specs.Import.{clause_variables, is_lone, lones, numbered_variable, nth, fresh_of, filled_term, filled_terms, filled_atom, filled_atoms, filled, clause_lines, clause_fits}
use Rattle.clause_theory.specs.Imported.{marks, AtomWithin, lines_for}
use Rattle.clause_theory.proofs.FilledVariables.{named, filled_count}
use Rattle.clause_theory.proofs.ClauseLimits.{variables_few, limits_kept}
use Rattle.clause_theory.proofs.FreshNumbering.{among_numbered_named}
use Rattle.clause_theory.proofs.FreshVariables.{numbers_few, fresh_length}
use Rattle.clause_theory.proofs.Freshness.{fresh_each}
use Rattle.theory.proofs.Judging.Variables.{among_member, not_among}
use Rattle.theory.proofs.Reading.Bytes.{same_equal}
use Rattle.theory.proofs.Reading.Digits.{digits_one, digits_few}
use Rattle.theory.proofs.Reading.Spelling.{name_some}
use Rattle.theory.proofs.Reading.TermLengths.{lengths_after, joined_length, after_append, fields_after}

-- ---- the bytes of tokens

spelling : Mark → Bytes
spelling (name f) = f
spelling (variable x) = x
spelling opens = bytes "("
spelling closes = bytes ")"
spelling comma = bytes ","
spelling neck = bytes ":-"
spelling stop = bytes "."
spelling (stray s) = s

byte_count : List Mark → ℕ
byte_count [] = 0
byte_count (m ∷ ms) = length (spelling m) + byte_count ms

count_append : (ms ns : List Mark) → byte_count (ms ++ ns) ≡ byte_count ms + byte_count ns
unfolding byte_count
count_append [] ns = omega arith
count_append (m ∷ ms) ns = omega (arith, count_append ms ns)

known_spelling : {apart : Bool} {s after : Bytes} {m : Mark} → Known apart s after m → s ≡ spelling m
unfolding spelling
known_spelling (a_name is) = refl
known_spelling (a_variable is) = refl
known_spelling (the_lone is) = refl
known_spelling (an_opening is tight) = is
known_spelling (a_closing is) = is
known_spelling (a_comma is) = is
known_spelling (a_neck is) = is
known_spelling (a_stop c rest is follows layout) = is
known_spelling (last_stop is none) = is

mark_spelling : {apart : Bool} {s after : Bytes} {m : Mark} → Marked apart s after m → s ≡ spelling m
unfolding spelling
mark_spelling (known is) = known_spelling is
mark_spelling (unknown none) = refl

-- a text has no fewer bytes than its tokens
count_within : {apart : Bool} {place : ℕ} {text : Bytes} {ts : List Token} → CutFrom apart place text ts → byte_count (marks ts) ≤ length text
unfolding byte_count
count_within nothing_left = omega arith
count_within (layout_first layout later) = omega (arith, count_within later)
count_within (token_first {s = s} {text = text} piece marked later) = omega (arith, ap length (mark_spelling marked), length-append s text, count_within later)

text_count : {text : Bytes} {tokens : List Token} → Cut text tokens → (front rest : List Mark) → marks tokens ≡ front ++ rest → byte_count front ≤ length text
text_count cut front rest is = omega (arith, count_within cut, ap byte_count is, count_append front rest)

-- ---- terms

lone_some : (x : Bytes) → is_lone x ≡ true → length x ≡ 1
unfolding bytes
lone_some x is = ap length (same_equal x (bytes "_") is)

module _ (fresh : List Bytes) (short : (i : ℕ) → length (nth fresh i) ≤ 3) where
  mutual
    unfolding filled_term term_marks tokens lengths_after byte_count spelling bytes symbol_token

    term_room : (i : ℕ) (t : Term) → WellFormed (filled_term fresh i t) → lengths_after (tokens (filled_term fresh i t)) ≤ 2 * suc (byte_count (term_marks t))
    term_room i (T.variable x) formed =
        by_truth (λ c. is_lone x ≡ c → lengths_after (tokens (cond c (T.variable (nth fresh i)) (T.variable x))) ≤ 2 * suc (length x + 0)) (is_lone x)
        (λ _ is. omega (arith, short i, lone_some x is)) (λ _ is. omega arith) refl
    term_room i (symbol f ts) formed =
        let k = arity (filled_terms fresh i ts) in
        omega (arith, name_some f formed.0, length-append f (47 ∷ decimal k), digits_one k (omega (arith, formed.1)), arguments_room i ts formed.2)

    arguments_room : (i : ℕ) (ts : Terms) → AllWellFormed (filled_terms fresh i ts) → lengths_after (all_tokens (filled_terms fresh i ts)) ≤ 2 * byte_count (argument_marks ts)
    arguments_room i nil formed = omega arith
    arguments_room i (cons t ts) formed =
        let j = i + lones (variables t) in
        omega (arith, after_append (tokens (filled_term fresh i t)) (all_tokens (filled_terms fresh j ts)), count_append (term_marks t) (later_marks ts), term_room i t formed.0, later_room j ts formed.1)

    later_room : (i : ℕ) (ts : Terms) → AllWellFormed (filled_terms fresh i ts) → lengths_after (all_tokens (filled_terms fresh i ts)) + 2 ≤ 2 * byte_count (later_marks ts)
    later_room i nil formed = omega arith
    later_room i (cons t ts) formed =
        let j = i + lones (variables t) in
        omega (arith, after_append (tokens (filled_term fresh i t)) (all_tokens (filled_terms fresh j ts)), count_append (term_marks t) (later_marks ts), term_room i t formed.0, later_room j ts formed.1)

  -- ---- lines

  -- a head's or a subgoal's line and its end, against its tokens and the one after them
  atom_room : (letter : ℕ) (i : ℕ) (a : Atom) → AtomWithin (filled_atom fresh i a)
      → suc (length (line ((letter ∷ []) ∷ (filled_atom fresh i a).name ∷ term_fields (filled_atom fresh i a).terms))) ≤ 2 * suc (byte_count (atom_marks a))
  unfolding filled_atom term_marks lengths_after byte_count spelling
  atom_room letter i a within =
      let ts = filled_terms fresh i a.terms in
      omega (arith, joined_length 44 (letter ∷ []) (a.name ∷ term_fields ts), fields_after ts, name_some a.name within.named, arguments_room i a.terms within.formed)

  body_room : (before : Mark) → 1 ≤ length (spelling before) → (i : ℕ) (atoms : List Atom) → ((a : Atom) → a ∈ filled_atoms fresh i atoms → AtomWithin a)
      → length (text_of (map line (map subgoal_line (filled_atoms fresh i atoms)))) + 2 ≤ 2 * byte_count (body_marks before atoms)
  unfolding filled_atoms body_marks text_of subgoal_line byte_count spelling bytes
  body_room before some i [] within = omega arith
  body_room before some i (a ∷ atoms) within =
      let j = i + lones (all_variables a.terms) in
      let l = line (subgoal_line (filled_atom fresh i a)) in
      let later = map line (map subgoal_line (filled_atoms fresh j atoms)) in
      omega (arith, length-append l (10 ∷ text_of later), atom_room 66 i a (within (filled_atom fresh i a) (Memᴰ.head refl)), body_room comma (omega arith) j atoms (λ b m. within b (Memᴰ.tail m)), count_append (atom_marks a) (body_marks comma atoms))

-- ---- fresh variables are short

member_among : (x : Bytes) (ys : List Bytes) → x ∈ ys → among x ys ≡ true
member_among x ys m = by_truth (λ b. among x ys ≡ b → b ≡ true) (among x ys) (λ _ _. refl) (λ _ e. absurd (not_among x ys e m)) refl

module _ (c : Clause) (fits : clause_fits (filled c) ≡ true) where
  abbrev names : List Bytes
  names = numbered [] (named (clause_variables c))

  fresh_short : (i : ℕ) → length (nth (fresh_of c) i) ≤ 3
  unfolding numbered_variable
  fresh_short i = at (dec_lt i (length (fresh_of c)))
    where
      made : List Bytes
      made = take i (fresh_of c)

      taken_there : (m : ℕ) → numbered_variable m ∈ (made ++ clause_variables c) → among (numbered_variable m) (made ++ names) ≡ true
      taken_there m n =
          member_among (numbered_variable m) (made ++ names)
          (⊎_elim (Memᴰ.append_left names)
          (λ written. Memᴰ.append_right made (among_member (numbered_variable m) names (among_numbered_named m (clause_variables c) ∙ member_among (numbered_variable m) (clause_variables c) written)))
          (Memᴰ.append_cases made n))

      at : Dec (i < length (fresh_of c)) → length (nth (fresh_of c) i) ≤ 3
      at (no past) = omega (arith, ap length (get_or-eq_default (fresh_of c) [] {n = i} (omega arith)))
      at (yes inside) =
          let v = fresh_each (lones (clause_variables c)) (clause_variables c) made (drop (suc i) (fresh_of c)) (nth (fresh_of c) i) (split_at (fresh_of c) i [] inside) in
          let few = numbers_few 1 v.number (made ++ names) (λ m from below. taken_there m (v.lowest m from below)) in
          let low : v.number < 100 =
          omega (arith, few, length-append made names, length-take-le i (fresh_of c) (omega arith), fresh_length (lones (clause_variables c)) (clause_variables c), filled_count c, variables_few (filled c) ((limits_kept (filled c)).fits.0 fits).variables) in
          omega (arith, ap length v.is, digits_few 1 v.number low)

  -- ---- a clause

  clause_room : length (text_of (clause_lines (filled c))) ≤ 2 * byte_count (clause_marks c)
  unfolding clause_lines filled clause_marks text_of head_line spelling bytes
  clause_room =
      let within = ((limits_kept (filled c)).fits.0 fits).atoms in
      let lone = lones (all_variables c.head.terms) in
      let l = line (head_line (filled c).head) in
      let later = map line (map subgoal_line (filled c).subgoals) in
      omega (
        arith,
        length-append l (10 ∷ text_of later),
        atom_room (fresh_of c) fresh_short 72 0 c.head (within (filled c).head (Memᴰ.head refl)),
        body_room (fresh_of c) fresh_short neck (omega arith) lone c.subgoals (λ a m. within a (Memᴰ.tail m)),
        count_append (atom_marks c.head) (body_marks neck c.subgoals),
      )

-- ---- clauses

lines_room : (clauses : List Clause) → ((c : Clause) → c ∈ clauses → clause_fits (filled c) ≡ true) → length (lines_for clauses) ≤ 2 * byte_count (flat_map clause_marks clauses)
unfolding lines_for byte_count flat_map
lines_room [] fit = omega arith
lines_room (c ∷ clauses) fit =
    omega (
      arith,
      clause_room c (fit c (Memᴰ.head refl)),
      lines_room clauses (λ d m. fit d (Memᴰ.tail m)),
      length-append (text_of (clause_lines (filled c))) (lines_for clauses),
      count_append (clause_marks c) (flat_map clause_marks clauses),
    )

pub room_enough : {text : Bytes} {tokens : List Token} → Cut text tokens → (clauses : List Clause) (rest : List Mark) → marks tokens ≡ flat_map clause_marks clauses ++ rest → ((c : Clause) → c ∈ clauses → clause_fits (filled c) ≡ true)
    → length (lines_for clauses) ≤ 2 * length text
room_enough cut clauses rest is fit = omega (arith, lines_room clauses fit, text_count cut (flat_map clause_marks clauses) rest is)
