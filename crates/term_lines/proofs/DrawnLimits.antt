-- The limits, token by token: what a state meets, those before it met, so a limit that is passed once stays passed.
use mathlib.Core.Path.{◌≡◌, refl, sym, ◌∙◌, ap, subst}
use mathlib.Core.Logic.{◌⊎◌, ⊎_elim}
use mathlib.Core.Bool.{true, ◌&&◌}
use mathlib.Core.List.Memᴰ
use mathlib.Core.List.{List, [], ◌∷◌, ◌++◌, append-nil}
use mathlib.Core.Option.{Option, some, none}
use Prim.Native.Nat.{ℕ, suc, ◌+◌, ◌*◌, ◌≤◌}
use native.Mathlib.Omega.{arith}
use lib.Dec.{leb}
use lib.ListN.{length, length-append}
use Rattle.groundwork.proofs.Truth.{and_left, and_right, and_both, leb-le, le-leb}
use Rattle.groundwork.proofs.Lists.{length_end, end_cases}
use Rattle.theory.specs.Lists.{◌∈◌, every}
use Rattle.theory.specs.Text.{Bytes, bytes, is_name, decimal}
use Rattle.theory.specs.Terms.{Term, Terms, symbol, nil, cons, arity, symbol_token, written_term}
use Rattle.theory.specs.Terms as Terms
use Rattle.theory.specs.Packs.{Atom, text_of, variable_limit}
use Rattle.theory.specs.Residuals.{rule_variables}
use Rattle.clause_theory.specs.ClauseTokens.{Mark}
use Rattle.clause_theory.specs.Clauses.{Clause, Open, ending_term, Last, due, read, State, state, atom_of, added}
use Rattle.clause_theory.specs.Import.{clause_lines, term_fits, terms_fit, atom_fits, line_fits, clause_fits}
use Rattle.theory.proofs.Reading.Decimals.{decimal_one}
use Rattle.theory.proofs.Reading.Spelling.{name_some}
use Rattle.theory.proofs.Reading.Every.{every_member, members_every}
use Rattle.clause_theory.proofs.Running.{Runs, runs_end, runs_on}
use Rattle.term_lines.proofs.Moving.{step_goes, step_ends}
use Rattle.term_lines.specs.Texts.{line_front, done_text, after_each, atom_text, open_text, last_text, line_text, drawn_text, Moves, names_atom, names_symbol, reads_variable, opens_atom, opens_symbol, closes_one, ends_line, next_argument, next_term, atoms_of, lines_of, OpenFits, OpenedFit, LastFits, current, PartsFit, StateFits}
use Rattle.term_lines.proofs.DrawnTexts.{arity_more, lines_more, lines_first, drawn_atom_name, drawn_symbol, drawn_variable, drawn_atom_opens, drawn_symbol_opens, drawn_symbol_digit, drawn_closes, drawn_argument, drawn_line, drawn_digit, drawn_next}

-- ---- what fits

module _ (f : Bytes) (ts : Terms) where
  pub symbol_named : term_fits (symbol f ts) ≡ true → is_name f ≡ true
  unfolding term_fits
  symbol_named h = and_left (is_name f) (leb (arity ts) 9) (and_left (is_name f && leb (arity ts) 9) (terms_fit ts) h)

  pub symbol_few : term_fits (symbol f ts) ≡ true → arity ts ≤ 9
  unfolding term_fits
  symbol_few h = leb-le (arity ts) 9 (and_right (is_name f) (leb (arity ts) 9) (and_left (is_name f && leb (arity ts) 9) (terms_fit ts) h))

  pub symbol_formed : term_fits (symbol f ts) ≡ true → terms_fit ts ≡ true
  unfolding term_fits
  symbol_formed h = and_right (is_name f && leb (arity ts) 9) (terms_fit ts) h

  pub symbol_fits : is_name f ≡ true → arity ts ≤ 9 → terms_fit ts ≡ true → term_fits (symbol f ts) ≡ true
  unfolding term_fits
  symbol_fits n k h = and_both (is_name f && leb (arity ts) 9) (terms_fit ts) (and_both (is_name f) (leb (arity ts) 9) n (le-leb (arity ts) 9 k)) h

  pub atom_named : atom_fits (record { name = f; terms = ts }) ≡ true → is_name f ≡ true
  unfolding atom_fits
  atom_named h = and_left (is_name f) (leb (arity ts) 8) (and_left (is_name f && leb (arity ts) 8) (terms_fit ts) h)

  pub atom_few : atom_fits (record { name = f; terms = ts }) ≡ true → arity ts ≤ 8
  unfolding atom_fits
  atom_few h = leb-le (arity ts) 8 (and_right (is_name f) (leb (arity ts) 8) (and_left (is_name f && leb (arity ts) 8) (terms_fit ts) h))

  pub atom_formed : atom_fits (record { name = f; terms = ts }) ≡ true → terms_fit ts ≡ true
  unfolding atom_fits
  atom_formed h = and_right (is_name f && leb (arity ts) 8) (terms_fit ts) h

  pub atom_fits_lem : is_name f ≡ true → arity ts ≤ 8 → terms_fit ts ≡ true → atom_fits (record { name = f; terms = ts }) ≡ true
  unfolding atom_fits
  atom_fits_lem n k h = and_both (is_name f && leb (arity ts) 8) (terms_fit ts) (and_both (is_name f) (leb (arity ts) 8) n (le-leb (arity ts) 8 k)) h

-- without arguments
pub bare_atom_fits : (f : Bytes) → is_name f ≡ true → atom_fits (record { name = f; terms = nil }) ≡ true
unfolding term_fits arity
bare_atom_fits f h = atom_fits_lem f nil h (omega arith) refl

pub bare_symbol_fits : (f : Bytes) → is_name f ≡ true → term_fits (symbol f nil) ≡ true
unfolding term_fits arity
bare_symbol_fits f h = symbol_fits f nil h (omega arith) refl

-- one term more
pub terms_fit_more : (t : Term) (ts : Terms) → terms_fit ts ≡ true → term_fits t ≡ true → terms_fit (ending_term t ts) ≡ true
unfolding term_fits ending_term
terms_fit_more t nil h k = and_both (term_fits t) true k refl
terms_fit_more t (cons u us) h k = and_both (term_fits u) (terms_fit (ending_term t us)) (and_left (term_fits u) (terms_fit us) h) (terms_fit_more t us (and_right (term_fits u) (terms_fit us) h) k)

terms_fit_before : (t : Term) (ts : Terms) → terms_fit (ending_term t ts) ≡ true → terms_fit ts ≡ true
unfolding term_fits ending_term
terms_fit_before t nil h = refl
terms_fit_before t (cons u us) h = and_both (term_fits u) (terms_fit us) (and_left (term_fits u) (terms_fit (ending_term t us)) h) (terms_fit_before t us (and_right (term_fits u) (terms_fit (ending_term t us)) h))

terms_fit_last : (t : Term) (ts : Terms) → terms_fit (ending_term t ts) ≡ true → term_fits t ≡ true
unfolding term_fits ending_term
terms_fit_last t nil h = and_left (term_fits t) true h
terms_fit_last t (cons u us) h = terms_fit_last t us (and_right (term_fits u) (terms_fit (ending_term t us)) h)

-- ---- lengths of the line

-- what is written has the complete lines, and this one
pub drawn_length : (before : Option Clause) (opened : List Open) (last : Last) → length (drawn_text (state before opened last)) ≡ length (done_text before) + length (line_text before opened last)
unfolding drawn_text
drawn_length before opened last = length-append (done_text before) (line_text before opened last)

-- by so much longer is the line
module _ (before : Option Clause) where
  same_line : (opened more : List Open) (last next : Last) (added : Bytes) → drawn_text (state before more next) ≡ drawn_text (state before opened last) ++ added
      → length (line_text before more next) ≡ length (line_text before opened last) + length added
  same_line opened more last next added is =
      omega (arith, ap length is, length-append (drawn_text (state before opened last)) added, drawn_length before opened last, drawn_length before more next)

  pub line_atom_name : (f : Bytes) → length (line_text before [] (read (symbol f nil))) ≡ length (line_text before [] due) + length (line_front before ++ f)
  line_atom_name f = same_line [] [] due (read (symbol f nil)) (line_front before ++ f) (drawn_atom_name before f)

  pub line_atom_opens : (f : Bytes) → length (line_text before (record { name = f; before = nil } ∷ []) due) ≡ length (line_text before [] (read (symbol f nil))) + 1
  line_atom_opens f = same_line [] (record { name = f; before = nil } ∷ []) (read (symbol f nil)) due (44 ∷ []) (drawn_atom_opens before f)

  module _ (o : Open) (opened : List Open) where
    pub line_symbol : (f : Bytes) → length (line_text before (o ∷ opened) (read (symbol f nil))) ≡ length (line_text before (o ∷ opened) due) + (length f + 2)
    line_symbol f = omega (arith, same_line (o ∷ opened) (o ∷ opened) due (read (symbol f nil)) (f ++ (47 ∷ 48 ∷ [])) (drawn_symbol before o opened f), length-append f (47 ∷ 48 ∷ []))

    pub line_variable : (x : Bytes) → length (line_text before (o ∷ opened) (read (Terms.variable x))) ≡ length (line_text before (o ∷ opened) due) + length x
    line_variable x = same_line (o ∷ opened) (o ∷ opened) due (read (Terms.variable x)) x (drawn_variable before o opened x)

    pub line_symbol_opens : (f : Bytes) → length (line_text before (record { name = f; before = nil } ∷ o ∷ opened) due) ≡ length (line_text before (o ∷ opened) (read (symbol f nil))) + 1
    line_symbol_opens f =
        let front = drawn_text (state before (o ∷ opened) due) ++ (f ++ (47 ∷ [])) in
        omega (
          arith,
          ap length (drawn_symbol_opens before o opened f),
          ap length (drawn_symbol_digit before o opened f),
          length-append front (49 ∷ 32 ∷ []),
          length-append front (48 ∷ []),
          drawn_length before (o ∷ opened) (read (symbol f nil)),
          drawn_length before (record { name = f; before = nil } ∷ o ∷ opened) due,
        )

    pub line_closes : (t : Term) → length (line_text before opened (read (symbol o.name (ending_term t o.before)))) ≡ length (line_text before (o ∷ opened) (read t))
    line_closes t = omega (arith, ap length (drawn_closes before o opened t), drawn_length before opened (read (symbol o.name (ending_term t o.before))), drawn_length before (o ∷ opened) (read t))

  pub line_argument : (o : Open) (t : Term) → length (line_text before (record { name = o.name; before = ending_term t o.before } ∷ []) due) ≡ length (line_text before (o ∷ []) (read t)) + 1
  line_argument o t = same_line (o ∷ []) (record { name = o.name; before = ending_term t o.before } ∷ []) (read t) due (44 ∷ []) (drawn_argument before o t)

  pub line_next : (o p : Open) (opened : List Open) (t : Term) → suc (suc (arity o.before)) ≤ 9
      → length (line_text before (record { name = o.name; before = ending_term t o.before } ∷ p ∷ opened) due) ≡ length (line_text before (o ∷ p ∷ opened) (read t)) + 1
  line_next o p opened t few =
      let front = drawn_text (state before (p ∷ opened) due) ++ (o.name ++ (47 ∷ [])) in
      let after = after_each 32 o.before ++ (32 ∷ written_term t) in
      let k = arity o.before in
      omega (
        arith,
        ap length (drawn_next before o p opened t),
        ap length (drawn_digit before o p opened t),
        length-append front (decimal (suc (suc k)) ++ (after ++ (32 ∷ []))),
        length-append front (decimal (suc k) ++ after),
        length-append (decimal (suc (suc k))) (after ++ (32 ∷ [])),
        length-append (decimal (suc k)) after,
        length_end after 32,
        ap length (decimal_one (suc k) (omega arith)),
        ap length (decimal_one (suc (suc k)) (omega arith)),
        drawn_length before (o ∷ p ∷ opened) (read t),
        drawn_length before (record { name = o.name; before = ending_term t o.before } ∷ p ∷ opened) due,
      )

-- ---- back: what fits after a token fitted before it

-- the same complete lines
within_line : (before : Option Clause) (opened more : List Open) (last next : Last) → current opened last ≤ current more next → OpenedFit opened → LastFits opened last → length (line_text before opened last) ≤ length (line_text before more next)
    → PartsFit before more next → PartsFit before opened last
within_line before opened more last next fewer isOpen is_last shorter fits = record {
  atoms = fits.atoms;
  lines = fits.lines;
  count = omega (arith, fits.count);
  opens_fit = isOpen;
  last_fits = is_last;
  line = omega (arith, fits.line);
}

-- an open compound with one argument fewer
open_before : (limit : ℕ) (o : Open) (t : Term) → OpenFits limit (record { name = o.name; before = ending_term t o.before }) → OpenFits limit o
open_before limit o t fits = record {
  named = fits.named;
  few = omega (arith, fits.few, arity_more t o.before);
  formed = terms_fit_before t o.before fits.formed;
}

-- a compound before its last argument
open_symbol_before : (o : Open) (t : Term) → term_fits (symbol o.name (ending_term t o.before)) ≡ true → OpenFits 9 o
open_symbol_before o t fits = record {
  named = symbol_named o.name (ending_term t o.before) fits;
  few = omega (arith, symbol_few o.name (ending_term t o.before) fits, arity_more t o.before);
  formed = terms_fit_before t o.before (symbol_formed o.name (ending_term t o.before) fits);
}

open_atom_before : (o : Open) (t : Term) → atom_fits (record { name = o.name; terms = ending_term t o.before }) ≡ true → OpenFits 8 o
open_atom_before o t fits = record {
  named = atom_named o.name (ending_term t o.before) fits;
  few = omega (arith, atom_few o.name (ending_term t o.before) fits, arity_more t o.before);
  formed = terms_fit_before t o.before (atom_formed o.name (ending_term t o.before) fits);
}

-- a clause before its last atom
line_cases : (before : Option Clause) (a : Atom) (l : Bytes) → l ∈ lines_of (some (added before a)) → (l ∈ lines_of before) ⊎ (l ≡ atom_text before a.name a.terms)
unfolding lines_of
line_cases none a l m = end_cases [] (subst (λ ls. l ∈ ls) (lines_first a) m)
line_cases (some c) a l m = end_cases (clause_lines c) (subst (λ ls. l ∈ ls) (lines_more c a) m)

lines_before : (before : Option Clause) (a : Atom) (l : Bytes) → l ∈ lines_of before → l ∈ lines_of (some (added before a))
unfolding lines_of
lines_before none a l m = absurd (Memᴰ.not-nil m)
lines_before (some c) a l m = subst (λ ls. l ∈ ls) (sym (lines_more c a)) (Memᴰ.append_left (atom_text (some c) a.name a.terms ∷ []) m)

line_last : (before : Option Clause) (a : Atom) → atom_text before a.name a.terms ∈ lines_of (some (added before a))
unfolding lines_of
line_last none a = subst (λ ls. atom_text none a.name a.terms ∈ ls) (sym (lines_first a)) (Memᴰ.head refl)
line_last (some c) a = subst (λ ls. atom_text (some c) a.name a.terms ∈ ls) (sym (lines_more c a)) (Memᴰ.append_right (clause_lines c) (Memᴰ.head refl))

pub atoms_added : (before : Option Clause) (a : Atom) → atoms_of (some (added before a)) ≡ atoms_of before ++ (a ∷ [])
unfolding atoms_of added
atoms_added none a = refl
atoms_added (some c) a = refl

-- the line of an atom that is read
atom_line_lem : (before : Option Clause) (t : Term) → line_text before [] (read t) ≡ atom_text before (atom_of t).name (atom_of t).terms
unfolding open_text last_text
atom_line_lem before t = refl

-- (every line is empty before its name)
pub no_line : (before : Option Clause) → length (line_text before [] due) ≡ 0
unfolding open_text last_text
no_line before = refl

pub fits_back : {s next : State} {m : Mark} → Moves s m next → StateFits next → StateFits s
unfolding current atom_of term_fits
fits_back (names_atom {before = before} {f = f}) fits = within_line before [] [] due (read (symbol f nil)) (omega arith) tt tt (omega (arith, no_line before)) fits
fits_back (names_symbol {before = before} {o = o} {opened = opened} {f = f}) fits =
    within_line before (o ∷ opened) (o ∷ opened) due (read (symbol f nil)) (omega arith) fits.opens_fit tt (omega (arith, line_symbol before o opened f)) fits
fits_back (reads_variable {before = before} {o = o} {opened = opened} {x = x}) fits =
    within_line before (o ∷ opened) (o ∷ opened) due (read (Terms.variable x)) (omega arith) fits.opens_fit tt (omega (arith, line_variable before o opened x)) fits
fits_back (opens_atom {before = before} {f = f}) fits =
    let inner = fits.opens_fit in
    within_line before [] (record { name = f; before = nil } ∷ []) (read (symbol f nil)) due (omega arith) tt (atom_fits_lem f nil inner.named (omega (arith, inner.few)) refl) (omega (arith, line_atom_opens before f)) fits
fits_back (opens_symbol {before = before} {o = o} {opened = opened} {f = f}) fits =
    let inner = fits.opens_fit.0 in
    within_line before (o ∷ opened) (record { name = f; before = nil } ∷ o ∷ opened) (read (symbol f nil)) due (omega arith) fits.opens_fit.1 (symbol_fits f nil inner.named (omega (arith, inner.few)) refl)
    (omega (arith, line_symbol_opens before o opened f)) fits
fits_back (closes_one {before = before} {o = o} {opened = []} {t = t}) fits =
    within_line before (o ∷ []) [] (read t) (read (symbol o.name (ending_term t o.before))) (omega arith) (open_atom_before o t fits.last_fits)
    (terms_fit_last t o.before (atom_formed o.name (ending_term t o.before) fits.last_fits)) (omega (arith, line_closes before o [] t)) fits
fits_back (closes_one {before = before} {o = o} {opened = p ∷ opened} {t = t}) fits =
    within_line before (o ∷ p ∷ opened) (p ∷ opened) (read t) (read (symbol o.name (ending_term t o.before))) (omega arith) (open_symbol_before o t fits.last_fits, fits.opens_fit)
    (terms_fit_last t o.before (symbol_formed o.name (ending_term t o.before) fits.last_fits)) (omega (arith, line_closes before o (p ∷ opened) t)) fits
fits_back (ends_line {before = before} {t = t} e) fits =
    let all = atoms_added before (atom_of t) in
    record {
      atoms = λ a m. fits.atoms a (subst (λ atoms. a ∈ atoms) (sym all) (Memᴰ.append_left (atom_of t ∷ []) m));
      lines = λ l m. fits.lines l (lines_before before (atom_of t) l m);
      count = omega (arith, fits.count, ap length all, length_end (atoms_of before) (atom_of t));
      opens_fit = tt;
      last_fits = fits.atoms (atom_of t) (subst (λ atoms. atom_of t ∈ atoms) (sym all) (Memᴰ.append_right (atoms_of before) (Memᴰ.head refl)));
      line = omega (arith, ap length (atom_line_lem before t), fits.lines (atom_text before (atom_of t).name (atom_of t).terms) (line_last before (atom_of t)));
    }
fits_back (next_argument {before = before} {o = o} {t = t}) fits =
    within_line before (o ∷ []) (record { name = o.name; before = ending_term t o.before } ∷ []) (read t) due (omega arith) (open_before 8 o t fits.opens_fit)
    (terms_fit_last t o.before fits.opens_fit.formed) (omega (arith, line_argument before o t)) fits
fits_back (next_term {before = before} {o = o} {p = p} {opened = opened} {t = t}) fits =
    let inner = fits.opens_fit.0 in
    within_line before (o ∷ p ∷ opened) (record { name = o.name; before = ending_term t o.before } ∷ p ∷ opened) (read t) due (omega arith) (open_before 9 o t inner, fits.opens_fit.1)
    (terms_fit_last t o.before inner.formed) (omega (arith, line_next before o p opened t (omega (arith, inner.few, arity_more t o.before)))) fits

-- ---- on: what fits with an atom that fits, fits when its line is complete

pub line_fits_lem : (before : Option Clause) (t : Term) → PartsFit before [] (read t) → StateFits (state (some (added before (atom_of t))) [] due)
unfolding current open_text last_text
line_fits_lem before t fits =
    let all = atoms_added before (atom_of t) in
    record {
      atoms = λ a m. ⊎_elim (λ old. fits.atoms a old) (λ e. ap atom_fits e ∙ fits.last_fits) (end_cases (atoms_of before) (subst (λ atoms. a ∈ atoms) all m));
      lines = λ l m. ⊎_elim (λ old. fits.lines l old) (λ e. omega (arith, ap length e, ap length (atom_line_lem before t), fits.line)) (line_cases before (atom_of t) l m);
      count = omega (arith, fits.count, ap length all, length_end (atoms_of before) (atom_of t));
      opens_fit = tt;
      last_fits = tt;
      line = omega arith;
    }

-- ---- each open compound takes four bytes of the line

pub deep_line : (before : Option Clause) (opened : List Open) → OpenedFit opened → 4 * length opened ≤ length (open_text before opened)
unfolding open_text atom_text symbol_token line_front bytes
deep_line before [] fits = omega arith
deep_line none (o ∷ []) fits =
    omega (arith, name_some o.name fits.named, length-append (72 ∷ 44 ∷ (o.name ++ after_each 44 o.before)) (44 ∷ []), length-append o.name (after_each 44 o.before))
deep_line (some c) (o ∷ []) fits =
    omega (arith, name_some o.name fits.named, length-append (66 ∷ 44 ∷ (o.name ++ after_each 44 o.before)) (44 ∷ []), length-append o.name (after_each 44 o.before))
deep_line before (o ∷ p ∷ opened) fits =
    let token = o.name ++ 47 ∷ decimal (suc (arity o.before)) in
    let after = after_each 32 o.before ++ (32 ∷ []) in
    omega (
      arith,
      deep_line before (p ∷ opened) fits.1,
      name_some o.name fits.0.named,
      length-append (open_text before (p ∷ opened)) (token ++ after),
      length-append token after,
      length-append o.name (47 ∷ decimal (suc (arity o.before))),
      length_end (after_each 32 o.before) 32,
      ap length (decimal_one (suc (arity o.before)) (omega (arith, fits.0.few))),
    )

-- what is written never becomes shorter
pub drawn_grows : {s next : State} {m : Mark} → Moves s m next → StateFits next → length (drawn_text s) ≤ length (drawn_text next)
drawn_grows (names_atom {before = before} {f = f}) fits = omega (arith, line_atom_name before f, drawn_length before [] due, drawn_length before [] (read (symbol f nil)))
drawn_grows (names_symbol {before = before} {o = o} {opened = opened} {f = f}) fits = omega (arith, line_symbol before o opened f, drawn_length before (o ∷ opened) due, drawn_length before (o ∷ opened) (read (symbol f nil)))
drawn_grows (reads_variable {before = before} {o = o} {opened = opened} {x = x}) fits = omega (arith, line_variable before o opened x, drawn_length before (o ∷ opened) due, drawn_length before (o ∷ opened) (read (Terms.variable x)))
drawn_grows (opens_atom {before = before} {f = f}) fits = omega (arith, line_atom_opens before f, drawn_length before [] (read (symbol f nil)), drawn_length before (record { name = f; before = nil } ∷ []) due)
drawn_grows (opens_symbol {before = before} {o = o} {opened = opened} {f = f}) fits =
    omega (arith, line_symbol_opens before o opened f, drawn_length before (o ∷ opened) (read (symbol f nil)), drawn_length before (record { name = f; before = nil } ∷ o ∷ opened) due)
drawn_grows (closes_one {before = before} {o = o} {opened = opened} {t = t}) fits = omega (arith, ap length (drawn_closes before o opened t))
drawn_grows (ends_line {before = before} {t = t} e) fits = omega (arith, ap length (drawn_line before t), length_end (drawn_text (state before [] (read t))) 10)
drawn_grows (next_argument {before = before} {o = o} {t = t}) fits =
    omega (arith, line_argument before o t, drawn_length before (o ∷ []) (read t), drawn_length before (record { name = o.name; before = ending_term t o.before } ∷ []) due)
drawn_grows (next_term {before = before} {o = o} {p = p} {opened = opened} {t = t}) fits =
    omega (
      arith,
      line_next before o p opened t (omega (arith, fits.opens_fit.0.few, arity_more t o.before)),
      drawn_length before (o ∷ p ∷ opened) (read t),
      drawn_length before (record { name = o.name; before = ending_term t o.before } ∷ p ∷ opened) due,
    )

-- ---- whole clauses

pub whole_text : (c : Clause) → drawn_text (state (some c) [] due) ≡ text_of (clause_lines c)
unfolding drawn_text done_text open_text last_text
whole_text c = append-nil (text_of (clause_lines c))

pub whole_fits : (c : Clause) → clause_fits c ≡ true → StateFits (state (some c) [] due)
unfolding clause_fits atoms_of lines_of current open_text last_text
whole_fits c h =
    let a = every atom_fits (c.head ∷ c.subgoals) in
    let b = leb (length c.subgoals) 8 in
    let v = leb (length (rule_variables c.head c.subgoals)) 16 in
    let l = every line_fits (clause_lines c) in
    let front = and_left (a && b && v) l h in
    record {
      atoms = λ x m. every_member atom_fits (and_left a b (and_left (a && b) v front)) m;
      lines = λ x m. leb-le (length x) 1024 (every_member line_fits (and_right (a && b && v) l h) m);
      count = omega (arith, leb-le (length c.subgoals) 8 (and_right a b (and_left (a && b) v front)));
      opens_fit = tt;
      last_fits = tt;
      line = omega arith;
    }

pub fits_whole : (c : Clause) → StateFits (state (some c) [] due) → length (rule_variables c.head c.subgoals) ≤ variable_limit → clause_fits c ≡ true
unfolding clause_fits atoms_of lines_of current
fits_whole c fits few =
    let a = every atom_fits (c.head ∷ c.subgoals) in
    let b = leb (length c.subgoals) 8 in
    let v = leb (length (rule_variables c.head c.subgoals)) 16 in
    let l = every line_fits (clause_lines c) in
    and_both (a && b && v) l
    (and_both (a && b) v (and_both a b (members_every atom_fits (c.head ∷ c.subgoals) fits.atoms) (le-leb (length c.subgoals) 8 (omega (arith, fits.count)))) (le-leb (length (rule_variables c.head c.subgoals)) 16 few))
    (members_every line_fits (clause_lines c) (λ x m. le-leb (length x) 1024 (fits.lines x m)))

-- wherever the reader stands before the end of a clause that fits, everything fits, and no more is written than in the end
pub run_fits : {s : State} {ms : List Mark} {c : Clause} → Runs s ms c → clause_fits c ≡ true → StateFits s
run_fits (runs_end {c = c} e) h = fits_back (step_ends e) (whole_fits c h)
run_fits (runs_on e runs) h = fits_back (step_goes e) (run_fits runs h)

pub run_grows : {s : State} {ms : List Mark} {c : Clause} → Runs s ms c → clause_fits c ≡ true → length (drawn_text s) ≤ length (text_of (clause_lines c))
run_grows (runs_end {c = c} e) h = omega (arith, drawn_grows (step_ends e) (whole_fits c h), ap length (whole_text c))
run_grows (runs_on e runs) h = omega (arith, drawn_grows (step_goes e) (run_fits runs h), run_grows runs h)
