-- What one more token adds to the lines of a clause.
use mathlib.Core.Path.{◌≡◌, refl, sym, ◌∙◌, ap}
use mathlib.Core.List.{List, [], ◌∷◌, ◌++◌, append_assoc, append-nil, map, map-append}
use mathlib.Core.Option.{Option, some, none}
use Prim.Native.Nat.{ℕ, suc}
use Rattle.theory.specs.Text.{Bytes, bytes, joined, decimal, last_digits}
use Rattle.theory.specs.Terms.{Term, Terms, symbol, nil, cons, arity, symbol_token, tokens, all_tokens, written_term}
use Rattle.theory.specs.Terms as Terms
use Rattle.theory.specs.Packs.{Atom, term_fields, head_line, subgoal_line, line, text_of}
use Rattle.clause_theory.specs.Clauses.{Clause, Open, ending_term, due, read, state, atom_of, added}
use Rattle.clause_theory.specs.Import.{clause_lines}
use Rattle.term_lines.specs.Texts.{line_front, done_text, after_each, atom_text, open_text, last_text, drawn_text}

-- ---- terms

tokens_some : (t : Term) → (w : Bytes) × (ws : List Bytes) × (tokens t ≡ w ∷ ws)
unfolding tokens
tokens_some (Terms.variable x) = (x, [], refl)
tokens_some (symbol f ts) = (symbol_token f (arity ts), all_tokens ts, refl)

-- separated parts, after one that is not the last
joined_more : (separator : ℕ) (w : Bytes) (ws vs : List Bytes) (v : Bytes) → joined separator ((w ∷ ws) ++ (v ∷ vs)) ≡ joined separator (w ∷ ws) ++ separator ∷ joined separator (v ∷ vs)
unfolding joined
joined_more separator w [] vs v = refl
joined_more separator w (u ∷ ws) vs v = ap (λ rest. w ++ separator ∷ rest) (joined_more separator u ws vs v) ∙ sym (append_assoc w (separator ∷ joined separator (u ∷ ws)) (separator ∷ joined separator (v ∷ vs)))

joined_term : (w : Bytes) (ws : List Bytes) (t : Term) → joined 32 ((w ∷ ws) ++ tokens t) ≡ joined 32 (w ∷ ws) ++ 32 ∷ written_term t
unfolding written_term
joined_term w ws t =
    let some = tokens_some t in
    ap (λ all. joined 32 ((w ∷ ws) ++ all)) some.2 ∙ joined_more 32 w ws some.1 some.0 ∙ ap (λ all. joined 32 (w ∷ ws) ++ 32 ∷ joined 32 all) (sym some.2)

joined_terms : (w : Bytes) (ws : List Bytes) (ts : Terms) → joined 32 ((w ∷ ws) ++ all_tokens ts) ≡ joined 32 (w ∷ ws) ++ after_each 32 ts
unfolding tokens after_each
joined_terms w ws nil = ap (joined 32) (append-nil (w ∷ ws)) ∙ sym (append-nil (joined 32 (w ∷ ws)))
joined_terms w ws (cons t ts) =
    ap (joined 32) (sym (append_assoc (w ∷ ws) (tokens t) (all_tokens ts))) ∙ joined_terms w (ws ++ tokens t) ts
    ∙ ap (λ front. front ++ after_each 32 ts) (joined_term w ws t) ∙ append_assoc (joined 32 (w ∷ ws)) (32 ∷ written_term t) (after_each 32 ts)

pub symbol_written : (f : Bytes) (ts : Terms) → written_term (symbol f ts) ≡ symbol_token f (arity ts) ++ after_each 32 ts
unfolding written_term tokens joined
symbol_written f ts = joined_terms (symbol_token f (arity ts)) [] ts

-- one term more
pub after_more : (separator : ℕ) (t : Term) (ts : Terms) → after_each separator (ending_term t ts) ≡ after_each separator ts ++ (separator ∷ written_term t)
unfolding after_each ending_term
after_more separator t nil = ap (λ w. separator ∷ w) (append-nil (written_term t))
after_more separator t (cons u us) = ap (λ rest. separator ∷ (written_term u ++ rest)) (after_more separator t us) ∙ ap (λ rest. separator ∷ rest) (sym (append_assoc (written_term u) (after_each separator us) (separator ∷ written_term t)))

pub arity_more : (t : Term) (ts : Terms) → arity (ending_term t ts) ≡ suc (arity ts)
unfolding arity ending_term
arity_more t nil = refl
arity_more t (cons u us) = ap suc (arity_more t us)

-- ---- lines

fields_joined : (w : Bytes) (ts : Terms) → joined 44 (w ∷ term_fields ts) ≡ w ++ after_each 44 ts
unfolding joined term_fields after_each
fields_joined w nil = sym (append-nil w)
fields_joined w (cons t ts) = ap (λ rest. w ++ 44 ∷ rest) (fields_joined (written_term t) ts)

head_line_lem : (a : Atom) → line (head_line a) ≡ atom_text none a.name a.terms
unfolding joined head_line bytes atom_text line_front
head_line_lem a = ap (λ rest. 72 ∷ 44 ∷ rest) (fields_joined a.name a.terms)

subgoal_line_lem : (a : Atom) (c : Clause) → line (subgoal_line a) ≡ atom_text (some c) a.name a.terms
unfolding joined subgoal_line bytes atom_text line_front
subgoal_line_lem a c = ap (λ rest. 66 ∷ 44 ∷ rest) (fields_joined a.name a.terms)

text_more : (ls : List Bytes) (l : Bytes) → text_of (ls ++ (l ∷ [])) ≡ text_of ls ++ (l ++ (10 ∷ []))
unfolding text_of
text_more [] l = refl
text_more (k ∷ ls) l = ap (λ rest. k ++ 10 ∷ rest) (text_more ls l) ∙ sym (append_assoc k (10 ∷ text_of ls) (l ++ (10 ∷ [])))

-- the lines with one atom more
pub lines_more : (c : Clause) (a : Atom) → clause_lines (added (some c) a) ≡ clause_lines c ++ (atom_text (some c) a.name a.terms ∷ [])
unfolding clause_lines added
lines_more c a =
    ap (λ ls. line (head_line c.head) ∷ map line ls) (map-append subgoal_line c.subgoals (a ∷ []))
    ∙ ap (λ ls. line (head_line c.head) ∷ ls) (map-append line (map subgoal_line c.subgoals) (subgoal_line a ∷ []))
    ∙ ap (λ l. line (head_line c.head) ∷ (map line (map subgoal_line c.subgoals) ++ (l ∷ []))) (subgoal_line_lem a c)

pub lines_first : (a : Atom) → clause_lines (added none a) ≡ atom_text none a.name a.terms ∷ []
unfolding clause_lines added
lines_first a = ap (λ l. l ∷ []) (head_line_lem a)

pub done_more : (before : Option Clause) (a : Atom) → done_text (some (added before a)) ≡ done_text before ++ (atom_text before a.name a.terms ++ (10 ∷ []))
unfolding done_text text_of
done_more none a = ap text_of (lines_first a)
done_more (some c) a = ap text_of (lines_more c a) ∙ text_more (clause_lines c) (atom_text (some c) a.name a.terms)

-- ---- one token more

module _ (before : Option Clause) where
  pub drawn_atom_name : (f : Bytes) → drawn_text (state before [] (read (symbol f nil))) ≡ drawn_text (state before [] due) ++ (line_front before ++ f)
  unfolding drawn_text open_text last_text atom_text after_each atom_of
  drawn_atom_name f = simp (append_assoc, append-nil)

  pub drawn_symbol : (o : Open) (opened : List Open) (f : Bytes) → drawn_text (state before (o ∷ opened) (read (symbol f nil))) ≡ drawn_text (state before (o ∷ opened) due) ++ (f ++ (47 ∷ 48 ∷ []))
  unfolding drawn_text last_text written_term tokens joined symbol_token arity decimal last_digits
  drawn_symbol o opened f = simp (append_assoc, append-nil)

  pub drawn_variable : (o : Open) (opened : List Open) (x : Bytes) → drawn_text (state before (o ∷ opened) (read (Terms.variable x))) ≡ drawn_text (state before (o ∷ opened) due) ++ x
  unfolding drawn_text last_text written_term tokens joined
  drawn_variable o opened x = simp (append_assoc, append-nil)

  pub drawn_atom_opens : (f : Bytes) → drawn_text (state before (record { name = f; before = nil } ∷ []) due) ≡ drawn_text (state before [] (read (symbol f nil))) ++ (44 ∷ [])
  unfolding drawn_text open_text last_text atom_text after_each atom_of
  drawn_atom_opens f = simp (append_assoc, append-nil)

  -- before a symbol's digit, with the digit and a separator after it
  pub drawn_symbol_opens : (o : Open) (opened : List Open) (f : Bytes) → drawn_text (state before (record { name = f; before = nil } ∷ o ∷ opened) due) ≡ (drawn_text (state before (o ∷ opened) due) ++ (f ++ (47 ∷ []))) ++ (49 ∷ 32 ∷ [])
  unfolding drawn_text open_text last_text after_each symbol_token arity decimal last_digits
  drawn_symbol_opens o opened f = simp (append_assoc, append-nil)

  pub drawn_symbol_digit : (o : Open) (opened : List Open) (f : Bytes) → drawn_text (state before (o ∷ opened) (read (symbol f nil))) ≡ (drawn_text (state before (o ∷ opened) due) ++ (f ++ (47 ∷ []))) ++ (48 ∷ [])
  drawn_symbol_digit o opened f = drawn_symbol o opened f ∙ simp append_assoc

  pub drawn_closes : (o : Open) (opened : List Open) (t : Term) → drawn_text (state before opened (read (symbol o.name (ending_term t o.before)))) ≡ drawn_text (state before (o ∷ opened) (read t))
  unfolding drawn_text open_text last_text atom_text atom_of
  drawn_closes o [] t = rw (after_more 44 t o.before) (simp (append_assoc, append-nil))
  drawn_closes o (p ∷ opened) t = rw (symbol_written o.name (ending_term t o.before), after_more 32 t o.before, arity_more t o.before) (simp (append_assoc, append-nil))

  pub drawn_line : (t : Term) → drawn_text (state (some (added before (atom_of t))) [] due) ≡ drawn_text (state before [] (read t)) ++ (10 ∷ [])
  unfolding drawn_text open_text last_text
  drawn_line t = rw (done_more before (atom_of t)) (simp (append_assoc, append-nil))

  pub drawn_argument : (o : Open) (t : Term) → drawn_text (state before (record { name = o.name; before = ending_term t o.before } ∷ []) due) ≡ drawn_text (state before (o ∷ []) (read t)) ++ (44 ∷ [])
  unfolding drawn_text open_text last_text atom_text
  drawn_argument o t = rw (after_more 44 t o.before) (simp (append_assoc, append-nil))

  -- the digit of the innermost symbol, and what comes after it
  pub drawn_digit : (o p : Open) (opened : List Open) (t : Term) → drawn_text (state before (o ∷ p ∷ opened) (read t))
      ≡ (drawn_text (state before (p ∷ opened) due) ++ (o.name ++ (47 ∷ []))) ++ (decimal (suc (arity o.before)) ++ (after_each 32 o.before ++ (32 ∷ written_term t)))
  unfolding drawn_text open_text last_text symbol_token
  drawn_digit o p opened t = simp (append_assoc, append-nil)

  pub drawn_next : (o p : Open) (opened : List Open) (t : Term) → drawn_text (state before (record { name = o.name; before = ending_term t o.before } ∷ p ∷ opened) due)
      ≡ (drawn_text (state before (p ∷ opened) due) ++ (o.name ++ (47 ∷ []))) ++ (decimal (suc (suc (arity o.before))) ++ ((after_each 32 o.before ++ (32 ∷ written_term t)) ++ (32 ∷ [])))
  unfolding drawn_text open_text last_text symbol_token
  drawn_next o p opened t = rw (after_more 32 t o.before, arity_more t o.before) (simp (append_assoc, append-nil))
