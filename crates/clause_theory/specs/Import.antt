-- Document 02, 6/14: what import returns and writes, for every text and every buffer. A clause's head is written on an `H` line
-- and each subgoal on a `B` line after it; every lone `_` is a variable of its own there.
use Rattle.std.specs.Prelude.{Bool, true, cond, ◌&&◌, List, [], ◌∷◌, ◌++◌, map, ℕ, zero, suc, ◌+◌, leb, length, get_or}
use Prim.Native.Char.{code}
use Rattle.theory.specs.Lists.{every, over}
use Rattle.theory.specs.Text.{Bytes, bytes, same, among, is_name, is_variable, decimal}
use Rattle.theory.specs.Terms.{Term, Terms, variable, symbol, nil, cons, arity, variables, all_variables}
use Rattle.theory.specs.Packs.{Atom, head_line, subgoal_line, line, text_of, line_limit, subgoal_limit, variable_limit}
use Rattle.theory.specs.Residuals.{atoms_variables, rule_variables}
use Rattle.theory.specs.Check.{Numbers, numbers}
use Rattle.theory.specs.Pages.{Paged, paged}
use Rattle.clause_theory.specs.ClauseTokens.{Token, tokens_of}
use Rattle.clause_theory.specs.Clauses.{Clause, State, begin, is_begin, refuses, goes, ends, step}

-- ## Fresh variables

-- the variables of a clause as they occur, `_` among them
abbrev pub clause_variables : Clause → List Bytes
clause_variables c = atoms_variables (c.head ∷ c.subgoals)

abbrev pub is_lone : Bytes → Bool
is_lone x = same x (bytes "_")

-- how many of some variables are `_`
unfoldable pub lones : List Bytes → ℕ
lones [] = 0
lones (x ∷ xs) = cond (is_lone x) (suc (lones xs)) (lones xs)

unfoldable pub numbered_variable : ℕ → Bytes
numbered_variable n = code "V" ∷ decimal n

-- the lowest number from n on whose variable is not taken, in at most so many tries more
unfoldable pub lowest_from : ℕ → ℕ → List Bytes → ℕ
lowest_from zero n taken = n
lowest_from (suc tries) n taken = cond (among (numbered_variable n) taken) (lowest_from tries (suc n) taken) n

-- `V` and the lowest number from 1 that is not taken: there are not more taken numbers than taken variables.
unfoldable pub fresh_variable : List Bytes → Bytes
fresh_variable taken = numbered_variable (lowest_from (length taken) 1 taken)

-- so many fresh variables, one after another: what was made is taken
unfoldable pub fresh_variables : ℕ → List Bytes → List Bytes
fresh_variables zero taken = []
fresh_variables (suc k) taken = fresh_variable taken ∷ fresh_variables k (fresh_variable taken ∷ taken)

-- the ith of some variables, from 0
abbrev pub nth : List Bytes → ℕ → Bytes
nth xs i = get_or xs i []

-- A term with fresh variables for its `_`, from the ith of them on.
unfoldable mutual
  pub filled_term : List Bytes → ℕ → Term → Term
  filled_term fresh i (variable x) = cond (is_lone x) (variable (nth fresh i)) (variable x)
  filled_term fresh i (symbol f ts) = symbol f (filled_terms fresh i ts)

  pub filled_terms : List Bytes → ℕ → Terms → Terms
  filled_terms fresh i nil = nil
  filled_terms fresh i (cons t ts) = cons (filled_term fresh i t) (filled_terms fresh (i + lones (variables t)) ts)

unfoldable pub filled_atom : List Bytes → ℕ → Atom → Atom
filled_atom fresh i a = record { name = a.name; terms = filled_terms fresh i a.terms }

unfoldable pub filled_atoms : List Bytes → ℕ → List Atom → List Atom
filled_atoms fresh i [] = []
filled_atoms fresh i (a ∷ atoms) = filled_atom fresh i a ∷ filled_atoms fresh (i + lones (all_variables a.terms)) atoms

-- the fresh variables of a clause, one for each `_`
abbrev pub fresh_of : Clause → List Bytes
fresh_of c = fresh_variables (lones (clause_variables c)) (clause_variables c)

-- A clause with a fresh variable for each `_`.
unfoldable pub filled : Clause → Clause
filled c =
    record {
      head = filled_atom (fresh_of c) 0 c.head;
      subgoals = filled_atoms (fresh_of c) (lones (all_variables c.head.terms)) c.subgoals;
    }

-- ## Lines and limits

-- The lines of a clause.
unfoldable pub clause_lines : Clause → List Bytes
clause_lines c = map line (head_line c.head ∷ map subgoal_line c.subgoals)

unfoldable mutual
  pub term_fits : Term → Bool
  term_fits (variable x) = is_variable x
  term_fits (symbol f ts) = is_name f && leb (arity ts) 9 && terms_fit ts

  pub terms_fit : Terms → Bool
  terms_fit nil = true
  terms_fit (cons t ts) = term_fits t && terms_fit ts

unfoldable pub atom_fits : Atom → Bool
atom_fits a = is_name a.name && leb (arity a.terms) 8 && terms_fit a.terms

abbrev pub line_fits : Bytes → Bool
line_fits l = leb (length l) line_limit

-- A clause within 01's limits.
unfoldable pub clause_fits : Clause → Bool
clause_fits c =
    every atom_fits (c.head ∷ c.subgoals)
    && leb (length c.subgoals) subgoal_limit
    && leb (length (rule_variables c.head c.subgoals)) variable_limit
    && every line_fits (clause_lines c)

-- ## The call

-- the four numbers, and what is written: nothing where the text is refused
pub record Importing : Type 0 where
  pub returned : Numbers
  pub text : Bytes

abbrev pub refused : ℕ → ℕ → Importing
refused n k = record { returned = numbers n k 0 0; text = [] }

-- The tokens of a text of so many bytes, from a state on, for a buffer with so much room, after so many clauses and their
-- lines. 25 is tested at each token, then 26 and 27 at the clause's end.
unfoldable pub import_from : ℕ → ℕ → ℕ → Bytes → State → List Token → Importing
import_from size room clauses lines s [] = cond (is_begin s) (record { returned = numbers 0 clauses (length lines) 0; text = lines }) (refused 25 size)
import_from size room clauses lines s (t ∷ ts) = elim (step s t.mark) [
  | refuses ↦ refused 25 t.place
  | goes next ↦ import_from size room clauses lines next ts
  | ends c ↦
      cond (clause_fits (filled c))
      (cond (leb (length (lines ++ text_of (clause_lines (filled c)))) room)
      (import_from size room (suc clauses) (lines ++ text_of (clause_lines (filled c))) begin ts) (refused 27 (suc clauses)))
      (refused 26 (suc clauses))
]

-- The numbers, and the buffer at exit: what is written over its first bytes, the rest unchanged.
unfoldable pub import_of : Bytes → Bytes → Paged
import_of text buffer =
    let i = import_from (length text) (length buffer) 0 [] begin (tokens_of text) in
    paged i.returned (over i.text buffer)
