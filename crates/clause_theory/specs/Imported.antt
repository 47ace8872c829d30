-- Document 02, 6/14: what is promised of import, by how a text is cut (Cutting) and by the grammar (Clauses), without the reader.
-- Which texts it takes and how it refuses the others; and of a clause in words what Import computes: the limits (`clause_fits`), what
-- stands for each `_` (`filled`), what its lines say (`clause_lines`). All of it is `ImportPromised`, at the end, proved in
-- proofs/ImportKept.antt.
use Rattle.std.specs.Prelude.{◌≡◌, ◌⊎◌, ◌↔◌, true, false, ℕ, ◌+◌, ◌*◌, ◌≤◌, ◌<◌, length, take, drop, replicate}
use mathlib.Core.List.{List, [], ◌∷◌, ◌++◌, map, flat_map}
use Rattle.theory.specs.Lists.{◌∈◌, ending, over}
use Rattle.theory.specs.Text.{Bytes, bytes, lines_of, fields_of, is_lower, is_upper, is_name, decimal}
use Rattle.theory.specs.Terms.{Term, Terms, symbol, nil, cons, arity, all_variables, AllWellFormed}
use Rattle.theory.specs.Terms as T
use Rattle.theory.specs.Packs.{Atom, text_of, line_limit, subgoal_limit, variable_limit}
use Rattle.theory.specs.declared.Letter.TheVariants.{H, B}
use Rattle.theory.specs.Written.{line_letter, atom_from}
use Rattle.theory.specs.Check.{numbers}
use Rattle.theory.specs.Pages.{Paged, paged}
use Rattle.clause_theory.specs.ClauseTokens.{Mark, Token, tokens_of}
use Rattle.clause_theory.specs.Cutting.{is_run, Cut}
use Rattle.clause_theory.specs.Clauses.{Clause, clause_marks}
use Rattle.clause_theory.specs.Import.{fresh_of, filled, clause_lines, clause_fits, import_of}

-- ## Texts

abbrev pub marks : List Token → List Mark
marks ts = map (λ t. t.mark) ts

-- The text writes these clauses, one after another and nothing else.
pub record Writes (text : Bytes) (clauses : List Clause) : Type 0 where
  pub tokens : List Token
  pub cut : Cut text tokens
  pub are : marks tokens ≡ flat_map clause_marks clauses

-- Some text of the subset has these marks at its front.
pub record Begins (front : List Mark) : Type 0 where
  pub text : Bytes
  pub clauses : List Clause
  pub writes : Writes text clauses
  pub rest : List Mark
  pub is : front ++ rest ≡ flat_map clause_marks clauses

-- What may stand in a clause, at any nesting and with any number of arguments: names are runs that begin with a small letter, variables
-- runs that begin with a capital, or `_`.
abbrev mutual
  pub TermSpelled : Term → Type 0
  TermSpelled (T.variable x) = (is_run is_upper x ≡ true) ⊎ (x ≡ bytes "_")
  TermSpelled (symbol f ts) = (is_run is_lower f ≡ true) × TermsSpelled ts

  pub TermsSpelled : Terms → Type 0
  TermsSpelled nil = Unit {0}
  TermsSpelled (cons t ts) = TermSpelled t × TermsSpelled ts

abbrev pub AtomSpelled : Atom → Type 0
AtomSpelled a = TermSpelled (symbol a.name a.terms)

pub record ClauseSpelled (c : Clause) : Type 0 where
  pub head : AtomSpelled c.head
  pub subgoals : (a : Atom) → a ∈ c.subgoals → AtomSpelled a

-- The subset: some text writes these clauses exactly if they are spelled so.
pub record SubsetKept (clauses : List Clause) : Type 0 where
  pub writable : ((text : Bytes) × Writes text clauses) ↔ ((c : Clause) → c ∈ clauses → ClauseSpelled c)

-- ## Limits

-- within 01's limits: what may stand in a term, with 8 arguments at most
pub record AtomWithin (a : Atom) : Type 0 where
  pub named : is_name a.name ≡ true
  pub few : arity a.terms ≤ 8
  pub formed : AllWellFormed a.terms

abbrev pub AtomsWithin : Clause → Type 0
AtomsWithin c = (a : Atom) → a ∈ (c.head ∷ c.subgoals) → AtomWithin a

-- a variable stands in the clause, in its head or in a subgoal
pub record StandsIn (c : Clause) (x : Bytes) : Type 0 where
  pub atom : Atom
  pub is_in : atom ∈ (c.head ∷ c.subgoals)
  pub has : x ∈ all_variables atom.terms

-- at most 16 variables: each that stands in the clause is one of so many
pub record FewVariables (c : Clause) : Type 0 where
  pub variables : List Bytes
  pub few : length variables ≤ variable_limit
  pub all : (x : Bytes) → StandsIn c x → x ∈ variables

pub record ClauseWithin (c : Clause) : Type 0 where
  pub atoms : AtomsWithin c
  pub subgoals : length c.subgoals ≤ subgoal_limit
  pub variables : FewVariables c
  pub lines : (l : Bytes) → l ∈ clause_lines c → length l ≤ line_limit

-- What is tested of a clause before its lines are taken.
pub record LimitsKept (c : Clause) : Type 0 where
  pub fits : (clause_fits c ≡ true) ↔ ClauseWithin c

-- ## Lines

-- The lines of clauses, one clause after another, in which each `_` is a variable of its own.
unfoldable pub lines_for : List Clause → Bytes
lines_for clauses = flat_map (λ c. text_of (clause_lines (filled c))) clauses

-- Each of them fits then, and the lines are not longer than the buffer.
pub record Taken (buffer : Bytes) (clauses : List Clause) : Type 0 where
  pub fit : (c : Clause) → c ∈ clauses → clause_fits (filled c) ≡ true
  pub room : length (lines_for clauses) ≤ length buffer

-- so it is with all whole clauses at the front of some marks
abbrev pub AllTaken : Bytes → List Mark → Type 0
AllTaken buffer front = (clauses : List Clause) (rest : List Mark) → front ≡ flat_map clause_marks clauses ++ rest → Taken buffer clauses

-- ## Outcomes

abbrev pub refusal : ℕ → ℕ → Bytes → Paged
refusal n k buffer = paged (numbers n k 0 0) buffer

-- What import returns, and the buffer at exit. A refusal leaves the buffer as it is.
pub data ImportOutcome (text buffer : Bytes) : Paged → Type 0 where
  -- the clauses that the text writes
  imported : (clauses : List Clause) → Writes text clauses → Taken buffer clauses
      → ImportOutcome text buffer (paged (numbers 0 (length clauses) (length (lines_for clauses)) 0) (over (lines_for clauses) buffer))
  -- 25 at a token: the first that no text of the subset has there
  unfit : (before after : List Token) (t : Token) → Cut text (before ++ t ∷ after)
      → Begins (marks before) → (Begins (ending t.mark (marks before)) → ⊥) → AllTaken buffer (marks before)
      → ImportOutcome text buffer (refusal 25 t.place buffer)
  -- 25 with the text's length: it ends too early
  unended : (tokens : List Token) → Cut text tokens → Begins (marks tokens) → ((clauses : List Clause) → Writes text clauses → ⊥) → AllTaken buffer (marks tokens)
      → ImportOutcome text buffer (refusal 25 (length text) buffer)
  -- 26 and 27, with the clause's number, from 1: the first clause past 01's limits, or whose lines have no room
  past : (tokens : List Token) (earlier : List Clause) (c : Clause) (rest : List Mark) → Cut text tokens → marks tokens ≡ flat_map clause_marks earlier ++ (clause_marks c ++ rest)
      → Taken buffer earlier → clause_fits (filled c) ≡ false → ImportOutcome text buffer (refusal 26 (length earlier + 1) buffer)
  full : (tokens : List Token) (earlier : List Clause) (c : Clause) (rest : List Mark) → Cut text tokens → marks tokens ≡ flat_map clause_marks earlier ++ (clause_marks c ++ rest)
      → Taken buffer earlier → clause_fits (filled c) ≡ true → length buffer < length (lines_for (ending c earlier)) → ImportOutcome text buffer (refusal 27 (length earlier + 1) buffer)

-- ## What stands for `_`

-- The second term is the first with the variables of a list for its `_`, in their order, each for one.
mutual
  pub data Fills : List Bytes → Term → Term → Type 0 where
    lone : {v : Bytes} → Fills (v ∷ []) (T.variable (bytes "_")) (T.variable v)
    written : {x : Bytes} → (x ≡ bytes "_" → ⊥) → Fills [] (T.variable x) (T.variable x)
    within : {f : Bytes} {vs : List Bytes} {ts us : Terms} → FillsAll vs ts us → Fills vs (symbol f ts) (symbol f us)

  pub data FillsAll : List Bytes → Terms → Terms → Type 0 where
    no_terms : FillsAll [] nil nil
    a_term : {vs ws : List Bytes} {t u : Term} {ts us : Terms} → Fills vs t u → FillsAll ws ts us → FillsAll (vs ++ ws) (cons t ts) (cons u us)

-- the same of atoms, which keep their names
pub data FillsAtoms : List Bytes → List Atom → List Atom → Type 0 where
  no_atoms : FillsAtoms [] [] []
  an_atom : {f : Bytes} {vs ws : List Bytes} {ts us : Terms} {rest filling : List Atom} → FillsAll vs ts us → FillsAtoms ws rest filling
      → FillsAtoms (vs ++ ws) (record { name = f; terms = ts } ∷ rest) (record { name = f; terms = us } ∷ filling)

-- A fresh variable: `V` and the lowest number from 1 that makes it another than those that stand in the clause and those that
-- were made before it.
pub record Fresh (c : Clause) (made : List Bytes) (v : Bytes) : Type 0 where
  pub number : ℕ
  pub from : 1 ≤ number
  pub is : v ≡ bytes "V" ++ decimal number
  pub own : (v ∈ made) ⊎ StandsIn c v → ⊥
  pub lowest : (m : ℕ) → 1 ≤ m → m < number → ((bytes "V" ++ decimal m) ∈ made) ⊎ StandsIn c (bytes "V" ++ decimal m)

-- ## The promises

-- Of every clause: filled, it is the same but for its `_`, and for each of these stands a fresh variable.
pub record FillingKept (c : Clause) : Type 0 where
  pub fills : FillsAtoms (fresh_of c) (c.head ∷ c.subgoals) ((filled c).head ∷ (filled c).subgoals)
  pub fresh : (made later : List Bytes) (v : Bytes) → fresh_of c ≡ made ++ v ∷ later → Fresh c made v

-- Of a clause whose atoms are within the limits: an `H` line and then a `B` line for each subgoal, which 01 reads as these atoms.
pub record LinesKept (c : Clause) : Type 0 where
  pub lines : lines_of (text_of (clause_lines c)) ≡ clause_lines c
  pub letters : map line_letter (clause_lines c) ≡ H ∷ replicate (length c.subgoals) B
  pub read_back : map (λ l. atom_from (fields_of l)) (clause_lines c) ≡ c.head ∷ c.subgoals

-- Of the clauses of a text that was imported.
pub record ImportTells (text buffer : Bytes) (clauses : List Clause) : Type 0 where
  pub counts : (import_of text buffer).returned ≡ numbers 0 (length clauses) (length (lines_for clauses)) 0
  pub lines : lines_of (take (length (lines_for clauses)) (import_of text buffer).page) ≡ flat_map (λ c. clause_lines (filled c)) clauses
  pub each : (c : Clause) → c ∈ clauses → LinesKept (filled c)

-- Of every text and buffer.
pub record ImportKept (text buffer : Bytes) : Type 0 where
  -- one outcome, and this is it
  pub outcome : ImportOutcome text buffer (import_of text buffer)
  pub one_outcome : (a : Paged) → ImportOutcome text buffer a → a ≡ import_of text buffer
  -- 25 refuses nothing of the subset, only texts of it are imported, and each has one reading
  pub none_refused : (clauses : List Clause) → Writes text clauses → (import_of text buffer).returned.number ≡ 25 → ⊥
  pub succeeds : ((import_of text buffer).returned.number ≡ 0) ↔ ((clauses : List Clause) × Writes text clauses × Taken buffer clauses)
  pub only_one : (clauses others : List Clause) → Writes text clauses → Writes text others → clauses ≡ others
  -- what was imported: the lines of the clauses, one clause after another
  pub tells : (import_of text buffer).returned.number ≡ 0 → (clauses : List Clause) → Writes text clauses → ImportTells text buffer clauses
  -- a refusal changes nothing, and an import only the bytes that it counts
  pub unchanged : ((import_of text buffer).returned.number ≡ 0 → ⊥) → (import_of text buffer).page ≡ buffer
  pub rest : drop (import_of text buffer).returned.rule (import_of text buffer).page ≡ drop (import_of text buffer).returned.rule buffer
  -- 27 is never given where the buffer has twice as many bytes as the text
  pub enough : 2 * length text ≤ length buffer → (import_of text buffer).returned.number ≡ 27 → ⊥

-- All that is promised of import.
pub record ImportPromised : Type 0 where
  -- a text has these tokens exactly if it is cut so
  pub cutting : (text : Bytes) (tokens : List Token) → (tokens_of text ≡ tokens) ↔ Cut text tokens
  pub subset : (clauses : List Clause) → SubsetKept clauses
  pub limits : (c : Clause) → LimitsKept c
  pub filling : (c : Clause) → FillingKept c
  pub lines : (c : Clause) → AtomsWithin c → LinesKept c
  pub each : (text buffer : Bytes) → ImportKept text buffer
