-- The lines of a clause whose atoms are within the limits: 01 reads an `H` line and then `B` lines in them, and the clause's atoms again.
use mathlib.Core.Path.{◌≡◌, refl, sym, ◌∙◌, ap}
use mathlib.Core.Bool.{true}
use mathlib.Core.List.Memᴰ
use mathlib.Core.List.{List, [], ◌∷◌, ◌++◌, map, flat_map, append_assoc, cons≢nil}
use lib.ListN.{length, replicate}
use Rattle.groundwork.proofs.Lists.{all_cons, all_append}
use Rattle.theory.specs.Lists.{◌∈◌}
use Rattle.theory.specs.Text.{Bytes, lines_of, fields_of}
use Rattle.theory.specs.Packs.{Atom, head_line, subgoal_line, line, text_of}
use Rattle.theory.specs.declared.Letter.{Letter}
use Rattle.theory.specs.declared.Letter.TheVariants.{H, B}
use Rattle.theory.specs.Written.{letter_of, line_letter, field, atom_from}
use Rattle.clause_theory.specs.Clauses.{Clause}
use Rattle.clause_theory.specs.Import.{filled, clause_lines, clause_fits}
use Rattle.clause_theory.specs.Imported.{AtomWithin, AtomsWithin, LinesKept, lines_for}
use Rattle.clause_theory.proofs.ClauseLimits.{limits_kept}
use Rattle.theory.proofs.Judging.AtomLines.{atom_line, atom_again, atom_plain}
use Rattle.theory.proofs.Reading.Letters.{letter_field, letter_of_field}
use Rattle.theory.proofs.Reading.PlainFields.{fields_of_line, line_free}
use Rattle.theory.proofs.Reading.Separators.{is_free, AllFree, lines_of_text}

-- ---- lines

-- what is read in lines
record Reads (letters : List Letter) (atoms : List Atom) (lines : List Bytes) : Type 0 where
  free : AllFree 10 lines
  lettered : map line_letter lines ≡ letters
  read : map (λ l. atom_from (fields_of l)) lines ≡ atoms

reads_none : Reads [] [] []
reads_none = record { free = λ l m. absurd (Memᴰ.not-nil m); lettered = refl; read = refl }

reads_line : (letter : Letter) (a : Atom) → AtomWithin a → {letters : List Letter} {atoms : List Atom} {lines : List Bytes} → Reads letters atoms lines
    → Reads (letter ∷ letters) (a ∷ atoms) (line (atom_line letter a) ∷ lines)
reads_line letter a within rest =
    let plain = atom_plain a within.formed letter within.named in
    let again = fields_of_line (atom_line letter a) cons≢nil plain in
    let first = ap (λ (fields : List Bytes). letter_of (field 0 fields)) again ∙ letter_of_field letter in
    let atom = ap atom_from again ∙ atom_again a within.formed letter in
    record {
      free = all_cons (λ l. is_free 10 l ≡ true) (line_free (atom_line letter a) plain) rest.free;
      lettered = λ i. first i ∷ rest.lettered i;
      read = λ i. atom i ∷ rest.read i;
    }

subgoals_read : (atoms : List Atom) → ((a : Atom) → a ∈ atoms → AtomWithin a) → Reads (replicate (length atoms) B) atoms (map line (map subgoal_line atoms))
unfolding subgoal_line letter_field
subgoals_read [] within = reads_none
subgoals_read (a ∷ atoms) within = reads_line B a (within a (Memᴰ.head refl)) (subgoals_read atoms (λ b m. within b (Memᴰ.tail m)))

clause_reads : (c : Clause) → AtomsWithin c → Reads (H ∷ replicate (length c.subgoals) B) (c.head ∷ c.subgoals) (clause_lines c)
unfolding clause_lines head_line letter_field
clause_reads c within =
    reads_line H c.head (within c.head (Memᴰ.head refl)) (subgoals_read c.subgoals (λ a m. within a (Memᴰ.tail m)))

pub lines_kept : (c : Clause) → AtomsWithin c → LinesKept c
lines_kept c within =
    let reads = clause_reads c within in
    record { lines = lines_of_text (clause_lines c) reads.free; letters = reads.lettered; read_back = reads.read }

-- of a clause that fits
pub atoms_within : (c : Clause) → clause_fits c ≡ true → AtomsWithin c
atoms_within c fits = ((limits_kept c).fits.0 fits).atoms

-- ---- the lines of clauses

text_append : (ls ks : List Bytes) → text_of (ls ++ ks) ≡ text_of ls ++ text_of ks
unfolding text_of
text_append [] ks = refl
text_append (l ∷ ls) ks = ap (λ (bs : Bytes). l ++ 10 ∷ bs) (text_append ls ks) ∙ sym (append_assoc l (10 ∷ text_of ls) (text_of ks))

text_of_clauses : (clauses : List Clause) → lines_for clauses ≡ text_of (flat_map (λ c. clause_lines (filled c)) clauses)
unfolding lines_for flat_map text_of
text_of_clauses [] = refl
text_of_clauses (c ∷ clauses) = ap (λ (bs : Bytes). text_of (clause_lines (filled c)) ++ bs) (text_of_clauses clauses) ∙ sym (text_append (clause_lines (filled c)) (flat_map (λ d. clause_lines (filled d)) clauses))

all_free : (clauses : List Clause) → ((c : Clause) → c ∈ clauses → clause_fits (filled c) ≡ true) → AllFree 10 (flat_map (λ c. clause_lines (filled c)) clauses)
unfolding flat_map
all_free [] fit = λ l m. absurd (Memᴰ.not-nil m)
all_free (c ∷ clauses) fit =
    all_append (λ l. is_free 10 l ≡ true) (clause_lines (filled c)) (flat_map (λ d. clause_lines (filled d)) clauses)
    (clause_reads (filled c) (atoms_within (filled c) (fit c (Memᴰ.head refl)))).free (all_free clauses (λ d m. fit d (Memᴰ.tail m)))

pub lines_of_clauses : (clauses : List Clause) → ((c : Clause) → c ∈ clauses → clause_fits (filled c) ≡ true) → lines_of (lines_for clauses) ≡ flat_map (λ c. clause_lines (filled c)) clauses
lines_of_clauses clauses fit = ap lines_of (text_of_clauses clauses) ∙ lines_of_text (flat_map (λ c. clause_lines (filled c)) clauses) (all_free clauses fit)
