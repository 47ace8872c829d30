-- Worked examples of import (02, 6/14): the definitions compute every answer and every byte.
use mathlib.Core.Path.{◌≡◌, refl}
use mathlib.Core.List.{List, [], ◌∷◌, ◌++◌, map}
use Prim.Native.Nat.{ℕ}
use Rattle.std.specs.Prelude.{Ok, Err}
use Prim.Native.Char.{code}
use Prim.Native.String.{String}
use lib.ListN.{replicate}
use Rattle.theory.specs.Lists.{every, is_empty, is_some}
use Rattle.theory.specs.Text.{Bytes, bytes, same, among, joined, is_name_byte, is_word, last_digits, decimal}
use Rattle.theory.specs.Terms.{arity, symbol_token, tokens, written_term, variables}
use Rattle.theory.specs.Packs.{term_fields, head_line, subgoal_line, text_of}
use Rattle.theory.specs.Residuals.{numbered, atoms_variables, rule_variables}
use Rattle.theory.specs.Check.{numbers}
use Rattle.theory.specs.Pages.{Paged, paged}
use Rattle.clause_theory.specs.ClauseTokens.{is_layout, run, is_neck, is_stop, bytes_after, sign_of, mark_of, tokens_from}
use Rattle.clause_theory.specs.Clauses.{ending_term, begin, is_due, is_begin, atom_of, added, step_due, step_opens, step_atom, step_argument, step_read, step_after, step}
use Rattle.clause_theory.specs.Import.{lones, numbered_variable, lowest_from, fresh_variable, fresh_variables, filled_term, filled_atom, filled_atoms, filled, clause_lines, term_fits, atom_fits, clause_fits, import_from, import_of}
use Rattle.clause_theory.specs.declared.ImportRefusal.TheVariants.{NoClauses, OverLimit, ShortBuffer}
use Rattle.clause_theory.specs.Importations.{import_numbers}
use Rattle.clause_theory.specs.Imported.{refusal}

-- a text for a buffer of so many dots
pub record Example : Type 0 where
  pub text : String
  pub room : ℕ
  pub answer : Paged

abbrev dots : ℕ → Bytes
dots n = replicate n (code ".")

unfoldable pub answer_to : Example → Paged
unfolding every is_empty is_some bytes same among joined is_name_byte is_word last_digits decimal arity symbol_token tokens written_term variables term_fields head_line subgoal_line text_of numbered atoms_variables rule_variables is_layout run is_neck is_stop bytes_after mark_of sign_of tokens_from ending_term begin is_due is_begin atom_of added step_due step_opens step_atom step_argument step_read step_after step lones numbered_variable lowest_from fresh_variable fresh_variables filled_term filled_atom filled_atoms filled clause_lines term_fits atom_fits clause_fits import_from import_of
answer_to e = import_of (bytes e.text) (dots e.room)

abbrev pub row : String → ℕ → Paged → Example
row text room answer = record { text = text; room = room; answer = answer }

abbrev refuses : String → ℕ → ℕ → ℕ → Example
refuses text room n k = row text room (refusal n k (dots room))

-- three clauses with nested terms, three `_` in one of them, and two written variables that look like fresh ones
abbrev pub clauses : String
clauses = "app(nil, Y, Y).\napp(cons(X, Xs), Y, cons(X, Zs)) :-\n  app(Xs, Y, Zs).\nq(_, V1, f(_, g(a, V3))) :- p(_), r.\n"

abbrev pub lines : Bytes
lines = bytes "H,app,nil/0,Y,Y\nH,app,cons/2 X Xs,Y,cons/2 X Zs\nB,app,Xs,Y,Zs\nH,q,V2,V1,f/2 V4 g/2 a/0 V3\nB,p,V5\nB,r\n"

-- With room to spare, and just enough; layout wherever it may stand, and a stop before a space and at the end; fresh variables
-- beside a written one that comes later, from 1 again in the next clause; no clauses. Then 25: an atom after an atom, a variable as
-- an atom, a space and a line end before a parenthesis, no arguments in parentheses, a full stop before a name, with layout later
-- and with none, a tab, a byte 12, a byte 13 after a full stop, `:` without `-`, runs that begin with `_` and with a digit, a
-- variable with arguments; the end within a clause, and before its stop. 26: a name of 17 bytes, nine arguments, nine subgoals,
-- and 17 variables, each before 25 in a later clause; eight arguments, a name of 16 bytes, nested terms with nine arguments and 16 variables, which
-- pass, with a written V9 that no fresh variable is. 25 again: a variable as a subgoal, a neck without a head, a comma after a head, a
-- second pair of parentheses; 26: a symbol with ten arguments. 27: one byte short, before 25 and before 26 in a later clause; and 26
-- before 27.
abbrev pub examples : List Example
examples =
    row clauses 104 (paged (numbers 0 3 101 0) (lines ++ dots 3))
    ∷ row clauses 101 (paged (numbers 0 3 101 0) lines)
    ∷ row " p( X_1 , a )\n:- q , r . s." 24 (paged (numbers 0 2 24 0) (bytes "H,p,X_1,a/0\nB,q\nB,r\nH,s\n"))
    ∷ row "q(_) :- p(V1, _).\nq(_).\n" 24 (paged (numbers 0 2 24 0) (bytes "H,q,V2\nB,p,V1,V3\nH,q,V1\n"))
    ∷ row " \n" 2 (paged (numbers 0 0 0 0) (dots 2))
    ∷ refuses "a.\na :- b c.\n" 20 25 10
    ∷ refuses "X.\n" 20 25 0
    ∷ refuses "a (X).\n" 20 25 2
    ∷ refuses "a\n(X).\n" 20 25 2
    ∷ refuses "a().\n" 20 25 2
    ∷ refuses "a.b\n" 20 25 1
    ∷ refuses "p(a).q(b)." 20 25 4
    ∷ refuses "a(\tX).\n" 20 25 2
    ∷ refuses "a(\u{c}X).\n" 20 25 2
    ∷ refuses "a.\r\n" 20 25 1
    ∷ refuses "a :b.\n" 20 25 2
    ∷ refuses "a(_X).\n" 20 25 2
    ∷ refuses "a(9X).\n" 20 25 2
    ∷ refuses "a(X(b)).\n" 20 25 3
    ∷ refuses "a :- b(X,\n" 20 25 10
    ∷ refuses "a\n" 20 25 2
    ∷ refuses "a.\naaaaaaaaaaaaaaaaa.\n)" 20 26 2
    ∷ refuses "a(b,b,b,b,b,b,b,b,b).\n)" 20 26 1
    ∷ refuses "a:-b,b,b,b,b,b,b,b,b.\n)" 200 26 1
    ∷ row "a:-b,b,b,b,b,b,b,b." 36 (paged (numbers 0 1 36 0) (bytes "H,a\nB,b\nB,b\nB,b\nB,b\nB,b\nB,b\nB,b\nB,b\n"))
    ∷ refuses "a(b(_,_,_,_,_,_,_,_,_),b(_,_,_,_,_,_,_,_)).\n)" 200 26 1
    ∷ row "a(A,b,C,d,E,f,G,h)." 28 (paged (numbers 0 1 28 0) (bytes "H,a,A,b/0,C,d/0,E,f/0,G,h/0\n"))
    ∷ row "aaaaaaaaaaaaaaaa(b(c(d(e(f(A,B,C,g,h,D,E,F,k))))))." 63 (paged (numbers 0 1 63 0) (bytes "H,aaaaaaaaaaaaaaaa,b/1 c/1 d/1 e/1 f/9 A B C g/0 h/0 D E F k/0\n"))
    ∷ row "a(f(_,_,_,_,_,_,_,_,_),g(V9,_,_,_,_,_,_))." 67 (paged (numbers 0 1 67 0) (bytes "H,a,f/9 V1 V2 V3 V4 V5 V6 V7 V8 V10,g/7 V9 V11 V12 V13 V14 V15 V16\n"))
    ∷ refuses "a :- X.\n" 20 25 5
    ∷ refuses ":- a.\n" 20 25 0
    ∷ refuses "a, b.\n" 20 25 1
    ∷ refuses "p(a)(b).\n" 20 25 4
    ∷ refuses "a(f(b,b,b,b,b,b,b,b,b,b)).\n" 200 26 1
    ∷ refuses clauses 100 27 3
    ∷ refuses "a.\nb.\n)" 7 27 2
    ∷ refuses "a.\nb.\naaaaaaaaaaaaaaaaa.\n" 7 27 2
    ∷ refuses "aaaaaaaaaaaaaaaaa.\n" 7 26 1
    ∷ []

pub imports_are_met : map answer_to examples ≡ map (λ e. e.answer) examples
unfolding answer_to
imports_are_met = refl

-- the numbers of each case of the answer
pub record ImportationsMet : Type 0 where
  pub imported : import_numbers (Ok (record { clauses = 3; bytes = 40 })) ≡ numbers 0 3 40 0
  pub no_clauses : import_numbers (Err (NoClauses 40)) ≡ numbers 25 40 0 0
  pub over_limit : import_numbers (Err (OverLimit 3)) ≡ numbers 26 3 0 0
  pub short_buffer : import_numbers (Err (ShortBuffer 3)) ≡ numbers 27 3 0 0

pub importations_are_met : ImportationsMet
importations_are_met = record { imported = refl; no_clauses = refl; over_limit = refl; short_buffer = refl }
