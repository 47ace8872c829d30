-- Document 01's limits at their edges, as one table: what passes, and one more.
use mathlib.Core.Path.{refl}
use mathlib.Core.List.{List, [], ◌∷◌, ◌++◌, flatten}
use Prim.Native.Nat.{ℕ}
use Prim.Native.String.{String}
use lib.IntN.{pos}
use lib.ListN.{length, replicate}
use Rattle.groundwork.proofs.Truth.{lt-ltb, ge-ltb}
use Rattle.theory.specs.Text.{Bytes, bytes}
use Rattle.theory.specs.Packs.{text_limit}
use Rattle.theory.specs.Check.{numbers, judgement_of}
use Rattle.theory.specs.Outcomes.{TextLengthTold}
use Rattle.theory.specs.Measure.{measured}
use Rattle.theory.proofs.Examples.{Example, check, check_on, measure_on, checked, sized, answer_to, before, unchanged, Row, ◌gives◌, AnswersMet}

-- a quoted text so many times
abbrev times : ℕ → String → Bytes
times n s = flatten (replicate n (bytes s))

-- one text, some of another, and a third
abbrev around : String → ℕ → String → String → Example
around front n s back = check_on (bytes front ++ times n s ++ bytes back) before

-- a term of so many symbols f/1 before a constant
abbrev nested : ℕ → String → Bytes
nested n constant = times n "f/1 " ++ bytes constant

-- Lines of 1,024 and 1,025 bytes; claim numbers and multipliers up to 9999; names, variables and symbols of 16 and 17 bytes; 8 and 9
-- arguments of a predicate, 9 and 10 of a symbol; a term with a symbol of each arity up to 8; areas of 17 and 16 numbers; terms of 1,024 and 1,025 bytes. (The counts of
-- predicates, claims, rules, subgoals and variables at their edges are rows of the table of lines, in Judging/Examples.)
abbrev pub limits : List Row
limits =
    (check_on (bytes "P,kk,1,R\nH,kk," ++ nested 254 "a/0\nE\n") before gives unchanged 0 3 1 0)
    ∷ (check_on (bytes "P,kk,1,R\nH,kk," ++ nested 254 "ab/0\nE\n") before gives unchanged 4 2 0 0)
    ∷ (check "P,k,0,G\nC,k,9999\nC,k,-9999\nE\n" before gives unchanged 0 4 0 0)
    ∷ (check "P,k,0,G\nC,k,10000\nE\n" before gives unchanged 10 2 0 0)
    ∷ (check "P,k,0,G\nC,k,-10000\nE\n" before gives unchanged 10 2 0 0)
    ∷ (check "P,k,0,R\nC,k,0\nH,k\nB,k\nM,9999\nE\n" before gives unchanged 0 6 1 1)
    ∷ (check "P,k,0,R\nC,k,0\nH,k\nB,k\nM,10000\nE\n" before gives unchanged 10 5 0 0)
    ∷ (around "P," 16 "k" ",0,G\nE\n" gives unchanged 0 2 0 0)
    ∷ (around "P," 17 "k" ",0,G\nE\n" gives unchanged 7 1 0 0)
    ∷ (around "P,k,1,R\nH,k," 16 "X" "\nE\n" gives unchanged 0 3 1 0)
    ∷ (around "P,k,1,R\nH,k," 17 "X" "\nE\n" gives unchanged 11 2 0 0)
    ∷ (measure_on (times 16 "f" ++ bytes "/0") gives sized (measured 0 0))
    ∷ (measure_on (times 17 "f" ++ bytes "/0") gives sized (measured 11 0))
    ∷ (check "P,k,8,G\nE\n" before gives unchanged 0 2 0 0)
    ∷ (check "P,k,9,G\nE\n" before gives unchanged 10 1 0 0)
    ∷ (measure_on (bytes "f/9 " ++ times 8 "a/0 " ++ bytes "a/0") gives sized (measured 0 9))
    ∷ (measure_on (bytes "f/10 " ++ times 9 "a/0 " ++ bytes "a/0") gives sized (measured 11 0))
    ∷ (check "E\n" (replicate 17 (pos 7)) gives checked (record { returned = numbers 0 1 0 0; area = replicate 17 (pos 7) }))
    ∷ (check "E\n" (replicate 16 (pos 7)) gives checked (record { returned = numbers 1 0 0 0; area = replicate 16 (pos 7) }))
    ∷ (measure_on (bytes "h/8 g/7 f/6 e/5 d/4 c/3 b/2 a/1 " ++ times 27 "a/0 " ++ bytes "a/0 a/0") gives sized (measured 0 36))
    ∷ (measure_on (nested 255 "ab/0") gives sized (measured 0 255))
    ∷ (measure_on (nested 255 "abc/0") gives sized (measured 4 0))
    ∷ []

pub limits_are_met : AnswersMet limits
unfolding answer_to bytes flatten
limits_are_met = refl

-- A text's length needs no row: what is said of it is said for every text.
pub text_length_told : TextLengthTold
unfolding judgement_of
text_length_told = record { short = λ text h e. rw (ge-ltb text_limit (length text) h, e); long = λ text h. rw (lt-ltb text_limit (length text) h) }
