-- The program's reply (document 01, "The program"), as one table: the definitions compute every byte.
use mathlib.Core.Path.{refl}
use mathlib.Core.List.{List, [], ◌∷◌}
use Prim.Native.String.{String}
use Rattle.theory.specs.Text.{bytes}
use Rattle.theory.proofs.Examples.{reply_to, printed, answer_to, Row, ◌gives◌, AnswersMet}

infix 10 ◌prints◌
abbrev ◌prints◌ : String → String → Row
◌prints◌ input output = reply_to input gives printed (bytes output)

-- The document's own example. No input, no `E` line, an `E` without its byte 10. Lines that only begin or end like `E`; one of
-- them refuses the pack, and the query too. A second `E` is a query. The last query with and without its byte 10; an empty one
-- before another, and as the last.
abbrev pub replies : List Row
replies =
    ("P,join,3,R\nC,join,0,1,1,-1\nC,join,0,-1,-1,1\nH,join,nil/0,Y,Y\nM\nM\nH,join,cons/2 X Xs,Y,cons/2 X Zs\nB,join,Xs,Y,Zs\nM,1,0\nM,0,1\nE\njoin,3,20,6,-\njoin,1,-,20,6\njoin,3,20,-,-\njoin,3,20,6,5\n" prints "0,11,2,4\nB,26,1\nI,0,2\nN,0,0\nR,18,0\n")
    ∷ ("" prints "3,0,0,0\n")
    ∷ ("P,k,0,G\n" prints "6,0,0,0\n")
    ∷ ("P,k,0,G\nE" prints "3,0,0,0\n")
    ∷ ("P,k,0,G\nE,x\nPE\nE\nk,1\n" prints "9,2,0,0\nR,9,0\n")
    ∷ (" E\nk\n" prints "5,1,0,0\n")
    ∷ ("E\nE\n" prints "0,1,0,0\nR,14,0\n")
    ∷ ("P,k,1,G\nC,k,70,-2\nE\nk,1,-" prints "0,3,0,0\nB,35,1\n")
    ∷ ("P,k,1,G\nC,k,70,-2\nE\nk,1,-\n" prints "0,3,0,0\nB,35,1\n")
    ∷ ("P,k,1,G\nC,k,70,-2\nE\n\nk,1,-\n\n" prints "0,3,0,0\nR,14,0\nB,35,1\nR,14,0\n")
    ∷ []

pub replies_are_met : AnswersMet replies
unfolding answer_to bytes
replies_are_met = refl
