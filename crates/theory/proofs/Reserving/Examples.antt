-- Queries as one table: document 01's four samples, each number that a query is refused with, and each two that can meet in one query,
-- of which the row shows the lower. The definitions compute every answer.
use mathlib.Core.Path.{◌≡◌, refl}
use mathlib.Core.List.{List, [], ◌∷◌, map}
use Prim.Native.Nat.{ℕ}
use Prim.Native.Char.{code}
use Prim.Native.String.{String}
use Rattle.theory.specs.Reserve.{Fields, fields}
use Rattle.theory.specs.Witnesses.{joining}
use Rattle.theory.proofs.Examples.{reserved, reserve, answer_to}

-- a query on a pack, and what reserve returns
pub record Row : Type 0 where
  pub pack : String
  pub query : String
  pub answer : Fields

abbrev row : String → String → Fields → Row
row pack query answer = record { pack = pack; query = query; answer = answer }

-- a pack with nothing but a predicate of two arguments
abbrev refuses : String → ℕ → Row
refuses query n = row "P,k,2,G\nE\n" query (fields (code "R") n 0)

-- two claims on a predicate of two arguments, one of them with numbers of either sign
abbrev weighed : String
weighed = "P,k,2,G\nC,k,100,-7,-3\nC,k,-5,2,-3\nE\n"

-- The samples. Bounds by claims whose numbers are not 1: the second claim's, which is smaller; the first one's, since the second has a
-- positive number for an unknown argument; of the other argument; the lower of two claims that give the same; and "impossible" by the
-- second, though the first gives a bound. Then: a byte outside, in the name, in the asked argument and in a size beside a known one that is asked for (4, with 14,
-- 16, 17 and 18); no name, a malformed one, one that is not declared, a field too few (14), and one not declared with a malformed
-- argument, size, and an asked size that is known (with 16, 17, 18); argument 0, one too many, a leading zero (16), also with a malformed
-- size (17) and with known ones; a size too large, a leading zero, an empty one (17), also with an asked size that is known, and as that
-- size (18); an asked size that is known (18); the largest size, which is no fault. Last a refused pack, whose number comes first.
abbrev pub queries : List Row
queries =
    row joining "join,3,20,6,-" (fields (code "B") 26 1)
    ∷ row joining "join,1,-,20,6" (fields (code "I") 0 2)
    ∷ row joining "join,3,20,-,-" (fields (code "N") 0 0)
    ∷ row joining "join,3,20,6,5" (fields (code "R") 18 0)
    ∷ row weighed "k,2,4,-" (fields (code "B") 1 2)
    ∷ row weighed "k,2,-,-" (fields (code "B") 33 1)
    ∷ row weighed "k,1,-,30" (fields (code "B") 1 1)
    ∷ row "P,k,1,G\nC,k,7,-2\nC,k,6,-2\nE\n" "k,1,-" (fields (code "B") 3 1)
    ∷ row weighed "k,2,0,-" (fields (code "I") 0 2)
    ∷ refuses "k\t,1,-,-" 4
    ∷ refuses "k,\t,-,-" 4
    ∷ refuses "k,1,5,\t" 4
    ∷ refuses "" 14
    ∷ refuses "K,1,-,-" 14
    ∷ refuses "j,1,-,-" 14
    ∷ refuses "k,1,-" 14
    ∷ refuses "j,0,-,-" 14
    ∷ refuses "j,1,-,z" 14
    ∷ refuses "j,1,5,-" 14
    ∷ refuses "k,0,-,-" 16
    ∷ refuses "k,3,-,-" 16
    ∷ refuses "k,01,-,-" 16
    ∷ refuses "k,0,-,z" 16
    ∷ refuses "k,0,5,5" 16
    ∷ refuses "k,1,-,65536" 17
    ∷ refuses "k,1,-,01" 17
    ∷ refuses "k,1,-," 17
    ∷ refuses "k,1,5,z" 17
    ∷ refuses "k,1,z,-" 17
    ∷ refuses "k,1,5,-" 18
    ∷ row "P,k,2,G\nE\n" "k,2,65535,-" (fields (code "N") 0 0)
    ∷ row "E\nE\n" "" (fields (code "R") 5 0)
    ∷ []

pub queries_are_met : map (λ (r : Row). answer_to (reserve r.pack r.query)) queries ≡ map (λ (r : Row). reserved r.answer) queries
unfolding answer_to
queries_are_met = refl
