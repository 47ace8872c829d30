-- Sorts of lines. Lines of one sort open alike and have fields of one kind, whatever else their letters ask.
use Rattle.theory.specs.declared.Letter.{Letter}
use Rattle.theory.specs.declared.Letter.TheVariants.{P, C, G, H, B, M, E, NoLetter}

-- A line declares a predicate; has numbers for a declared one; states an atom of no rule or the first of its rule; states the next
-- atom of a rule; has multipliers; ends the pack; or is none of these.
pub data Sort : Type 0 where
  declaring numbering stating following multiplying ending none : Sort

abbrev pub sort_of : Letter → Sort
sort_of P = declaring
sort_of C = numbering
sort_of G = stating
sort_of H = stating
sort_of B = following
sort_of M = multiplying
sort_of E = ending
sort_of NoLetter = none
