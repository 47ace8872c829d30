-- Document 02, 6/14: the numbers of each case of import's answer.
use Rattle.std.specs.Prelude.{Result, Ok, Err}
use Rattle.clause_theory.specs.declared.Imported.{Imported}
use Rattle.clause_theory.specs.declared.ImportRefusal.{ImportRefusal}
use Rattle.clause_theory.specs.declared.ImportRefusal.TheVariants.{NoClauses, OverLimit, ShortBuffer}
use Rattle.theory.specs.Check.{Numbers, numbers}

-- Import's four numbers.
abbrev pub import_numbers : Result Imported ImportRefusal → Numbers
import_numbers (Ok i) = numbers 0 i.clauses i.bytes 0
import_numbers (Err (NoClauses place)) = numbers 25 place 0 0
import_numbers (Err (OverLimit clause)) = numbers 26 clause 0 0
import_numbers (Err (ShortBuffer clause)) = numbers 27 clause 0 0
