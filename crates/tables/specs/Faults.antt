-- The numbers of the faults that a line may have.
use Rattle.std.specs.Prelude.{ℕ, Result, Ok, Err}
use Rattle.tables.specs.declared.State.{State}
use Rattle.tables.specs.declared.Fault.{Fault}
use Rattle.tables.specs.declared.Fault.TheVariants.{UnfitLine, Letter, Name, Declaration, FieldCount, Number, NoTerm, CountLimit, Unjustified, RuledFact, NotGround, UnmetClaim, Headless}

abbrev pub number_of : Fault → ℕ
number_of UnfitLine = 4
number_of Letter = 5
number_of Name = 7
number_of Declaration = 8
number_of FieldCount = 9
number_of Number = 10
number_of NoTerm = 11
number_of CountLimit = 12
number_of Unjustified = 13
number_of RuledFact = 20
number_of NotGround = 21
number_of UnmetClaim = 22
number_of Headless = 24

-- the number of what a line's end answers, 0 where it is done
abbrev pub closing_number : Result State Fault → ℕ
closing_number (Ok s) = 0
closing_number (Err f) = number_of f
