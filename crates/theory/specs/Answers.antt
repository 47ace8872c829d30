-- Document 01, "What check returns" and "Reserving", with 02's 1/14, 2/14 and 3/14: the numbers and values of each case of the
-- answers of check, reserve, measure and the sheet.
use Rattle.std.proofs.Math.Option.{Option, some, none}
use Rattle.std.specs.Prelude.{ℕ, Result, Ok, Err}
use Prim.Native.Char.{code}
use Rattle.theory.specs.declared.Refusal.{Refusal}
use Rattle.theory.specs.declared.Refusal.TheVariants.{ShortArea, LongText, UnfinishedText, UnfitLine, Letter, NoEnd, Name, Declaration, FieldCount, Number, NoTerm, CountLimit, Unjustified, RuledFact, NotGround, UnmetClaim, Headless}
use Rattle.theory.specs.declared.Counts.{Counts}
use Rattle.theory.specs.declared.QueryRefusal.{QueryRefusal}
use Rattle.theory.specs.declared.QueryRefusal.TheVariants.{UnfitQuery, QueryName, AskedArgument, SizeField, AskedIsKnown}
use Rattle.theory.specs.declared.Reservation.{Reservation}
use Rattle.theory.specs.declared.Reservation.TheVariants.{Bounded, NoBound, Impossible, PackRefused, QueryRefused}
use Rattle.theory.specs.declared.FilingRefusal.{FilingRefusal}
use Rattle.theory.specs.declared.FilingRefusal.TheVariants.{ShortPage, NotAccepted}
use Rattle.theory.specs.declared.TermRefusal.{TermRefusal}
use Rattle.theory.specs.declared.TermRefusal.TheVariants.{UnfitTerm, NotTerm, HasVariable}
use Rattle.theory.specs.Check.{Numbers, numbers}
use Rattle.theory.specs.Measure.{Measured, measured}
use Rattle.theory.specs.Reserve.{Fields, fields}

abbrev pub refusal_numbers : Refusal → Numbers
refusal_numbers ShortArea = numbers 1 0 0 0
refusal_numbers LongText = numbers 2 0 0 0
refusal_numbers UnfinishedText = numbers 3 0 0 0
refusal_numbers (UnfitLine l) = numbers 4 l 0 0
refusal_numbers (Letter l) = numbers 5 l 0 0
refusal_numbers NoEnd = numbers 6 0 0 0
refusal_numbers (Name l) = numbers 7 l 0 0
refusal_numbers (Declaration l) = numbers 8 l 0 0
refusal_numbers (FieldCount l) = numbers 9 l 0 0
refusal_numbers (Number l) = numbers 10 l 0 0
refusal_numbers (NoTerm l) = numbers 11 l 0 0
refusal_numbers (CountLimit l) = numbers 12 l 0 0
refusal_numbers (Unjustified l r c) = numbers 13 l r c
refusal_numbers (RuledFact l) = numbers 20 l 0 0
refusal_numbers (NotGround l) = numbers 21 l 0 0
refusal_numbers (UnmetClaim l) = numbers 22 l 0 0
refusal_numbers (Headless l) = numbers 24 l 0 0

-- Check's four numbers.
abbrev pub numbers_of : Result Counts Refusal → Numbers
numbers_of (Ok c) = numbers 0 c.lines c.rules c.multiplier_lines
numbers_of (Err r) = refusal_numbers r

abbrev pub query_number : QueryRefusal → ℕ
query_number UnfitQuery = 4
query_number QueryName = 14
query_number AskedArgument = 16
query_number SizeField = 17
query_number AskedIsKnown = 18

-- Reserve's three fields.
abbrev pub reserved_fields : Reservation → Fields
reserved_fields (Bounded b) = fields (code "B") b.size b.claim
reserved_fields NoBound = fields (code "N") 0 0
reserved_fields (Impossible c) = fields (code "I") 0 c
reserved_fields (PackRefused r) = fields (code "R") (refusal_numbers r).number 0
reserved_fields (QueryRefused q) = fields (code "R") (query_number q) 0

-- the pack's refusal that an answer of reserve passes on, if it is one
abbrev pub passed_on : Reservation → Option Numbers
passed_on (Bounded b) = none
passed_on NoBound = none
passed_on (Impossible c) = none
passed_on (PackRefused r) = some (refusal_numbers r)
passed_on (QueryRefused q) = none

-- Sheet's four numbers.
abbrev pub filing_numbers : Result Counts FilingRefusal → Numbers
filing_numbers (Ok c) = numbers_of (Ok c)
filing_numbers (Err ShortPage) = numbers 23 0 0 0
filing_numbers (Err (NotAccepted r)) = refusal_numbers r

-- Measure's refusal, or 0 and the size.
abbrev pub measured_of : Result ℕ TermRefusal → Measured
measured_of (Ok size) = measured 0 size
measured_of (Err UnfitTerm) = measured 4 0
measured_of (Err NotTerm) = measured 11 0
measured_of (Err HasVariable) = measured 19 0
