-- The numbers of refusals: none is 0, which stands for no fault, and all have two digits at most.
use Prim.Native.Nat.{◌≤◌, ◌<◌}
use native.Mathlib.Omega.{arith}
use Rattle.theory.specs.Answers.{refusal_numbers, query_number}
use Rattle.theory.specs.declared.QueryRefusal.{QueryRefusal}
use Rattle.theory.specs.declared.QueryRefusal.TheVariants.{UnfitQuery, QueryName, AskedArgument, SizeField, AskedIsKnown}
use Rattle.theory.specs.declared.Refusal.{Refusal}
use Rattle.theory.specs.declared.Refusal.TheVariants.{ShortArea, LongText, UnfinishedText, UnfitLine, Letter, NoEnd, Name, Declaration, FieldCount, Number, NoTerm, CountLimit, Unjustified, RuledFact, NotGround, UnmetClaim, Headless}

pub refusal_number : (r : Refusal) → (0 < (refusal_numbers r).number) × ((refusal_numbers r).number < 100)
refusal_number ShortArea = omega arith
refusal_number LongText = omega arith
refusal_number UnfinishedText = omega arith
refusal_number (UnfitLine l) = omega arith
refusal_number (Letter l) = omega arith
refusal_number NoEnd = omega arith
refusal_number (Name l) = omega arith
refusal_number (Declaration l) = omega arith
refusal_number (FieldCount l) = omega arith
refusal_number (Number l) = omega arith
refusal_number (NoTerm l) = omega arith
refusal_number (CountLimit l) = omega arith
refusal_number (Unjustified l r c) = omega arith
refusal_number (RuledFact l) = omega arith
refusal_number (NotGround l) = omega arith
refusal_number (UnmetClaim l) = omega arith
refusal_number (Headless l) = omega arith

pub query_number_lem : (r : QueryRefusal) → (0 < query_number r) × (query_number r ≤ 18)
query_number_lem UnfitQuery = omega arith
query_number_lem QueryName = omega arith
query_number_lem AskedArgument = omega arith
query_number_lem SizeField = omega arith
query_number_lem AskedIsKnown = omega arith
