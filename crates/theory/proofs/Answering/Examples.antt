-- The numbers and values of each case of the code's answers, as one table beside documents 01 and 02.
use mathlib.Core.Path.{◌≡◌, refl}
use mathlib.Core.List.{[], ◌∷◌, map}
use mathlib.Core.Option.{some, none}
use Prim.Native.Char.{code}
use Rattle.theory.specs.declared.Counts.{Counts}
use Rattle.theory.specs.declared.Bound.{Bound}
use Rattle.theory.specs.declared.Refusal.TheVariants.{ShortArea, LongText, UnfinishedText, UnfitLine, Letter, NoEnd, Name, Declaration, FieldCount, Number, NoTerm, CountLimit, Unjustified, RuledFact, NotGround, UnmetClaim, Headless}
use Rattle.std.specs.Prelude.{Ok, Err}
use Rattle.theory.specs.declared.QueryRefusal.TheVariants.{UnfitQuery, QueryName, AskedArgument, SizeField, AskedIsKnown}
use Rattle.theory.specs.declared.Reservation.TheVariants.{Bounded, NoBound, Impossible, PackRefused, QueryRefused}
use Rattle.theory.specs.declared.FilingRefusal.TheVariants.{ShortPage, NotAccepted}
use Rattle.theory.specs.declared.TermRefusal.TheVariants.{UnfitTerm, NotTerm, HasVariable}
use Rattle.theory.specs.Check.{numbers}
use Rattle.theory.specs.Measure.{measured}
use Rattle.theory.specs.Reserve.{fields}
use Rattle.theory.specs.Answers.{refusal_numbers, numbers_of, reserved_fields, passed_on, filing_numbers, measured_of}

-- 5 lines, 6 rules, 7 `M` lines; a bound of 8 by claim 9
abbrev counts : Counts
counts = record { lines = 5; rules = 6; multiplier_lines = 7 }

abbrev bound : Bound
bound = record { size = 8; claim = 9 }

-- line 5, and for 13 rule 6, claim 7
pub record RefusalsMet : Type 0 where
  pub short_area : refusal_numbers ShortArea ≡ numbers 1 0 0 0
  pub long_text : refusal_numbers LongText ≡ numbers 2 0 0 0
  pub unfinished : refusal_numbers UnfinishedText ≡ numbers 3 0 0 0
  pub unfit : refusal_numbers (UnfitLine 5) ≡ numbers 4 5 0 0
  pub letter : refusal_numbers (Letter 5) ≡ numbers 5 5 0 0
  pub no_end : refusal_numbers NoEnd ≡ numbers 6 0 0 0
  pub name : refusal_numbers (Name 5) ≡ numbers 7 5 0 0
  pub declaration : refusal_numbers (Declaration 5) ≡ numbers 8 5 0 0
  pub field_count : refusal_numbers (FieldCount 5) ≡ numbers 9 5 0 0
  pub number : refusal_numbers (Number 5) ≡ numbers 10 5 0 0
  pub no_term : refusal_numbers (NoTerm 5) ≡ numbers 11 5 0 0
  pub count_limit : refusal_numbers (CountLimit 5) ≡ numbers 12 5 0 0
  pub unjustified : refusal_numbers (Unjustified 5 6 7) ≡ numbers 13 5 6 7
  pub ruled_fact : refusal_numbers (RuledFact 5) ≡ numbers 20 5 0 0
  pub not_ground : refusal_numbers (NotGround 5) ≡ numbers 21 5 0 0
  pub unmet_claim : refusal_numbers (UnmetClaim 5) ≡ numbers 22 5 0 0
  pub headless : refusal_numbers (Headless 5) ≡ numbers 24 5 0 0

pub refusals_are_met : RefusalsMet
refusals_are_met = record {
  short_area = refl;
  long_text = refl;
  unfinished = refl;
  unfit = refl;
  letter = refl;
  no_end = refl;
  name = refl;
  declaration = refl;
  field_count = refl;
  number = refl;
  no_term = refl;
  count_limit = refl;
  unjustified = refl;
  ruled_fact = refl;
  not_ground = refl;
  unmet_claim = refl;
  headless = refl;
}

pub record AnswersMet : Type 0 where
  pub accepted : numbers_of (Ok counts) ≡ numbers 0 5 6 7
  pub refused : numbers_of (Err (Unjustified 5 6 7)) ≡ numbers 13 5 6 7
  pub bounded : reserved_fields (Bounded bound) ≡ fields (code "B") 8 9
  pub no_bound : reserved_fields NoBound ≡ fields (code "N") 0 0
  pub impossible : reserved_fields (Impossible 9) ≡ fields (code "I") 0 9
  pub pack_refused : reserved_fields (PackRefused (Unjustified 5 6 7)) ≡ fields (code "R") 13 0
  pub unfit_query : reserved_fields (QueryRefused UnfitQuery) ≡ fields (code "R") 4 0
  pub query_name : reserved_fields (QueryRefused QueryName) ≡ fields (code "R") 14 0
  pub asked_argument : reserved_fields (QueryRefused AskedArgument) ≡ fields (code "R") 16 0
  pub size_field : reserved_fields (QueryRefused SizeField) ≡ fields (code "R") 17 0
  pub asked_is_known : reserved_fields (QueryRefused AskedIsKnown) ≡ fields (code "R") 18 0
  pub passed : map passed_on (Bounded bound ∷ NoBound ∷ Impossible 9 ∷ PackRefused (Unjustified 5 6 7) ∷ QueryRefused QueryName ∷ []) ≡ none ∷ none ∷ none ∷ some (numbers 13 5 6 7) ∷ none ∷ []
  pub filed : filing_numbers (Ok counts) ≡ numbers 0 5 6 7
  pub short_page : filing_numbers (Err ShortPage) ≡ numbers 23 0 0 0
  pub not_accepted : filing_numbers (Err (NotAccepted (Unjustified 5 6 7))) ≡ numbers 13 5 6 7
  pub size : measured_of (Ok 8) ≡ measured 0 8
  pub unfit_term : measured_of (Err UnfitTerm) ≡ measured 4 0
  pub not_term : measured_of (Err NotTerm) ≡ measured 11 0
  pub has_variable : measured_of (Err HasVariable) ≡ measured 19 0

pub answers_are_met : AnswersMet
answers_are_met = record {
  accepted = refl;
  refused = refl;
  bounded = refl;
  no_bound = refl;
  impossible = refl;
  pack_refused = refl;
  unfit_query = refl;
  query_name = refl;
  asked_argument = refl;
  size_field = refl;
  asked_is_known = refl;
  passed = refl;
  filed = refl;
  short_page = refl;
  not_accepted = refl;
  size = refl;
  unfit_term = refl;
  not_term = refl;
  has_variable = refl;
}
