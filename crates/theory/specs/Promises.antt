-- The three demands, as statements about what check and reserve return; and what the calls' own answers and words tell. Promised
-- says of what all this holds, and that is proved as a whole.
use Rattle.std.specs.Prelude.{◌≡◌, ◌↔◌, List, ℕ, ◌+◌, ◌≤◌, ℤ, pos, length, drop, Result, Ok}
use Rattle.std.proofs.Math.Option.{some}
use Prim.Native.Char.{code}
use Rattle.theory.specs.Lists.{◌∈◌, ending}
use Rattle.theory.specs.Text.{Bytes, lines_of}
use Rattle.theory.specs.Terms.{Term, variables, Substitution, under}
use Rattle.theory.specs.Sizes.{sum_of_arities, occurrences_in, Measure, structural, constant_of, coefficient_of, size}
use Rattle.theory.specs.Forms.{form_of, Once, value_at}
use Rattle.theory.specs.Packs.{Predicate, Claim, Atom, Pack, measure_in, key, claim_key, atom_key, declared_as, claims_on, on_claims}
use Rattle.theory.specs.Written.{pack_of}
use Rattle.theory.specs.Residuals.{area_needed}
use Rattle.theory.specs.Faults.{whole, but_for_heads}
use Rattle.theory.specs.Check.{Judgement, numbers, plain, multiplier_lines, judgement_of, verdict_of, check_of}
use Rattle.theory.specs.Measure.{measure_of}
use Rattle.theory.specs.Reserve.{Query, query_key, query_of, query_fault, fields, reservation, reserve_of, size_at, HasKnownSizes}
use Rattle.theory.specs.Words.{check_word, reserve_word, measure_word, CheckRoom, ReserveRoom, MeasureRoom, word_number, word_letter, word_middle, numbers_in, fields_in, measured_in}
use Rattle.theory.specs.Limits.{Acceptable, AcceptableButForHeads}
use Rattle.theory.specs.Outcomes.{Outcome}
use Rattle.theory.specs.SmallestBound.{BoundGiven, ImpossibleBy, NoneUsable}
use Rattle.theory.specs.Answers.{refusal_numbers, numbers_of, reserved_fields}
use Rattle.theory.specs.declared.Counts.{Counts}
use Rattle.theory.specs.declared.Refusal.{Refusal}
use Rattle.theory.specs.declared.Bound.{Bound}
use Rattle.theory.specs.declared.QueryRefusal.{QueryRefusal}
use Rattle.theory.specs.declared.Reservation.{Reservation}
use Rattle.theory.specs.declared.Reservation.TheVariants.{Bounded, Impossible, PackRefused, QueryRefused}
use Rattle.theory.specs.Facts.{MeetsAll}
use Rattle.theory.specs.Derivations.{GivenFact, ShippedFact, Derivable}

-- ## Sizes (demand 2, its first sentence; 02, 4/14)

-- By the structural measure a term's form is what 000, section 1.4 makes of the term: the first part is the sum of the
-- arities of its symbols, the second the number of occurrences of each variable, and both together are the form.
pub record SectionForm (t : Term) : Type 0 where
  pub first : constant_of structural t ≡ sum_of_arities t
  pub second : (x : Bytes) → coefficient_of structural t x ≡ occurrences_in t x
  pub both : form_of structural t ≡ record { constant = pos (sum_of_arities t); coefficient = λ x. pos (occurrences_in t x) }

-- Measuring a term after substitution gives what its form gives at the sizes substituted: for every measure, and any list of
-- variables that holds the term's own, each once.
pub record SizeUnder (m : Measure) (σ : Substitution) (t : Term) : Type 0 where
  pub is : (xs : List Bytes) → Once xs → ((x : Bytes) → x ∈ variables t → x ∈ xs) → value_at (λ x. size m (σ.for x)) xs (form_of m t) ≡ pos (size m (under σ t))

-- ## Names (02, 5/14)

-- What two predicates of one name and two arities share, which is nothing where the arities differ: no declaration, claim or fact
-- is of both, and a claim on the one changes no reservation by the other.
pub record ShareNothing (name : Bytes) (n other : ℕ) : Type 0 where
  pub declared : (ps : List Predicate) (x : Predicate) → declared_as (key name n) ps ≡ some x → declared_as (key name other) ps ≡ some x → ⊥
  pub claims : (cs : List Claim) (c : Claim) → c ∈ claims_on (key name n) cs → c ∈ claims_on (key name other) cs → ⊥
  pub facts : (f : Atom) → atom_key f ≡ key name n → atom_key f ≡ key name other → ⊥
  pub reservations : (p : Pack) (q : Query) → query_key q ≡ key name n → (c : Claim) → claim_key c ≡ key name other → reservation (on_claims (ending c) p) q ≡ reservation p q

-- ## Demand 1

-- For every text and area check gives one of its outcomes; the area changes only for 13, and then only its first numbers.
pub record DemandOne (text : Bytes) (area : List ℤ) : Type 0 where
  pub outcome : Outcome text area (check_of text area)
  -- with room in the area it is the verdict on the text, which the other calls pass on
  pub verdict : area_needed ≤ length area → (check_of text area).returned ≡ (verdict_of text).returned
  pub unchanged : ((check_of text area).returned.number ≡ 13 → ⊥) → (check_of text area).area ≡ area
  pub rest : drop area_needed (check_of text area).area ≡ drop area_needed area

-- ## Demand 2

-- the pack is accepted and the query has no fault, so it is answered by the claims
pub record Answerable (text query : Bytes) : Type 0 where
  pub accepted : (verdict_of text).returned.number ≡ 0
  pub faultless : query_fault (pack_of text) query ≡ 0

-- Check accepts what has 01's form and limits, no residual number below 0, and a rule for each ruled predicate with a claim,
-- and nothing else. Reserve gives a bound exactly where it is the smallest that usable claims give, by the lowest of these
-- that gives it; and so for the other answers.
pub record DemandTwo (text : Bytes) : Type 0 where
  pub accepted : (area : List ℤ) → ((check_of text area).returned.number ≡ 0) ↔ Acceptable text area
  -- the pack that the text writes is the one that its lines write, of which reserve and demand 3 speak
  pub pack : (a : AcceptableButForHeads text) → a.pack ≡ pack_of text
  pub bound : (query : Bytes) (b n : ℕ) → (reserve_of text query ≡ fields (code "B") b n) ↔ (Answerable text query × BoundGiven (pack_of text) (query_of query) b n)
  pub impossible : (query : Bytes) (n : ℕ) → (reserve_of text query ≡ fields (code "I") 0 n) ↔ (Answerable text query × ImpossibleBy (pack_of text) (query_of query) n)
  pub no_bound : (query : Bytes) → (reserve_of text query ≡ fields (code "N") 0 0) ↔ (Answerable text query × NoneUsable (pack_of text) (query_of query))

-- Lines are judged past the `E` line, the one with this number: accepted there, or refused on the next, where nothing may stand.
pub data GoesPast (line : ℕ) : Judgement → Type 0 where
  ends : {rules lines : ℕ} → GoesPast line (plain (numbers 0 line rules lines))
  unfit : GoesPast line (plain (numbers 4 (line + 1) 0 0))
  misplaced : GoesPast line (plain (numbers 5 (line + 1) 0 0))

-- Judged but for 24, a text is accepted exactly if it meets everything but the condition on heads, with its counts; it is
-- never refused with 24. Where check's verdict is not 24 either, both are the same; where it is, judging goes past that line.
pub record ButForHeads (text : Bytes) : Type 0 where
  pub accepted : ((judgement_of (but_for_heads whole) text).returned.number ≡ 0) ↔ AcceptableButForHeads text
  pub counts : (a : AcceptableButForHeads text) → judgement_of (but_for_heads whole) text ≡ plain (numbers 0 (length (lines_of text)) (length a.pack.rules) (multiplier_lines a.pack.rules))
  pub never : (judgement_of (but_for_heads whole) text).returned.number ≡ 24 → ⊥
  pub agrees : ((verdict_of text).returned.number ≡ 24 → ⊥) → judgement_of (but_for_heads whole) text ≡ verdict_of text
  pub past : (verdict_of text).returned.number ≡ 24 → GoesPast (verdict_of text).returned.line (judgement_of (but_for_heads whole) text)

-- ## Demand 3

-- the premise on given facts: each is a fact of a given predicate, and it fails no claim on that
abbrev pub GivenMeet : Bytes → (Atom → Type 0) → Type 0
GivenMeet text Given = (f : Atom) → Given f → GivenFact (pack_of text) f

-- What the definitions of check and reserve tell of whatever has a derivation from the pack that the text's lines write.
pub record ClaimsKept (text : Bytes) (Given : Atom → Type 0) : Type 0 where
  -- check accepts: it meets every claim on its predicate
  pub claims_met : (area : List ℤ) → (check_of text area).returned.number ≡ 0
      → (f : Atom) → Derivable (pack_of text) Given f → MeetsAll (pack_of text) f
  -- reserve gives a bound: with the query's known sizes, its asked size is no larger
  pub bound_kept : (query : Bytes) (bound claim : ℕ) → reserve_of text query ≡ fields (code "B") bound claim
      → (f : Atom) → Derivable (pack_of text) Given f → HasKnownSizes (measure_in (pack_of text)) (query_of query) f → size_at (measure_in (pack_of text)) (query_of query).asked f ≤ bound
  -- reserve says "impossible": there is none with the query's known sizes
  pub none_such : (query : Bytes) (claim : ℕ) → reserve_of text query ≡ fields (code "I") 0 claim
      → (f : Atom) → Derivable (pack_of text) Given f → HasKnownSizes (measure_in (pack_of text)) (query_of query) f → ⊥

-- The same of the calls' own answers: the first premise of each part is the equation that the call's contract promises.
pub record AnswersKept (text : Bytes) (Given : Atom → Type 0) : Type 0 where
  pub accepted : (area : List ℤ) (answer : Result Counts Refusal) → numbers_of answer ≡ (check_of text area).returned → (counts : Counts) → answer ≡ Ok counts
      → (f : Atom) → Derivable (pack_of text) Given f → MeetsAll (pack_of text) f
  pub bounded : (query : Bytes) (answer : Reservation) → reserved_fields answer ≡ reserve_of text query → (bound : Bound) → answer ≡ Bounded bound
      → (f : Atom) → Derivable (pack_of text) Given f → HasKnownSizes (measure_in (pack_of text)) (query_of query) f → size_at (measure_in (pack_of text)) (query_of query).asked f ≤ bound.size
  pub impossible : (query : Bytes) (answer : Reservation) → reserved_fields answer ≡ reserve_of text query → (claim : ℕ) → answer ≡ Impossible claim
      → (f : Atom) → Derivable (pack_of text) Given f → HasKnownSizes (measure_in (pack_of text)) (query_of query) f → ⊥

-- And of the words, as the firmware sees them, taken apart by the header's functions.
pub record WordsKept (text : Bytes) (Given : Atom → Type 0) : Type 0 where
  pub accepted : (area : List ℤ) (word : ℕ) → word ≡ check_word (check_of text area).returned → word_number word ≡ 0
      → (f : Atom) → Derivable (pack_of text) Given f → MeetsAll (pack_of text) f
  pub bounded : (query : Bytes) (word : ℕ) → word ≡ reserve_word (reserve_of text query) → word_letter word ≡ code "B"
      → (f : Atom) → Derivable (pack_of text) Given f → HasKnownSizes (measure_in (pack_of text)) (query_of query) f → size_at (measure_in (pack_of text)) (query_of query).asked f ≤ word_middle word
  pub impossible : (query : Bytes) (word : ℕ) → word ≡ reserve_word (reserve_of text query) → word_letter word ≡ code "I"
      → (f : Atom) → Derivable (pack_of text) Given f → HasKnownSizes (measure_in (pack_of text)) (query_of query) f → ⊥

-- All three of the same given facts.
pub record Kept (text : Bytes) (Given : Atom → Type 0) : Type 0 where
  pub claims : ClaimsKept text Given
  pub answers : AnswersKept text Given
  pub words : WordsKept text Given

-- Of any given facts that keep to the premise; and, with no premise left, where all facts that meet their claims are given
-- (01), and where the given facts are just those on the pack's `G` lines (02, 1/14).
pub record DemandThree (text : Bytes) : Type 1 where
  pub general : (Given : Atom → Type 0) → GivenMeet text Given → Kept text Given
  pub all : Kept text (GivenFact (pack_of text))
  pub shipped : Kept text (ShippedFact (pack_of text))

-- ## The answers themselves

-- Reserve's own answer has the right case: a pack's refusal carries all of check's numbers, and a query is refused only
-- where the pack is accepted.
pub record RightCase (text : Bytes) (answer : Reservation) : Type 0 where
  pub of_pack : (r : Refusal) → answer ≡ PackRefused r → refusal_numbers r ≡ (verdict_of text).returned
  pub of_query : (r : QueryRefusal) → answer ≡ QueryRefused r → (verdict_of text).returned.number ≡ 0

-- Every answer fits its word, and the header's functions give it back.
pub record WordsTell (text : Bytes) (area : List ℤ) (query term : Bytes) : Type 0 where
  pub check_room : CheckRoom (check_of text area).returned
  pub reserve_room : ReserveRoom (reserve_of text query)
  pub measure_room : MeasureRoom (measure_of term)
  pub check : numbers_in (check_word (check_of text area).returned) ≡ (check_of text area).returned
  pub reserve : fields_in (reserve_word (reserve_of text query)) ≡ reserve_of text query
  pub measure : measured_in (measure_word (measure_of term)) ≡ measure_of term
