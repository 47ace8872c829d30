-- Document 01, "Reserving", with 02's 5/14, in words: how a query is written, what is wrong with one, and what reserve returns. The
-- tests themselves are in Reserve; that both agree is promised here (`QueriesTold`, `ReserveTold`).
use Rattle.std.specs.Prelude.{◌≡◌, List, ◌∷◌, map, ℕ, ◌+◌, ◌≤◌, ◌<◌, length, drop}
use Rattle.std.proofs.Math.Option.{Option, some, none}
use Prim.Native.Char.{code}
use Rattle.theory.specs.Lists.{◌∈◌}
use Rattle.theory.specs.Text.{Bytes, bytes, decimal, fields_of}
use Rattle.theory.specs.Packs.{Predicate, Pack, line_limit, line}
use Rattle.theory.specs.Written.{field, pack_of}
use Rattle.theory.specs.LinesTold.{Fit, Unfit}
use Rattle.theory.specs.Check.{verdict_of}
use Rattle.theory.specs.Reserve.{Query, size_given, query_of, query_fault, Fields, fields, reserve_of}
use Rattle.theory.specs.SmallestBound.{BoundGiven, ImpossibleBy, NoneUsable}

-- ## How a query is written

unfoldable pub written_size : Option ℕ → Bytes
written_size none = bytes "-"
written_size (some s) = decimal s

-- the name, the asked argument counted from 1, and a size or `-` for each argument
unfoldable pub query_fields : Query → List Bytes
query_fields q = q.name ∷ decimal (q.asked + 1) ∷ map written_size q.sizes

abbrev pub written_query : Query → Bytes
written_query q = line (query_fields q)

-- ## What is right with a query, field by field

-- its first field is the name of a declared predicate, which has two arguments less than there are fields
pub record Named (p : Pack) (fields : List Bytes) : Type 0 where
  pub predicate : Predicate
  pub declared : predicate ∈ p.predicates
  pub is_name : field 0 fields ≡ predicate.name
  pub is_arity : length fields ≡ predicate.arguments + 2

-- its second field is the number of an argument, from 1
pub record Asked (fields : List Bytes) : Type 0 where
  pub argument : ℕ
  pub low : 1 ≤ argument
  pub high : argument + 2 ≤ length fields
  pub is_written : field 1 fields ≡ decimal argument

-- a field for a size: `-`, or a number from 0 to 65,535
pub data SizeField (f : Bytes) : Type 0 where
  unknown : f ≡ bytes "-" → SizeField f
  known : (s : ℕ) → s ≤ 65535 → f ≡ decimal s → SizeField f

-- each field from the third on is one
abbrev pub Sized : List Bytes → Type 0
Sized fields = (f : Bytes) → f ∈ drop 2 fields → SizeField f

-- the field of the asked argument is `-`
abbrev pub LeavesOpen : (fields : List Bytes) → Asked fields → Type 0
LeavesOpen fields a = field (a.argument + 1) fields ≡ bytes "-"

-- A query on a pack: of a declared predicate, with a size for each of its arguments, none of them too large and that of the asked
-- argument unknown; and it can be written in a line.
pub record QueryFits (p : Pack) (q : Query) : Type 0 where
  pub predicate : Predicate
  pub declared : predicate ∈ p.predicates
  pub is_name : q.name ≡ predicate.name
  pub is_arity : length q.sizes ≡ predicate.arguments
  pub within : q.asked < length q.sizes
  pub small : (s : ℕ) → some s ∈ q.sizes → s ≤ 65535
  pub unknown : size_given q.asked q ≡ none
  pub short : length (written_query q) ≤ line_limit

-- the bytes are this query, written
pub record QueryWritten (p : Pack) (query : Bytes) (q : Query) : Type 0 where
  pub fits : QueryFits p q
  pub is_written : query ≡ written_query q

-- ## What is wrong with a query

-- The number of its fault, the lowest that applies; or 0, and then it is a query on the pack, written, and read as that query.
pub data QueryTold (p : Pack) (query : Bytes) : ℕ → Type 0 where
  unfit : Unfit query → QueryTold p query 4
  unnamed : Fit query → (Named p (fields_of query) → ⊥) → QueryTold p query 14
  unasked : Fit query → Named p (fields_of query) → (Asked (fields_of query) → ⊥) → QueryTold p query 16
  unsized : Fit query → Named p (fields_of query) → Asked (fields_of query) → (f : Bytes) → f ∈ drop 2 (fields_of query) → (SizeField f → ⊥) → QueryTold p query 17
  asked_known : Fit query → Named p (fields_of query) → (a : Asked (fields_of query)) → Sized (fields_of query) → (LeavesOpen (fields_of query) a → ⊥) → QueryTold p query 18
  faultless : (q : Query) → QueryWritten p query q → query_of query ≡ q → QueryTold p query 0

-- What is said of a query on an accepted pack: its fault is told so, and no other number is; and every query that fits is read again as
-- it was written.
pub record QueriesTold (text query : Bytes) : Type 0 where
  pub told : (verdict_of text).returned.number ≡ 0 → QueryTold (pack_of text) query (query_fault (pack_of text) query)
  pub one : (verdict_of text).returned.number ≡ 0 → (n : ℕ) → QueryTold (pack_of text) query n → n ≡ query_fault (pack_of text) query
  pub again : (verdict_of text).returned.number ≡ 0 → (q : Query) → QueryFits (pack_of text) q → (query_fault (pack_of text) (written_query q) ≡ 0) × (query_of (written_query q) ≡ q)

-- ## What reserve returns

-- A refused pack's number; or, of an accepted pack, the number of a query's fault; or, of a query that has none, what the usable claims
-- give.
pub data ReserveOutcome (text query : Bytes) : Fields → Type 0 where
  pack_refused : {n : ℕ} → (verdict_of text).returned.number ≡ n → (n ≡ 0 → ⊥) → ReserveOutcome text query (fields (code "R") n 0)
  query_refused : {n : ℕ} → (verdict_of text).returned.number ≡ 0 → QueryTold (pack_of text) query n → (n ≡ 0 → ⊥) → ReserveOutcome text query (fields (code "R") n 0)
  bound : {q : Query} {b n : ℕ} → (verdict_of text).returned.number ≡ 0 → QueryWritten (pack_of text) query q → BoundGiven (pack_of text) q b n → ReserveOutcome text query (fields (code "B") b n)
  impossible : {q : Query} {n : ℕ} → (verdict_of text).returned.number ≡ 0 → QueryWritten (pack_of text) query q → ImpossibleBy (pack_of text) q n → ReserveOutcome text query (fields (code "I") 0 n)
  no_bound : {q : Query} → (verdict_of text).returned.number ≡ 0 → QueryWritten (pack_of text) query q → NoneUsable (pack_of text) q → ReserveOutcome text query (fields (code "N") 0 0)

-- For every text and query reserve returns one of its outcomes, and there is no other.
pub record ReserveTold (text query : Bytes) : Type 0 where
  pub outcome : ReserveOutcome text query (reserve_of text query)
  pub one : (x : Fields) → ReserveOutcome text query x → x ≡ reserve_of text query
