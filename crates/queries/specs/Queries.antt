-- A query whose tests are done.
use Rattle.std.specs.Prelude.{◌≡◌, Bool, true, false, not, ◌||◌, List, [], ℕ, ◌<◌, length, get_or, Option, Some, None, Result, Ok, Err}
use Rattle.std.proofs.Math.Option
use Rattle.std.proofs.Math.Option.{some, none}
use Rattle.theory.specs.Lists.{every, is_some}
use Rattle.theory.specs.Text.{Bytes, bytes, same, natural, is_name}
use Rattle.theory.specs.Packs.{Pack, key_of}
use Rattle.theory.specs.Reserve.{query_key, query_of, size_from, query_fault}
use Rattle.theory.specs.Answers.{query_number}
use Rattle.theory.specs.declared.QueryRefusal.{QueryRefusal}
use Rattle.theory.specs.declared.QueryRefusal.TheVariants.{SizeField}
use Rattle.text.specs.Scans.{parts_from}
use Rattle.words.specs.Words.{words_of}
use Rattle.tables.specs.declared.Signature.{Signature}
use Rattle.tables.specs.Tables.{predicate_at, heading, heading_at, FoundAt, Declares}
use Rattle.queries.specs.declared.query.Asked.{Asked}

-- a size of the definitions, or none, as the code has it
abbrev pub entry_of : Option.Option ℕ → Option ℕ
entry_of none = None
entry_of (some s) = Some s

-- a size field that is read
abbrev pub size_read : Option.Option (Option.Option ℕ) → Result (Option ℕ) QueryRefusal
size_read none = Err SizeField
size_read (some size) = Ok (entry_of size)

-- the table stands for the sizes that a query gives
pub record SizesStand (sizes : List (Option ℕ)) (given : List (Option.Option ℕ)) : Type 0 where
  pub entry : (i : ℕ) → i < length given → get_or sizes i None ≡ entry_of (get_or given i none)

-- whether each field is a size field
abbrev pub are_sizes : List Bytes → Bool
are_sizes = every (λ (f : Bytes). is_some (size_from f))

-- the size fields from a place on, each of them fine, stand in the table
pub record FineSizes (query : Bytes) (from : ℕ) (sizes : List (Option ℕ)) : Type 0 where
  pub fine : are_sizes (parts_from 44 query from) ≡ true
  pub entry : (i : ℕ) → i < length (parts_from 44 query from) → Ok (get_or sizes i None) ≡ size_read (size_from (get_or (parts_from 44 query from) i []))

abbrev pub SizesRead : Bytes → ℕ → Result (List (Option ℕ)) QueryRefusal → Type 0
SizesRead query from (Ok sizes) = FineSizes query from sizes
SizesRead query from (Err f) = (f ≡ SizeField) × (are_sizes (parts_from 44 query from) ≡ false)

-- what test 16 finds: no number from 1 to the arity
abbrev pub is_unasked : ℕ → Bytes → Bool
is_unasked arity field = not (is_some (natural arity field)) || same field (bytes "0")

-- the place of the predicate that a field names with an arity; none where it is no name or there is no such predicate
pub record Found (field : Bytes) (arity : ℕ) (signatures : List Signature) (known place : ℕ) : Type 0 where
  pub is_named : is_name field ≡ true
  pub at : FoundAt (heading_at signatures) known (heading (words_of field) arity) (Some place)

pub record Absent (field : Bytes) (arity : ℕ) (signatures : List Signature) (known : ℕ) : Type 0 where
  pub nowhere : is_name field ≡ true → FoundAt (heading_at signatures) known (heading (words_of field) arity) None

abbrev pub Means : Bytes → ℕ → List Signature → ℕ → Option ℕ → Type 0
Means field arity signatures known (Some place) = Found field arity signatures known place
Means field arity signatures known None = Absent field arity signatures known

-- a query without fault: its predicate's place, and what it asks
pub record Passed (p : Pack) (query : Bytes) (r : Asked) : Type 0 where
  pub faultless : query_fault p query ≡ 0
  pub below : r.predicate < length p.predicates
  pub is : key_of (predicate_at p.predicates r.predicate) ≡ query_key (query_of query)
  pub arity : r.arity ≡ (predicate_at p.predicates r.predicate).arguments
  pub full : length (query_of query).sizes ≡ r.arity
  pub asked : r.asked ≡ (query_of query).asked
  pub stand : SizesStand r.sizes (query_of query).sizes

-- a query refused by the first test that finds a fault
pub record Refuses (query : Bytes) (signatures : List Signature) (known : ℕ) (f : QueryRefusal) : Type 0 where
  pub tells : (p : Pack) → Declares signatures known p.predicates → query_fault p query ≡ query_number f

-- or passed
pub record Passes (query : Bytes) (signatures : List Signature) (known : ℕ) (a : Asked) : Type 0 where
  pub tells : (p : Pack) → Declares signatures known p.predicates → Passed p query a

abbrev pub OpensQuery : Bytes → List Signature → ℕ → Result Asked QueryRefusal → Type 0
OpensQuery query signatures known (Err f) = Refuses query signatures known f
OpensQuery query signatures known (Ok a) = Passes query signatures known a
