-- Document 01, "Reserving", with 02's 5/14: queries, what they ask of a fact, usable claims, and what reserve returns.
use Rattle.std.specs.Prelude.{◌≡◌, Bool, true, cond, not, ◌&&◌, ◌||◌, List, [], ◌∷◌, map, ℕ, ◌+◌, ◌-◌, ◌/◌, eqb, ltb, ℤ, pos, nat_abs, ◌+ℤ◌, ◌*ℤ◌, length, get_or, drop}
use Rattle.std.proofs.Math.Option
use Rattle.std.proofs.Math.Option.{Option, some, none}
use Prim.Native.Char.{code}
use Rattle.std.specs.Int.Signed.{lt_z, le_z}
use Rattle.theory.specs.Lists.{every, is_some}
use Rattle.theory.specs.Text.{Bytes, bytes, same, is_name, natural, fields_of}
use Rattle.theory.specs.Sizes.{Measure, argument_sizes}
use Rattle.theory.specs.Packs.{Predicate, Claim, Atom, Pack, Key, key, atom_key, claims_on}
use Rattle.theory.specs.Written.{field, pack_of}
use Rattle.theory.specs.Faults.{test, first_given, is_unfit, less, key_with, declared_for}
use Rattle.theory.specs.Check.{verdict_of}

-- ## Queries

-- asked: the place of the asked argument, from 0. sizes: one for each argument, none where unknown.
pub record Query : Type 0 where
  pub name : Bytes
  pub asked : ℕ
  pub sizes : List (Option ℕ)

abbrev pub query_key : Query → Key
query_key q = key q.name (length q.sizes)

-- a size field: `-` where unknown, or a size 0 to 65535; or it is malformed or out of range
unfoldable pub size_from : Bytes → Option (Option ℕ)
size_from f = cond (same f (bytes "-")) (some none) (Option.map some (natural 65535 f))

unfoldable pub query_from : List Bytes → Query
query_from fields = record {
  name = field 0 fields;
  asked = Option.get_or (natural 8 (field 1 fields)) 0 - 1;
  sizes = map (λ (f : Bytes). Option.get_or (size_from f) none) (drop 2 fields);
}

unfoldable pub query_of : Bytes → Query
query_of query = query_from (fields_of query)

-- the size that the query gives for the argument at a place, from 0
abbrev pub size_given : ℕ → Query → Option ℕ
size_given i q = get_or q.sizes i none

-- The declared predicate that a query names: its first field with the arity that its number of fields gives.
abbrev pub meant_by_query : List Bytes → Pack → Option Predicate
meant_by_query fields p = declared_for (key_with (field 0 fields) (less (length fields) 2)) p.predicates

-- The number of the fault of a query on a pack, or 0.
unfoldable pub query_fault : Pack → Bytes → ℕ
query_fault p query =
    let fields = fields_of query in
    let q = query_from fields in
    first_given
    (test 4 (is_unfit query)
    ∷ test 14 (not (is_name (field 0 fields) && is_some (meant_by_query fields p)))
    ∷ test 16 (not (is_some (natural (length q.sizes) (field 1 fields))) || same (field 1 fields) (bytes "0"))
    ∷ test 17 (not (every (λ (f : Bytes). is_some (size_from f)) (drop 2 fields)))
    ∷ test 18 (is_some (size_given q.asked q))
    ∷ [])

-- ## What a query asks of a fact

-- the size of the argument at a place, from 0
abbrev pub size_at : Measure → ℕ → Atom → ℕ
size_at m i f = get_or (argument_sizes m f.terms) i 0

-- A fact has the query's known sizes: it is of that predicate, and where the query gives a size its argument has it.
pub record HasKnownSizes (m : Measure) (q : Query) (f : Atom) : Type 0 where
  pub of_predicate : atom_key f ≡ query_key q
  pub known : (i s : ℕ) → size_given i q ≡ some s → size_at m i f ≡ s

-- ## Usable claims

-- every unknown argument's number is at most 0
unfoldable pub unknowns_at_most_zero : List ℤ → List (Option ℕ) → Bool
unknowns_at_most_zero [] sizes = true
unknowns_at_most_zero (c ∷ cs) [] = true
unknowns_at_most_zero (c ∷ cs) (none ∷ sizes) = le_z c (pos 0) && unknowns_at_most_zero cs sizes
unknowns_at_most_zero (c ∷ cs) (some s ∷ sizes) = unknowns_at_most_zero cs sizes

-- each known size times the claim's number for it, added up
unfoldable pub known_part : List ℤ → List (Option ℕ) → ℤ
known_part [] sizes = pos 0
known_part (c ∷ cs) [] = pos 0
known_part (c ∷ cs) (none ∷ sizes) = known_part cs sizes
known_part (c ∷ cs) (some s ∷ sizes) = c *ℤ pos s +ℤ known_part cs sizes

-- the claim's number for the asked argument
abbrev pub asked_number : Query → Claim → ℤ
asked_number q c = get_or c.coefficients q.asked (pos 0)

-- A claim that bounds the asked size: its number there is below 0, and that of each unknown argument at most 0.
unfoldable pub is_usable : Query → Claim → Bool
is_usable q c = lt_z (asked_number q c) (pos 0) && unknowns_at_most_zero c.coefficients q.sizes

-- The numerator: what the claim leaves for the asked argument where the others count for their known sizes, or nothing.
unfoldable pub numerator : Query → Claim → ℤ
numerator q c = c.constant +ℤ known_part c.coefficients q.sizes

-- The bound by a usable claim: the numerator over the asked number's magnitude, rounded down. (Asked where the numerator is at least 0.)
unfoldable pub bound_by : Query → Claim → ℕ
bound_by q c = nat_abs (numerator q c) / nat_abs (asked_number q c)

-- ## What reserve returns

-- reserve's three fields, which the program prints: a letter's byte, a bound or a refusal's number, a claim
pub record Fields : Type 0 where
  pub letter : ℕ
  pub middle : ℕ
  pub claim : ℕ

abbrev pub fields : ℕ → ℕ → ℕ → Fields
fields l m c = record { letter = l; middle = m; claim = c }

-- a usable claim with its number among the claims on its predicate
pub record Usable : Type 0 where
  pub number : ℕ
  pub claim : Claim

-- of claims numbered from k
unfoldable pub usable_from : ℕ → Query → List Claim → List Usable
usable_from k q [] = []
usable_from k q (c ∷ cs) = cond (is_usable q c) (record { number = k; claim = c } ∷ usable_from (k + 1) q cs) (usable_from (k + 1) q cs)

-- those whose numerator is below 0: no fact can meet them
unfoldable pub impossibles : Query → List Usable → List Usable
impossibles q [] = []
impossibles q (u ∷ us) = cond (lt_z (numerator q u.claim) (pos 0)) (u ∷ impossibles q us) (impossibles q us)

-- the one with the smallest bound, the lowest of those
unfoldable pub smallest : Query → Usable → List Usable → Usable
smallest q best [] = best
smallest q best (u ∷ us) = smallest q (cond (ltb (bound_by q u.claim) (bound_by q best.claim)) u best) us

unfoldable pub bounded : Query → List Usable → Fields
bounded q [] = fields (code "N") 0 0
bounded q (u ∷ us) = fields (code "B") (bound_by q (smallest q u us).claim) (smallest q u us).number

unfoldable pub impossible_or : Fields → List Usable → Fields
impossible_or otherwise [] = otherwise
impossible_or otherwise (u ∷ us) = fields (code "I") 0 u.number

-- A usable claim that nothing can meet comes first, the lowest of them; then the smallest bound and the lowest claim for it; else there is none.
unfoldable pub reservation : Pack → Query → Fields
reservation p q =
    let usable = usable_from 1 q (claims_on (query_key q) p.claims) in
    impossible_or (bounded q usable) (impossibles q usable)

unfoldable pub refusal : ℕ → Fields
refusal n = fields (code "R") n 0

-- What reserve answers to a query on an accepted pack.
unfoldable pub answer_of : Pack → Bytes → Fields
answer_of p query = cond (eqb (query_fault p query) 0) (reservation p (query_of query)) (refusal (query_fault p query))

-- What reserve returns. The pack is checked first.
unfoldable pub reserve_of : Bytes → Bytes → Fields
reserve_of text query = cond (eqb (verdict_of text).returned.number 0) (answer_of (pack_of text) query) (refusal (verdict_of text).returned.number)
