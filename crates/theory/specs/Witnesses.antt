-- The promises are not about nothing: from the bytes of a few packs, what their premises ask for. Demand 3's bounds are reached, by facts
-- that rules derive, that are given, and that come with the pack; where it says "impossible", a query one size apart has a fact. Nor are
-- they about too little: derivations of every depth are there, with ground terms of every kind, and with as many subgoals and arguments
-- as a pack may have. Proved in proofs/Derived.antt.
use Rattle.std.specs.Prelude.{◌≡◌, List, [], ◌∷◌, ◌++◌, ℕ, suc, ◌+◌}
use Prim.Native.Nat as N
use Prim.Native.Char.{code}
use Prim.Native.String.{String}
use Rattle.theory.specs.Text.{Bytes, bytes, lines_of}
use Rattle.theory.specs.Terms.{Term, Terms, symbol, nil, cons, variables, all_variables}
use Rattle.theory.specs.Sizes.{structural, size}
use Rattle.theory.specs.Packs.{Atom, measure_in}
use Rattle.theory.specs.declared.Letter.TheVariants.{M}
use Rattle.theory.specs.Written.{line_letter, nothing, write_all, pack_of}
use Rattle.theory.specs.Faults.{whole, fault}
use Rattle.theory.specs.Reserve.{query_of, size_at, HasKnownSizes, fields, reserve_of}
use Rattle.theory.specs.Derivations.{GivenFact, ShippedFact, Derivable}
use Rattle.theory.specs.Outcomes.{AllFine}

-- ## Packs and facts

-- lists joined (01)
abbrev pub joining : String
joining = "P,join,3,R\nC,join,0,1,1,-1\nC,join,0,-1,-1,1\nH,join,nil/0,Y,Y\nM\nM\nH,join,cons/2 X Xs,Y,cons/2 X Zs\nB,join,Xs,Y,Zs\nM,1,0\nM,0,1\nE\n"

-- a given predicate (01)
abbrev pub giving : String
giving = "P,k,1,G\nC,k,7,-2\nE\n"

-- a fact that comes with the pack (02, 1/14)
abbrev pub shipping : String
shipping = "P,next,2,G\nP,trail,2,R\nC,next,-1,1,-1\nC,trail,-1,1,-1\nG,next,s/1 s/1 o/0,s/1 o/0\nH,trail,X,Y\nB,next,X,Y\nM,1\nE\n"

-- a given predicate without a claim
abbrev pub granting : String
granting = "P,k,1,G\nE\n"

-- a rule with the most subgoals that a pack may have, and the most arguments: eight steps up from 0, each of at most 1
abbrev pub climbing : String
climbing = "P,step,2,G\nP,climb,8,R\nC,step,1,1,-1\nC,climb,8,0,0,0,0,0,0,0,-1\nH,climb,A,B,C,D,E,F,G,H\nB,step,o/0,A\nB,step,A,B\nB,step,B,C\nB,step,C,D\nB,step,D,E\nB,step,E,F\nB,step,F,G\nB,step,G,H\nM,1,1,1,1,1,1,1,1\nE\n"

-- the empty list; terms in front of a list, as its first elements
abbrev pub empty : Term
empty = symbol (bytes "nil") nil

unfoldable pub in_front : Terms → Term → Term
in_front nil l = l
in_front (cons t ts) l = symbol (bytes "cons") (cons t (cons (in_front ts l) nil))

-- n empty lists; the list of them; one symbol with them as its arguments
unfoldable pub empties : ℕ → Terms
empties N.zero = nil
empties (suc n) = cons empty (empties n)

abbrev pub list : ℕ → Term
list n = in_front (empties n) empty

abbrev pub wide : ℕ → Term
wide n = symbol (bytes "f") (empties n)

-- 0, and one more; n
abbrev pub zero : Term
zero = symbol (bytes "o") nil

abbrev pub next : Term → Term
next t = symbol (bytes "s") (cons t nil)

unfoldable pub numeral : ℕ → Term
numeral N.zero = zero
numeral (suc n) = next (numeral n)

abbrev pub joins : Term → Term → Term → Atom
joins a b c = record { name = bytes "join"; terms = cons a (cons b (cons c nil)) }

abbrev pub is_k : Term → Atom
is_k a = record { name = bytes "k"; terms = cons a nil }

abbrev pub nexts : Term → Term → Atom
nexts a b = record { name = bytes "next"; terms = cons a (cons b nil) }

abbrev pub trails : Term → Term → Atom
trails a b = record { name = bytes "trail"; terms = cons a (cons b nil) }

-- all eight steps
abbrev pub climbed : Atom
climbed = record { name = bytes "climb"; terms = cons (numeral 1) (cons (numeral 2) (cons (numeral 3) (cons (numeral 4) (cons (numeral 5) (cons (numeral 6) (cons (numeral 7) (cons (numeral 8) nil))))))) }

-- ## What is shown of them

-- It has a derivation from all that may be given (01).
abbrev pub Derived : String → Atom → Type 0
Derived text f = Derivable (pack_of (bytes text)) (GivenFact (pack_of (bytes text))) f

-- The bound that reserve gives is the asked size of a fact that has a derivation and the query's known sizes.
pub record Reached (text : Bytes) (Given : Atom → Type 0) (query : Bytes) (bound claim : ℕ) (f : Atom) : Type 0 where
  pub answer : reserve_of text query ≡ fields (code "B") bound claim
  pub derived : Derivable (pack_of text) Given f
  pub known : HasKnownSizes (measure_in (pack_of text)) (query_of query) f
  pub reached : size_at (measure_in (pack_of text)) (query_of query).asked f ≡ bound

-- A line of multipliers is judged, after lines without a fault, and has this number: the premises of `FormsFit` (Ranges).
pub record LineJudged (text : Bytes) (number : ℕ) : Type 0 where
  pub before : List Bytes
  pub multipliers : Bytes
  pub after : List Bytes
  pub are : lines_of text ≡ before ++ multipliers ∷ after
  pub fine : AllFine whole nothing before
  pub letter : line_letter multipliers ≡ M
  pub has : fault whole (write_all nothing before) multipliers ≡ number

pub record Witnessed : Type 0 where
  -- by two rules, one after the other
  pub ruled : Reached (bytes joining) (GivenFact (pack_of (bytes joining))) (bytes "join,3,2,0,-") 2 1 (joins (list 1) empty (list 1))
  -- impossible, and one size apart not
  pub impossible : reserve_of (bytes joining) (bytes "join,1,-,1,0") ≡ fields (code "I") 0 2
  pub one_apart : Reached (bytes joining) (GivenFact (pack_of (bytes joining))) (bytes "join,1,-,0,0") 0 2 (joins empty empty empty)
  -- whatever ground terms are put for the variables, to any depth: a list of them is joined with any other term
  pub joined : (ts : Terms) (l : Term) → all_variables ts ≡ [] → variables l ≡ [] → Derived joining (joins (in_front ts empty) l (in_front ts l))
  -- among these of every length, and so of every even size
  pub lists : (n : ℕ) → Derived joining (joins (list n) empty (list n))
  pub list_sizes : (n : ℕ) → size structural (list n) ≡ n + n
  -- by a rule with eight subgoals, each with terms of its own, of a query that gives seven sizes
  pub climbs : Reached (bytes climbing) (GivenFact (pack_of (bytes climbing))) (bytes "climb,8,1,2,3,4,5,6,7,-") 8 1 climbed
  -- any ground term may come from outside; also one that no pack can write, with a symbol of ten arguments
  pub granted : (t : Term) → variables t ≡ [] → Derived granting (is_k t)
  pub unwritten : Derived granting (is_k (wide 10))
  pub given : Reached (bytes giving) (GivenFact (pack_of (bytes giving))) (bytes "k,1,-") 3 1 (is_k (wide 3))
  pub shipped : Reached (bytes shipping) (ShippedFact (pack_of (bytes shipping))) (bytes "trail,2,2,-") 1 1 (trails (next (next zero)) (next zero))
  -- a fact of the same predicate as the shipped one, which 01 would take as given, has no derivation from those that are shipped
  pub absent : GivenFact (pack_of (bytes shipping)) (nexts (next zero) zero)
  pub underivable : Derivable (pack_of (bytes shipping)) (ShippedFact (pack_of (bytes shipping))) (nexts (next zero) zero) → ⊥
  pub fine_line : LineJudged (bytes "P,k,1,R\nC,k,0,1\nH,k,nil/0\nM\nE\n") 0
  pub unjustified_line : LineJudged (bytes "P,k,1,R\nC,k,-1,1\nH,k,nil/0\nM\nE\n") 13
