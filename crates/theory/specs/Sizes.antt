-- Document 01, "Terms and their size", and document 02, 4/14: what 000, section 1.4 calls structural term size, in that
-- section's order. First the sum of the arities of a term's symbols, then the occurrences of its variables. And both parts
-- by any measure, of which the structural one is the section's (proved: Promises, `SectionForm`).
use Rattle.std.specs.Prelude.{Bool, true, cond, ℕ, suc, ◌+◌, replicate}
use mathlib.Core.List.{List, [], ◌∷◌, ◌++◌, flatten}
use Rattle.theory.specs.Lists.{total}
use Rattle.theory.specs.Text.{Bytes, same}
use Rattle.theory.specs.Terms.{Term, Terms, variable, symbol, nil, cons, arity, variables}

-- ## First: the sum of the arities

-- The arities of a term's symbols, from left to right.
unfoldable mutual
  pub arities_of : Term → List ℕ
  arities_of (variable x) = []
  arities_of (symbol f ts) = arity ts ∷ all_arities ts

  pub all_arities : Terms → List ℕ
  all_arities nil = []
  all_arities (cons t ts) = arities_of t ++ all_arities ts

-- Of a ground term this sum is the size; of any term it is the constant of the size.
unfoldable pub sum_of_arities : Term → ℕ
sum_of_arities t = total (arities_of t)

-- ## Then: the occurrences of the variables

-- how often a variable stands in a list of them
unfoldable pub occurrences : Bytes → List Bytes → ℕ
occurrences x [] = 0
occurrences x (y ∷ ys) = cond (same x y) (suc (occurrences x ys)) (occurrences x ys)

-- The number of occurrences of a variable in a term is the variable's coefficient in the size.
unfoldable pub occurrences_in : Term → Bytes → ℕ
occurrences_in t x = occurrences x (variables t)

-- ## Both parts by a measure

-- what a symbol counts in a size: a number of its own, and which of its arguments
pub record Share : Type 0 where
  pub constant : ℕ
  pub flags : List Bool

-- A measure gives the share of each symbol, by its name and arity.
abbrev pub Measure : Type 0
Measure = Bytes → ℕ → Share

-- The structural measure, by which document 01 takes all sizes: a symbol counts its arity and every argument.
unfoldable pub structural : Measure
structural name k = record { constant = k; flags = replicate k true }

-- those of some values that are flagged
unfoldable pub flagged : {A : Type 0} → List Bool → List A → List A
flagged [] values = []
flagged (flag ∷ flags) [] = []
flagged (flag ∷ flags) (v ∷ values) = cond flag (v ∷ flagged flags values) (flagged flags values)

-- The first part: what the symbols of a term count.
unfoldable mutual
  pub constant_of : Measure → Term → ℕ
  constant_of m (variable x) = 0
  constant_of m (symbol f ts) = (m f (arity ts)).constant + total (flagged (m f (arity ts)).flags (constants_of m ts))

  pub constants_of : Measure → Terms → List ℕ
  constants_of m nil = []
  constants_of m (cons t ts) = constant_of m t ∷ constants_of m ts

-- The variables that count in a term's size as they occur, from left to right.
unfoldable mutual
  pub counted : Measure → Term → List Bytes
  counted m (variable x) = x ∷ []
  counted m (symbol f ts) = flatten (flagged (m f (arity ts)).flags (arguments_counted m ts))

  pub arguments_counted : Measure → Terms → List (List Bytes)
  arguments_counted m nil = []
  arguments_counted m (cons t ts) = counted m t ∷ arguments_counted m ts

-- The second part: how often a variable counts.
abbrev pub coefficient_of : Measure → Term → Bytes → ℕ
coefficient_of m t x = occurrences x (counted m t)

-- ## At sizes of the variables

-- A term's size where each variable has some size: what its symbols count, with the sizes of the arguments that they count.
unfoldable mutual
  pub size_where : Measure → (Bytes → ℕ) → Term → ℕ
  size_where m sizes (variable x) = sizes x
  size_where m sizes (symbol f ts) = (m f (arity ts)).constant + total (flagged (m f (arity ts)).flags (sizes_where m sizes ts))

  pub sizes_where : Measure → (Bytes → ℕ) → Terms → List ℕ
  sizes_where m sizes nil = []
  sizes_where m sizes (cons t ts) = size_where m sizes t ∷ sizes_where m sizes ts

-- A ground term has no variables, so its size is the first part. And the sizes of arguments: si is the size of argument i.
abbrev pub size : Measure → Term → ℕ
size m t = constant_of m t

abbrev pub argument_sizes : Measure → Terms → List ℕ
argument_sizes m ts = constants_of m ts
