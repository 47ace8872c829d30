-- What `take_clause` cites of the readers and the writer of a clause.
use mathlib.Core.Path.{◌≡◌, refl, sym, ◌∙◌, subst}
use Prim.Native.Nat.{ℕ, ◌≤◌, ◌<◌}
use lib.ListN.{length}
use Rattle.std.specs.Prelude.{Option, Some, None, Result, Ok, Err}
use Rattle.std.specs.Option.{ok_or}
use Rattle.std.specs.Result.{MatchResult, IsErrAnd}
use Rattle.groundwork.proofs.Truth.{never_both}
use Rattle.theory.specs.Text.{Bytes}
use Rattle.clause_theory.specs.Clauses.{Clause, begin}
use Rattle.clause_theory.specs.Import.{clause_variables}
use Rattle.clause_theory.specs.declared.ImportRefusal.TheVariants.{NoClauses, OverLimit}
use Rattle.clause_tokens.specs.NextTokens.{tokens_at}
use Rattle.clauses.specs.Endings.{Reaches, EndFound, found_clause, found_none}
use Rattle.clause_variables.specs.declared.Variables.{Variables}
use Rattle.clause_variables.specs.Variables.{Gathered, Known, all_known, over, VariablesFound}
use Rattle.clause_variables.proofs.Gathering.{too_many_unfit}
use Rattle.clause_lines.specs.WholeClauses.{ClausePut, clause_put, not_put, ClauseReady, LinesPut}
use Rattle.imports.specs.Takings.{ClauseTaken, is_taken, is_past_lem, is_unfit_lem}
use Rattle.imports.proofs.ClauseByClause.{clause_at}

-- what `ok_or` refuses and passes on
pub refused_or : {A E : Type 0} (o : Option A) {e f : E} {r : Result A E} → r ≡ ok_or o e → r ≡ Err f → (o ≡ None) × (f ≡ e)
refused_or None told is = (refl, let h = sym told ∙ is in cc)
refused_or (Some a) told is = let h = sym told ∙ is in cc

pub passed_or : {A E : Type 0} (o : Option A) (e : E) {a : A} {r : Result A E} → r ≡ ok_or o e → r ≡ Ok a → o ≡ Some a
passed_or None e told is = let h = sym told ∙ is in cc
passed_or (Some b) e told is = let h = sym told ∙ is in cc

-- what `map_err` passes on, and of what it makes a refusal
pub passed_mapped : {A E F : Type 0} (make : E → F) (q : Result A E) {r : Result A F} {a : A} → MatchResult q (λ b. r ≡ Ok b) (λ e. IsErrAnd r (λ f. f ≡ make e)) → r ≡ Ok a → q ≡ Ok a
passed_mapped make (Ok b) told is = let h = sym told ∙ is in cc
passed_mapped make (Err e) told is = elim (subst (λ s. IsErrAnd s (λ f. f ≡ make e)) is told) [ ]

pub refused_mapped : {A E F : Type 0} (make : E → F) (q : Result A E) {r : Result A F} {f : F} → MatchResult q (λ b. r ≡ Ok b) (λ e. IsErrAnd r (λ g. g ≡ make e)) → r ≡ Err f → (e : E) × (q ≡ Err e) × (f ≡ make e)
refused_mapped make (Ok b) told is = let h = sym told ∙ is in cc
refused_mapped make (Err e) told is = (e, refl, subst (λ s. IsErrAnd s (λ g. g ≡ make e)) is told)

-- the clause that was read
record Read (text : Bytes) (at place : ℕ) : Type 0 where
  clause : Clause
  low : at < place
  high : place ≤ length text
  reaches : Reaches begin (tokens_at text at) clause (tokens_at text place)

module _ {text : Bytes} {at : ℕ} where
  unfit : {number : ℕ} {page : Bytes} {place : ℕ} → EndFound text at (Err place) → ClauseTaken text at number page page (Err (NoClauses place))
  unfit (found_none fails) = is_unfit_lem fails

  read_of : {place : ℕ} → EndFound text at (Ok place) → Read text at place
  read_of (found_clause c low high reaches) = record { clause = c; low = low; high = high; reaches = reaches }

  module _ {q : Result ℕ ℕ} (found : EndFound text at q) where
    pub taken_unfit : {number : ℕ} {page : Bytes} {place : ℕ} → q ≡ Err place → ClauseTaken text at number page page (Err (NoClauses place))
    taken_unfit is = unfit (subst (EndFound text at) is found)

    module _ {place : ℕ} (ended : q ≡ Ok place) where
      was_read : Read text at place
      was_read = read_of (subst (EndFound text at) ended found)

      module _ {r : Option (Unit {0})} {v : Variables} (gathers : VariablesFound text at r v) where
        variables_known : {s : Option (Unit {0})} → r ≡ s → Known v (clause_variables was_read.clause) s
        variables_known is = subst (Known v (clause_variables was_read.clause)) is (gathers.found was_read.clause (clause_at was_read.reaches))

        pub taken_many : {number : ℕ} {page : Bytes} → r ≡ None → ClauseTaken text at number page page (Err (OverLimit number))
        taken_many {number} {page} is = by (variables_known is)
          where
            by : Known v (clause_variables was_read.clause) None → ClauseTaken text at number page page (Err (OverLimit number))
            by (over past) = is_past_lem was_read.clause (tokens_at text place) was_read.reaches (λ fits. never_both fits (too_many_unfit was_read.clause past))

        module _ (few : r ≡ Some tt) where
          gathered_of : Known v (clause_variables was_read.clause) (Some tt) → Gathered v (clause_variables was_read.clause)
          gathered_of (all_known gathered) = gathered

          pub taken_ready : ClauseReady text at v
          taken_ready = record { clause = was_read.clause; stands = clause_at was_read.reaches; gathered = gathered_of (variables_known few) }

          module _ {page₀ page : Bytes} {b : Option ℕ} (put : LinesPut text at v page₀ b page) where
            lines_put : {s : Option ℕ} → b ≡ s → ClausePut was_read.clause page₀ page s
            unfolding taken_ready
            lines_put is = subst (ClausePut was_read.clause page₀ page) is (put.put taken_ready)

            pub taken_over : {number : ℕ} → b ≡ None → ClauseTaken text at number page₀ page (Err (OverLimit number))
            taken_over {number} is = by (lines_put is)
              where
                by : ClausePut was_read.clause page₀ page None → ClauseTaken text at number page₀ page (Err (OverLimit number))
                by (not_put lacks) = is_past_lem was_read.clause (tokens_at text place) was_read.reaches lacks

            pub taken_lines : {number bytes : ℕ} → b ≡ Some bytes → ClauseTaken text at number page₀ page (Ok (record { place = place; bytes = bytes }))
            taken_lines {number} {bytes} is = by (lines_put is)
              where
                by : ClausePut was_read.clause page₀ page (Some bytes) → ClauseTaken text at number page₀ page (Ok (record { place = place; bytes = bytes }))
                by (clause_put fits room puts) = is_taken was_read.clause was_read.reaches was_read.low was_read.high fits room puts
