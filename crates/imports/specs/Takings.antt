-- What comes of the first clause from a place on.
use Rattle.std.specs.Prelude.{◌≡◌, true, List, ℕ, ◌≤◌, ◌<◌, length, Result, Ok, Err}
use Rattle.theory.specs.Text.{Bytes}
use Rattle.theory.specs.Packs.{text_of}
use Rattle.clause_theory.specs.ClauseTokens.{Token}
use Rattle.clause_theory.specs.Clauses.{Clause, begin}
use Rattle.clause_theory.specs.Import.{filled, clause_lines, clause_fits}
use Rattle.clause_theory.specs.declared.ImportRefusal.{ImportRefusal}
use Rattle.clause_theory.specs.declared.ImportRefusal.TheVariants.{NoClauses, OverLimit}
use Rattle.pages.specs.Pages.{Puts}
use Rattle.clause_tokens.specs.NextTokens.{tokens_at}
use Rattle.clauses.specs.Endings.{Reaches, Fails}
use Rattle.imports.specs.declared.Taken.{Taken}

-- the lines of the clause as it is imported
abbrev pub text_for : Clause → Bytes
text_for c = text_of (clause_lines (filled c))

-- its lines stand on the page; or it passes a limit, or the page is too short; or the text is not in the subset
pub data ClauseTaken (text : Bytes) (at number : ℕ) (page₀ page : Bytes) : Result Taken ImportRefusal → Type 0 where
  is_taken : {t : Taken} (c : Clause) → Reaches begin (tokens_at text at) c (tokens_at text t.place) → at < t.place → t.place ≤ length text → clause_fits (filled c) ≡ true → t.bytes ≤ length page₀
      → Puts (text_for c) page₀ page t.bytes → ClauseTaken text at number page₀ page (Ok t)
  is_past_lem : (c : Clause) (rest : List Token) → Reaches begin (tokens_at text at) c rest → (clause_fits (filled c) ≡ true → length page₀ < length (text_for c))
      → ClauseTaken text at number page₀ page (Err (OverLimit number))
  is_unfit_lem : {place : ℕ} → Fails (length text) begin (tokens_at text at) place → ClauseTaken text at number page₀ page (Err (NoClauses place))
