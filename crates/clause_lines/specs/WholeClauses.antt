-- The lines of a whole clause.
use Rattle.std.specs.Prelude.{◌≡◌, true, List, ℕ, ◌+◌, ◌≤◌, ◌<◌, length, Some, None}
use Rattle.std.specs.Prelude as Rust
use Rattle.theory.specs.Text.{Bytes}
use Rattle.theory.specs.Packs.{text_of}
use Rattle.clause_theory.specs.Clauses.{Clause}
use Rattle.clause_theory.specs.Import.{clause_variables, filled, clause_lines, clause_fits}
use Rattle.pages.specs.Pages.{Puts}
use Rattle.clause_tokens.specs.declared.Mark.{Mark}
use Rattle.clause_tokens.specs.declared.Mark.TheVariants.{Lone}
use Rattle.clause_variables.specs.declared.Variables.{Variables}
use Rattle.clause_variables.specs.FreshNumbers.{NextFree}
use Rattle.clause_variables.specs.Variables.{ClauseAt, Gathered}

-- the number of the last fresh variable after one more token
pub record NumberAfter (mark : Mark) (v : Variables) (number r : ℕ) : Type 0 where
  pub lone : mark ≡ Lone → NextFree v.names v.named (number + 1) r
  pub other : (mark ≡ Lone → ⊥) → r ≡ number

-- the lines of a clause stand on the page, in so many bytes; or it passes a limit, or the page is too short for them
pub data ClausePut (c : Clause) (page₀ page : Bytes) : Rust.Option ℕ → Type 0 where
  clause_put : {many : ℕ} → clause_fits (filled c) ≡ true → many ≤ length page₀ → Puts (text_of (clause_lines (filled c))) page₀ page many → ClausePut c page₀ page (Some many)
  not_put : (clause_fits (filled c) ≡ true → length page₀ < length (text_of (clause_lines (filled c)))) → ClausePut c page₀ page None

-- some clause stands at a place, and its variables are gathered
pub record ClauseReady (text : Bytes) (from : ℕ) (v : Variables) : Type 0 where
  pub clause : Clause
  pub stands : ClauseAt text from clause
  pub gathered : Gathered v (clause_variables clause)

pub record LinesPut (text : Bytes) (from : ℕ) (v : Variables) (page₀ : Bytes) (r : Rust.Option ℕ) (page : Bytes) : Type 0 where
  pub size : length page ≡ length page₀
  pub put : (ready : ClauseReady text from v) → ClausePut ready.clause page₀ page r
