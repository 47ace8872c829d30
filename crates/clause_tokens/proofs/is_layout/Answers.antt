-- `clause_tokens::is_layout` meets its contract. Assumes nothing.
use mathlib.Core.Path.{refl}
use Rattle.clause_theory.specs.ClauseTokens.{is_layout}
use Rattle.clause_tokens.proofs.is_layout.Goals as goal

pub returns : goal.returns
unfolding is_layout
returns c = refl
