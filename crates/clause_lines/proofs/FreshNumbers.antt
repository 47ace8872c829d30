-- The number of the last fresh variable after a token.
use mathlib.Core.Path.{◌≡◌, refl}
use Prim.Native.Nat.{ℕ, ◌+◌}
use Rattle.clause_tokens.specs.declared.Mark.{Mark}
use Rattle.clause_tokens.specs.declared.Mark.TheVariants.{Lone}
use Rattle.clause_variables.specs.declared.Variables.{Variables}
use Rattle.clause_variables.specs.FreshNumbers.{NextFree}
use Rattle.clause_lines.specs.WholeClauses.{NumberAfter}

pub number_lone : {mark : Mark} {v : Variables} {number r : ℕ} → mark ≡ Lone → NextFree v.names v.named (number + 1) r → NumberAfter mark v number r
number_lone is free = record { lone = λ _. free; other = λ no. absurd (no is) }

pub number_same : {mark : Mark} {v : Variables} {number : ℕ} → (mark ≡ Lone → ⊥) → NumberAfter mark v number number
number_same other = record { lone = λ is. absurd (other is); other = λ _. refl }
