-- A token that is read as a symbol is not spelled as a variable.
use mathlib.Core.Path.{◌≡◌, refl}
use mathlib.Core.Bool.{false}
use Prim.Native.Nat.{ℕ}
use native.Mathlib.Omega.{arith}
use Rattle.groundwork.proofs.Truth.{by_truth}
use Rattle.theory.specs.Text.{Bytes, is_variable}
use Rattle.theory.specs.Terms.{variable_named, symbol_of, token_of}
use Rattle.theory.proofs.Reading.Tokens.{token_of_variable}

other_token : (w : Bytes) → (token_of w ≡ variable_named w → ⊥) → is_variable w ≡ false
other_token w other = by_truth (λ b. b ≡ false) (is_variable w) (λ h. absurd (other (token_of_variable w h))) (λ h. refl)

pub symbol_token_lem : (w f : Bytes) (k : ℕ) → token_of w ≡ symbol_of f k → is_variable w ≡ false
symbol_token_lem w f k e = other_token w (λ h. let z : ◌≡◌ {A = ℕ} 0 1 = cc in omega arith)
