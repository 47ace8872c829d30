-- An accepted text, how many rules it has, and a page with room for their lines.
use Rattle.std.specs.Prelude.{◌≡◌, ℕ, ◌*◌, ◌≤◌, length}
use Rattle.theory.specs.Text.{Bytes}
use Rattle.theory.specs.Written.{pack_of}
use Rattle.theory.specs.Check.{verdict_of}

pub record Ready (text : Bytes) (rules : ℕ) (page : Bytes) : Type 0 where
  pub accepted : (verdict_of text).returned.number ≡ 0
  pub counted : rules ≡ length (pack_of text).rules
  pub room : 65 * rules ≤ length page
