-- The ends of lines.
use Rattle.std.specs.Prelude.{[], ℕ}
use Rattle.std.specs.Prelude as Rust
use Rattle.theory.specs.Text.{Bytes}
use Rattle.clause_tokens.specs.declared.Mark.{Mark}
use Rattle.clause_tokens.specs.declared.Mark.TheVariants.{Comma, Neck, Stop}
use Rattle.term_lines.specs.declared.Pen.{Pen}
use Rattle.term_lines.specs.Drawings.{Drawable, Draws}

-- the tokens that end a head or a subgoal
pub data EndsLine : Mark → Type 0 where
  comma_ends : EndsLine Comma
  neck_ends : EndsLine Neck
  stop_ends : EndsLine Stop

-- some token comes that ends a head or a subgoal
pub record EndComes (pen : Pen) (page : Bytes) : Type 0 where
  pub mark : Mark
  pub ends : EndsLine mark
  pub drawable : Drawable [] mark 0 pen page

-- what it leaves, whichever of them it is
pub record LineEnded (pen : Pen) (page : Bytes) (r : Rust.Option (Unit {0})) (next : Pen) (after : Bytes) : Type 0 where
  pub by : (mark : Mark) → EndsLine mark → Draws [] mark 0 pen page r next after
