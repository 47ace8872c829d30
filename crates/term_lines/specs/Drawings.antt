-- How far the lines of a clause are written on a page.
use Rattle.std.specs.Prelude.{◌≡◌, Bool, true, false, List, [], ◌∷◌, ℕ, suc, ◌+◌, ◌-◌, ◌≤◌, ◌<◌, leb, length, get_or, Some, None}
use Rattle.std.specs.Prelude as Rust
use Rattle.std.proofs.Math.Option.{Option}
use Prim.Native.Char.{code}
use Rattle.theory.specs.Text.{Bytes, is_name, is_variable}
use Rattle.theory.specs.Terms.{arity}
use Rattle.clause_theory.specs.Clauses.{Clause, Open, State, state, due}
use Rattle.clause_theory.specs.ClauseTokens as T
use Rattle.clause_theory.specs.Import.{numbered_variable}
use Rattle.pages.specs.Pages.{Puts, PutAt}
use Rattle.clause_tokens.specs.NextTokens.{Sign}
use Rattle.clause_tokens.specs.declared.Mark.{Mark}
use Rattle.clause_tokens.specs.declared.Mark.TheVariants.{Name, Variable, Lone}
use Rattle.term_lines.specs.declared.Pen.{Pen}
use Rattle.term_lines.specs.Texts.{line_front, done_text, drawn_text, Moves, atoms_of, StateFits}

-- each symbol that is open has the place of its digit in the table
abbrev pub DigitsStand : Option Clause → List Open → List ℕ → Type 0
DigitsStand before [] digits = Unit {0}
DigitsStand before (o ∷ []) digits = Unit {0}
DigitsStand before (o ∷ p ∷ opened) digits = (get_or digits (length (p ∷ opened)) 0 ≡ length (drawn_text (state before (p ∷ opened) due)) + length o.name + 1) × DigitsStand before (p ∷ opened) digits

-- how many arguments of the atom have begun
abbrev pub ArgumentsBegun : List Open → ℕ → Type 0
ArgumentsBegun [] n = Unit {0}
ArgumentsBegun (o ∷ []) n = n ≡ suc (arity o.before)
ArgumentsBegun (o ∷ p ∷ opened) n = ArgumentsBegun (p ∷ opened) n

-- nothing is written
pub record Begun (pen : Pen) : Type 0 where
  pub to : pen.to ≡ 0
  pub line : pen.line ≡ 0
  pub depth : pen.compounds.depth ≡ 0
  pub atoms : pen.atoms ≡ 0
  pub arguments : pen.arguments ≡ 0

-- what is written on the page of a clause that has been read up to a state, and nothing passes a limit
pub record Drawing (s : State) (pen : Pen) (page₀ page : Bytes) : Type 0 where
  pub puts : Puts (drawn_text s) page₀ page pen.to
  pub room : pen.to ≤ length page₀
  pub line : pen.line ≡ length (done_text s.before)
  pub depth : pen.compounds.depth ≡ length s.opened
  pub atoms : pen.atoms ≡ length (atoms_of s.before)
  pub arguments : ArgumentsBegun s.opened pen.arguments
  pub stand : DigitsStand s.before s.opened pen.compounds.digits
  pub fits : StateFits s

-- after one more token; or a limit is passed, or the page is too short
pub data DrawnNext (next : State) (pen : Pen) (page₀ page : Bytes) : Rust.Option (Unit {0}) → Type 0 where
  drawn_on : Drawing next pen page₀ page → DrawnNext next pen page₀ page (Some tt)
  passes : (StateFits next → length page₀ < length (drawn_text next)) → DrawnNext next pen page₀ page None

-- ## One token more

-- the token of the filled clause: a lone `_` is the fresh variable with this number
pub data Shows (x : Bytes) (number : ℕ) : Mark → T.Mark → Type 0 where
  shows_name : is_name x ≡ leb (length x) 16 → Shows x number Name (T.name x)
  shows_variable : is_variable x ≡ leb (length x) 16 → Shows x number Variable (T.variable x)
  shows_lone : number < 100 → Shows x number Lone (T.variable (numbered_variable number))
  shows_sign : {k : Mark} {m : T.Mark} → Sign k m → Shows x number k m

-- The lines are written up to some state, and the token leads to another. The token has these bytes, and of a lone `_` this number:
-- of signs the bytes do not matter, and of other tokens than `_` not the number.
pub record Drawable (x : Bytes) (mark : Mark) (number : ℕ) (pen : Pen) (page : Bytes) : Type 0 where
  pub page₀ : Bytes
  pub state : State
  pub next : State
  pub token : T.Mark
  pub drawing : Drawing state pen page₀ page
  pub shows : Shows x number mark token
  pub moves : Moves state token next

-- what the token leaves of the pen and the page
pub record Draws (x : Bytes) (mark : Mark) (number : ℕ) (pen : Pen) (page : Bytes) (r : Rust.Option (Unit {0})) (next : Pen) (after : Bytes) : Type 0 where
  pub size : length after ≡ length page
  pub drawn : (w : Drawable x mark number pen page) → DrawnNext w.next next w.page₀ after r

-- so many bytes more have room, or where they have it on the page, not in the line
pub record RoomTold (left used count : ℕ) (r : Bool) : Type 0 where
  pub enough : r ≡ false → (count ≤ left) × (used + count ≤ 1024)
  pub lacking : r ≡ true → count ≤ left → 1024 < used + count

-- a pen within its page, in a line that is not over the limit
pub record InLine (pen : Pen) (page : Bytes) : Type 0 where
  pub to : pen.to ≤ length page
  pub line : pen.line ≤ pen.to
  pub used : pen.to - pen.line ≤ 1024

-- one byte more in the line; or it has no room, and nothing changes
pub data Separated (separator : ℕ) (pen : Pen) (page : Bytes) : Rust.Option (Unit {0}) → Pen → Bytes → Type 0 where
  separated : {to : ℕ} {after : Bytes} → RoomTold (length page - pen.to) (pen.to - pen.line) 1 false → PutAt (separator ∷ []) 1 page after pen.to to
      → Separated separator pen page (Some tt) (record { to = to; line = pen.line; atoms = pen.atoms; arguments = pen.arguments; compounds = pen.compounds }) after
  no_separator : RoomTold (length page - pen.to) (pen.to - pen.line) 1 true → Separated separator pen page None pen page

-- the first line is the head's
pub record LetterIs (atoms r : ℕ) : Type 0 where
  pub front : (before : Option Clause) → atoms ≡ length (atoms_of before) → line_front before ≡ r ∷ code "," ∷ []
