-- A term's tokens read once, into two rows for the two steps of its size: the arities of its symbols and the places of its variables.
use Rattle.std.specs.Prelude.{◌≡◌, true, Option, Some, is_some, List, map, ℕ, ◌+◌, ◌/◌, ◌%◌, ◌≤◌, ◌<◌, length, get_or, take}
use Rattle.std.proofs.Math.Option.{some}
use Rattle.theory.specs.Text.{Bytes, is_digit, is_variable}
use Rattle.theory.specs.Terms.{Term, read_term, variables}
use Rattle.theory.specs.Sizes.{arities_of}
use Rattle.theory.specs.Faults.{is_term}
use Rattle.text.specs.Scans.{part}
use Rattle.tokens.specs.declared.Tokens.{Tokens}
use Rattle.tokens.specs.declared.TokenRoom.{TokenRoom}

-- a space or nothing stands at a place
pub record EndsAt (s : Bytes) (at : ℕ) : Type 0 where
  pub space : at < length s → get_or s at 0 ≡ 32

-- `/`, a digit and the end of a token stand at a place
pub record ArityAt (s : Bytes) (at : ℕ) : Type 0 where
  pub inside : at + 2 ≤ length s
  pub slash : get_or s at 0 ≡ 47
  pub digit : is_digit (get_or s (at + 1) 0) ≡ true
  pub end : EndsAt s (at + 2)

-- a variable's place in a field: 16 times where it starts, and one less than its length
abbrev pub start_of : ℕ → ℕ
start_of place = place / 16

abbrev pub end_of : ℕ → ℕ
end_of place = place / 16 + place % 16 + 1

abbrev pub standing_at : Bytes → ℕ → Bytes
standing_at field place = part field (start_of place) (end_of place)

pub record VariableAt (field : Bytes) (place : ℕ) : Type 0 where
  pub inside : end_of place ≤ length field
  pub proper : is_variable (standing_at field place) ≡ true

-- each of the first arities is one digit
pub record SmallArities (arities : List ℕ) (symbols : ℕ) : Type 0 where
  pub few : symbols ≤ 512
  pub small : (i : ℕ) → i < symbols → get_or arities i 0 ≤ 9

-- the first arities are those of the field's symbols, in order
pub record SymbolsStand (field : Bytes) (arities : List ℕ) (symbols : ℕ) : Type 0 where
  pub digits : SmallArities arities symbols
  pub all : (t : Term) → read_term field ≡ some t → arities_of t ≡ take symbols arities

-- at the first places stand the field's variables, in order
pub record PlacesStand (field : Bytes) (places : List ℕ) (count : ℕ) : Type 0 where
  pub few : count ≤ 512
  pub wide : count ≤ length places
  pub each : (i : ℕ) → i < count → VariableAt field (get_or places i 0)
  pub all : (t : Term) → read_term field ≡ some t → variables t ≡ map (standing_at field) (take count places)

-- what the room holds of a field that is a term
pub record TokensStand (field : Bytes) (read : Tokens) (room : TokenRoom) : Type 0 where
  pub symbols : SymbolsStand field room.arities read.symbols
  pub places : PlacesStand field room.places read.variables
  pub many : (t : Term) → read_term field ≡ some t → read.variables ≡ length (variables t)

-- a field is read exactly if it is a term
pub record TokensRead (field : Bytes) (r : Option Tokens) (room : TokenRoom) : Type 0 where
  pub fine : is_some r ≡ is_term field
  pub stand : (read : Tokens) → r ≡ Some read → TokensStand field read room
