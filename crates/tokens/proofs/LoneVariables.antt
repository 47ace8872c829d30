-- An argument that is no term since it is empty; and one that begins with a capital, by the end of its first word: it is one
-- variable, or no term.
use mathlib.Core.Path.{◌≡◌, refl}
use mathlib.Core.Bool.{true, false}
use Prim.Native.Nat.{ℕ, ◌+◌, ◌-◌, ◌*◌, ◌≤◌, ◌<◌}
use native.Mathlib.Decide.{dec_lt, ℕ_discrete}
use native.Mathlib.Omega.{arith}
use lib.ListN.{length, get_or, set}
use Rattle.groundwork.proofs.Truth.{never_both}
use Rattle.theory.specs.Text.{Bytes}
use Rattle.words.specs.Classes.{class_of, EndsWord}
use Rattle.words.specs.declared.table.Class.TheVariants.{Capital}
use Rattle.std.specs.Prelude.{Some, None}
use Rattle.tokens.specs.declared.TokenRoom.{TokenRoom}
use Rattle.tokens.specs.TokenRows.{TokensRead}
use Rattle.tokens.proofs.NextTokens.{long_refused, variable_refused, variable_found}
use Rattle.tokens.proofs.TokenLoop.{Reading, reading_none, reading_variable, read_no_token, read_unwanted, read_open, read_all}

-- no bytes are no term
pub empty_read : (field : Bytes) (room : TokenRoom) → length room.arities ≡ 512 → length room.places ≡ 512 → length field < 1 → (left : TokenRoom) → TokensRead field None left
empty_read field room arity-size place-size none =
    read_open field room 1 0 0 0 (reading_none field room.arities room.places arity-size place-size) (omega arith) (omega arith)

module _ (field : Bytes) (any : 0 < length field) (narrow : length field ≤ 1024) (capital : class_of (get_or field 0 0) ≡ Capital) (e : ℕ) (word : EndsWord field 1 e) (room : TokenRoom) (arity-size : length room.arities ≡ 512) (place-size : length room.places ≡ 512) where
  begin : Reading field room.arities room.places 1 0 0 0
  begin = reading_none field room.arities room.places arity-size place-size

  pub lone_too_long : 16 < e → (left : TokenRoom) → TokensRead field None left
  lone_too_long long = read_no_token field room 1 0 0 0 begin any (long_refused field 0 any e word (omega arith))

  -- with the variable read
  module _ (short : e ≤ 16) (ends : e < length field → get_or field e 0 ≡ 32) (place : ℕ) (at : place ≡ 0 * 16 + (e - 0 - 1)) where
    abbrev stored : TokenRoom
    stored = record { arities = room.arities; places = set room.places 0 place }

    first_read : Reading field stored.arities stored.places 0 0 1 (e + 1)
    first_read =
        reading_variable field room 1 0 0 0 begin any narrow (λ n. omega arith) e place
        (variable_found field 0 any e word (omega arith) capital true (record { yes = λ _. record { space = ends }; no = λ n. never_both refl n }) refl place (omega arith))

  pub lone_read : length field ≤ e → (short : e ≤ 16) → (place : ℕ) → place ≡ 0 * 16 + (e - 0 - 1) → TokensRead field (Some record { symbols = 0; variables = 1 }) record { arities = room.arities; places = set room.places 0 place }
  lone_read past short place at =
      read_all field (stored short (λ h. absurd (omega arith)) place at) 0 0 1 (e + 1) (first_read short (λ h. absurd (omega arith)) place at) (omega arith) narrow refl

  -- something comes after the variable: a space and more, or what no token has
  pub lone_no_term : e < length field → (left : TokenRoom) → TokensRead field None left
  lone_no_term more = by (dec_lt 16 e) (ℕ_discrete (get_or field e 0) 32) (dec_lt (e + 1) (length field))
    where
      by : Dec (16 < e) → Dec (get_or field e 0 ≡ 32) → Dec (e + 1 < length field) → (left : TokenRoom) → TokensRead field None left
      by (yes long) d after = lone_too_long long
      by (no short) (no other) after =
          read_no_token field room 1 0 0 0 begin any
          (variable_refused field 0 any e word (omega arith) capital false (record { yes = λ n. never_both n refl; no = λ _ ends. other (ends.space more) }) refl)
      by (no short) (yes space) (yes later) =
          read_unwanted field (stored (omega arith) (λ _. space) (e - 1) (omega arith)) 0 0 1 (e + 1) (first_read (omega arith) (λ _. space) (e - 1) (omega arith)) later refl
      by (no short) (yes space) (no last) =
          read_open field (stored (omega arith) (λ _. space) (e - 1) (omega arith)) 0 0 1 (e + 1) (first_read (omega arith) (λ _. space) (e - 1) (omega arith)) (omega arith) (omega arith)
