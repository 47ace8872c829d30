-- A name or a variable as two words of eight bytes, so that two are compared at once.
use Rattle.std.specs.Prelude.{◌≡◌, true, false, List, ℕ, ◌≤◌, ◌<◌, get_or, take, drop}
use Rattle.theory.specs.Text.{Bytes, is_name, is_variable}
use Rattle.text.specs.ByteNumbers.{number}
use Rattle.words.specs.declared.Words.{Words}
use Rattle.words.specs.declared.Word.{Word}
use Rattle.words.specs.declared.Word.TheVariants.{Name, Variable, Neither}

-- the first eight bytes and the others
unfoldable pub words_of : Bytes → Words
words_of bs = record { first = number (take 8 bs); second = number (drop 8 bs) }

-- what the word reader found
pub data WordRead (bs : Bytes) : Word → Type 0 where
  name : is_name bs ≡ true → WordRead bs (Name (words_of bs))
  variable : is_variable bs ≡ true → WordRead bs (Variable (words_of bs))
  neither : is_name bs ≡ false → is_variable bs ≡ false → WordRead bs Neither

-- the words at a place of a table, and two numbers 0 past its end
abbrev pub words_at : List Words → ℕ → Words
words_at names i = get_or names i record { first = 0; second = 0 }

-- of what stands at places: r is a place of x among the first `known`, or `known` where it stands at none of those
pub record StandsAt {A : Type 0} (at : ℕ → A) (known : ℕ) (x : A) (r : ℕ) : Type 0 where
  pub high : r ≤ known
  pub found : r < known → at r ≡ x
  pub nowhere : known ≤ r → (i : ℕ) → i < known → at i ≡ x → ⊥
