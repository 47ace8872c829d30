-- What a writer leaves of a page.
use Rattle.std.specs.Prelude.{◌≡◌, List, ◌++◌, ℕ, ◌+◌, length, take, drop}

-- bytes at the front, what lay after them unchanged; r is how many
pub record Puts (bytes page₀ page : List ℕ) (r : ℕ) : Type 0 where
  pub many : r ≡ length bytes
  pub is : page ≡ bytes ++ drop r page₀

-- so many bytes are written at a place, and r is the place after them
pub record PutAt (more : List ℕ) (count : ℕ) (page₀ page : List ℕ) (to r : ℕ) : Type 0 where
  pub puts : Puts (take to page₀ ++ more) page₀ page r
  pub after : r ≡ to + count
  pub size : length page ≡ length page₀
