-- The lines that are printed for queries, after what a page holds already.
use Rattle.std.specs.Prelude.{◌≡◌, List, ◌++◌, map, ℕ, ◌≤◌, length, take}
use Rattle.theory.specs.Text.{Bytes, lines_of}
use Rattle.theory.specs.Packs.{text_of}
use Rattle.theory.specs.Reserve.{reserve_of}
use Rattle.theory.specs.Program.{printed_fields}
use Rattle.tables.specs.declared.Tables.{Tables}
use Rattle.packs.specs.declared.Loaded.{Loaded}
use Rattle.reservation.specs.Answering.{PackHeld}

-- what is printed for the queries of a text
abbrev pub printed_queries : Bytes → List Bytes → Bytes
printed_queries text queries = text_of (map (λ (q : Bytes). printed_fields (reserve_of text q)) queries)

pub record PutsQueries (queries : Bytes) (l : Loaded) (t : Tables) (page₀ : List ℕ) (written : ℕ) (page : List ℕ) (r : ℕ) : Type 0 where
  pub size : length page ≡ length page₀
  pub small : r ≤ 589888
  pub tells : (text : Bytes) → PackHeld text l t → take r page ≡ take written page₀ ++ printed_queries text (lines_of queries)
