-- Document 01, "The program", in words: which bytes of the input are the pack, which are queries, and what is printed. What it
-- computes is in Program.
use Rattle.std.specs.Prelude.{◌≡◌, ℕ, ◌≤◌, ◌<◌, length}
use mathlib.Core.List.{List, [], ◌∷◌, ◌++◌, flat_map}
use Rattle.theory.specs.Lists.{◌∈◌, ending}
use Rattle.theory.specs.Text.{Bytes, bytes, decimal}
use Rattle.theory.specs.Packs.{text_of}
use Rattle.theory.specs.Check.{Numbers, verdict_of}
use Rattle.theory.specs.Reserve.{Fields, reserve_of}
use Rattle.theory.specs.Program.{reply}

-- ## The pack and the queries

-- a line begins after these bytes: there are none, or the last of them is 10
pub data LineBegins : Bytes → Type 0 where
  at_start : LineBegins []
  after_line : (before : Bytes) → LineBegins (before ++ (10 ∷ []))

-- A line of the input that is exactly `E` and its byte 10: what comes before it, and what after.
pub record EndLine (input front rest : Bytes) : Type 0 where
  pub are : input ≡ front ++ bytes "E\n" ++ rest
  pub begins : LineBegins front

-- Lines: no byte 10 in them, one after each; the last may lack it if it is not empty.
abbrev pub NoLineEnds : List Bytes → Type 0
NoLineEnds ls = (l : Bytes) → l ∈ ls → 10 ∈ l → ⊥

pub data HasLines : Bytes → List Bytes → Type 0 where
  ended : (ls : List Bytes) → NoLineEnds ls → HasLines (text_of ls) ls
  unended : (ls : List Bytes) (b : ℕ) (l : Bytes) → NoLineEnds (ending (b ∷ l) ls) → HasLines (text_of ls ++ b ∷ l) (ending (b ∷ l) ls)

-- The pack runs through the first such line, and the lines after it are the queries; without one the pack is everything.
pub data Divided (input : Bytes) : Bytes → List Bytes → Type 0 where
  at_end : {front rest : Bytes} {queries : List Bytes} → EndLine input front rest → ((other after : Bytes) → EndLine input other after → length front ≤ length other)
      → HasLines rest queries → Divided input (front ++ bytes "E\n") queries
  no_end : ((front rest : Bytes) → EndLine input front rest → ⊥) → Divided input input []

-- ## What is printed

-- check's four numbers
abbrev pub verdict_line : Numbers → Bytes
verdict_line n = decimal n.number ++ bytes "," ++ decimal n.line ++ bytes "," ++ decimal n.rule ++ bytes "," ++ decimal n.claim ++ bytes "\n"

-- reserve's three fields
abbrev pub answer_line : Fields → Bytes
answer_line f = f.letter ∷ bytes "," ++ decimal f.middle ++ bytes "," ++ decimal f.claim ++ bytes "\n"

-- For every input: it has a pack and queries, and only these; over 65,536 bytes one line is printed and nothing else, otherwise
-- a line for the pack and one for each query.
pub record ReplyTold : Type 0 where
  pub divides : (input : Bytes) → (pack : Bytes) × (queries : List Bytes) × Divided input pack queries
  pub only : (input : Bytes) {pack other : Bytes} {queries others : List Bytes} → Divided input pack queries → Divided input other others → (pack ≡ other) × (queries ≡ others)
  pub long : (input : Bytes) → 65536 < length input → reply input ≡ bytes "2,0,0,0\n"
  pub prints : (input pack : Bytes) (queries : List Bytes) → length input ≤ 65536 → Divided input pack queries
      → reply input ≡ verdict_line (verdict_of pack).returned ++ flat_map (λ (q : Bytes). answer_line (reserve_of pack q)) queries
