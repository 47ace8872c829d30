-- The loop over the queries: what is printed so far, and the queries left.
use mathlib.Core.Path.{◌≡◌, refl, sym, ◌∙◌, ap}
use mathlib.Core.Bool.{Bool, cond}
use mathlib.Core.List.{List, [], ◌∷◌, ◌++◌, append_assoc, append-nil}
use Prim.Native.Nat.{ℕ, suc, ◌+◌, ◌-◌, ◌*◌, ◌≤◌}
use native.Mathlib.Omega.{arith}
use borrow.Rule.Slice.PartMut.{mid_of, put_mid}
use lib.Dec.{eqb}
use lib.ListN.{length, take, length-append}
use Rattle.groundwork.proofs.Truth.{by_truth}
use Rattle.theory.specs.Text.{Bytes, on_first, lines_of}
use Rattle.theory.specs.Packs.{text_of}
use Rattle.theory.specs.Reserve.{Fields, reserve_of}
use Rattle.theory.specs.Program.{printed_fields}
use Rattle.theory.specs.Answers.{reserved_fields}
use Rattle.theory.specs.declared.Reservation.{Reservation}
use Rattle.tables.specs.declared.Tables.{Tables}
use Rattle.packs.specs.declared.Loaded.{Loaded}
use Rattle.pages.specs.Pages.{Puts}
use Rattle.pages.proofs.Puts.{front_is, puts_size, puts_part}
use Rattle.reservation.specs.Answering.{PackHeld, Responds}
use Rattle.packcheck.specs.Printing.{printed_queries, PutsQueries}
use Rattle.packcheck.proofs.ReplyLengths.{line_fits_lem}

-- ---- how long the lines of a text are, each with its byte 10

line_first_length : (b n : ℕ) (ls : List Bytes) → length (text_of ls) ≤ n + 1 → length (text_of (on_first b ls)) ≤ n + 2
unfolding text_of
line_first_length b n [] few = omega arith
line_first_length b n (l ∷ ls) few = omega (arith, few)

lines_length : (bs : Bytes) → length (text_of (lines_of bs)) ≤ length bs + 1
unfolding text_of lines_of
lines_length [] = omega arith
lines_length (b ∷ bs) =
    by_truth (λ (test : Bool). length (text_of (cond test ([] ∷ lines_of bs) (on_first b (lines_of bs)))) ≤ suc (length bs) + 1) (eqb b 10)
    (λ e. omega (arith, lines_length bs))
    (λ e. omega (arith, line_first_length b (length bs) (lines_of bs) (lines_length bs)))

-- ---- the loop

pub record QueriesPut (queries : Bytes) (l : Loaded) (t : Tables) (page₀ : List ℕ) (written : ℕ) (page : List ℕ) (left : List Bytes) (r : ℕ) : Type 0 where
  pub size : length page ≡ length page₀
  pub small : r + 9 * length (text_of left) ≤ 24 + 9 * (length queries + 1)
  pub tells : (text : Bytes) → PackHeld text l t → take r page ++ printed_queries text left ≡ take written page₀ ++ printed_queries text (lines_of queries)

-- a line in front of the others
line_first : (text query : Bytes) (queries : List Bytes) → printed_queries text (query ∷ queries) ≡ text_of (printed_fields (reserve_of text query) ∷ []) ++ printed_queries text queries
unfolding text_of
line_first text query queries = sym (append_assoc (printed_fields (reserve_of text query)) (10 ∷ []) (printed_queries text queries))

text_first : (query : Bytes) (queries : List Bytes) → length (text_of (query ∷ queries)) ≡ length query + 1 + length (text_of queries)
unfolding text_of
text_first query queries = omega (arith, length-append query (10 ∷ text_of queries))

module _ {queries : Bytes} {l : Loaded} {t : Tables} {page₀ : List ℕ} {written : ℕ} where
  pub queries_begin : {left : List Bytes} → left ≡ lines_of queries → written ≤ 24 → QueriesPut queries l t page₀ written page₀ left written
  queries_begin {left} all few = record {
    size = refl;
    small = omega (arith, ap (λ (ls : List Bytes). length (text_of ls)) all, lines_length queries);
    tells = λ text held. ap (λ (ls : List Bytes). take written page₀ ++ printed_queries text ls) all;
  }

  module _ {page : List ℕ} {left : List Bytes} {r : ℕ} (put : QueriesPut queries l t page₀ written page left r) (short : length queries ≤ 65536) (room : 589888 ≤ length page₀) where
    -- there is room for a line, and after the last the page is not full
    pub queries_small : r + 27 ≤ length page
    queries_small = omega (arith, put.small, put.size)

    pub queries_done : left ≡ [] → PutsQueries queries l t page₀ written page r
    unfolding text_of
    queries_done none = record {
      size = put.size;
      small = omega (arith, put.small);
      tells = λ text held. sym (append-nil (take r page)) ∙ ap (λ (ls : List Bytes). take r page ++ printed_queries text ls) (sym none) ∙ put.tells text held;
    }

    pub queries_more : {after : List ℕ} {q : ℕ} {query : Bytes} {rest : List Bytes} (answer : Reservation) (three : Fields) → left ≡ query ∷ rest → ((text : Bytes) × PackHeld text l t)
        → Responds l query t answer → three ≡ reserved_fields answer
        → Puts (text_of (printed_fields three ∷ [])) (mid_of r (length page - r) page) after q → q ≤ 27
        → QueriesPut queries l t page₀ written (put_mid r (length page - r) page after) rest (r + q)
    queries_more {after} {q} {query} {rest} answer three next some responds is puts few =
        let more = text_of (printed_fields three ∷ []) in
        let whole = puts_part {more = more} {page = page} {at = r} (omega (arith, queries_small)) puts in
        let many = puts.many ∙ ap (λ (f : Fields). length (text_of (printed_fields f ∷ []))) is in
        let fits = line_fits_lem some.0 query answer q (responds.tells some.0 some.1) many few in
        record {
          size = puts_size whole (omega (arith, queries_small)) ∙ put.size;
          small = omega (arith, put.small, fits, ap (λ (ls : List Bytes). length (text_of ls)) next, text_first query rest);
          tells = λ text held.
              ap (λ (bs : Bytes). bs ++ printed_queries text rest) (front_is whole)
              ∙ append_assoc (take r page) more (printed_queries text rest)
              ∙ ap (λ (bs : Bytes). take r page ++ bs)
              (ap (λ (f : Fields). text_of (printed_fields f ∷ []) ++ printed_queries text rest) (is ∙ responds.tells text held)
              ∙ sym (line_first text query rest)
              ∙ ap (printed_queries text) (sym next))
              ∙ put.tells text held;
        }
