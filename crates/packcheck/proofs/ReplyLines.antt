-- The whole reply, from the parts that are put on the page.
use mathlib.Core.Path.{◌≡◌, refl, ◌∙◌, ap}
use mathlib.Core.List.{List, [], ◌∷◌, ◌++◌, append_assoc}
use Prim.Native.Nat.{ℕ, ◌≤◌, ◌<◌}
use native.Mathlib.Omega.{arith}
use lib.ListN.{length, take, drop}
use borrow.Author.Tests.{lt-ltb, le-ltb}
use Rattle.theory.specs.Text.{Bytes, lines_of}
use Rattle.theory.specs.Packs.{text_of}
use Rattle.theory.specs.Check.{Numbers, numbers, verdict_of}
use Rattle.theory.specs.Program.{printed_numbers, reply}
use Rattle.theory.specs.Answers.{numbers_of}
use Rattle.tables.specs.declared.Tables.{Tables}
use Rattle.packs.specs.declared.Loaded.{Loaded}
use Rattle.pages.specs.Pages.{Puts}
use Rattle.pages.proofs.Puts.{front_is}
use Rattle.replies.specs.Replies.{PackEnds}
use Rattle.reservation.specs.Answering.{PackHeld}
use Rattle.packcheck.specs.Printing.{printed_queries, PutsQueries}

front_numbers : {four n : Numbers} {page₀ page : List ℕ} {r : ℕ} → four ≡ n → Puts (text_of (printed_numbers four ∷ [])) page₀ page r → take r page ≡ text_of (printed_numbers n ∷ [])
front_numbers is puts = front_is puts ∙ ap (λ (n : Numbers). text_of (printed_numbers n ∷ [])) is

module _ (input : Bytes) where
  pub long_reply : {four : Numbers} {page₀ page : List ℕ} {r : ℕ} → 65536 < length input → four ≡ numbers 2 0 0 0 → Puts (text_of (printed_numbers four ∷ [])) page₀ page r → r ≤ 24 → 589888 ≤ length page → (take r page ≡ reply input) × (r ≤ length page)
  unfolding reply
  long_reply long is puts few room = (front_numbers is puts ∙ rw (lt-ltb _ _ long) refl, omega arith)

  -- the input is short enough, and its pack ends at a place
  pub whole_reply : {four : Numbers} {end : ℕ} {l : Loaded} {t : Tables} {page₀ page₁ page : List ℕ} {written r : ℕ} → length input ≤ 65536 → PackEnds input end
      → PackHeld (take end input) l t → four ≡ numbers_of l.verdict
      → Puts (text_of (printed_numbers four ∷ [])) page₀ page₁ written → PutsQueries (drop end input) l t page₁ written page r → 589888 ≤ length page
      → (take r page ≡ reply input) × (r ≤ length page)
  unfolding reply text_of
  whole_reply {end = end} short ends held is puts more room =
      let text = take end input in
      let numbered = is ∙ held.judged in
      let lines = printed_queries text (lines_of (drop end input)) in
      let printed = more.tells text held ∙ ap (λ (bs : Bytes). bs ++ lines) (front_numbers numbered puts) ∙ append_assoc (printed_numbers (verdict_of text).returned) (10 ∷ []) lines in
      (printed ∙ simp (le-ltb _ _ short, ends.pack, ends.asked), omega (arith, more.small))
