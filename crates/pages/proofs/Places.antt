-- What stands on a page after a writer at a place, and after one more.
use mathlib.Core.Path.{◌≡◌, refl, ◌∙◌, ap, subst}
use mathlib.Core.List.{[], ◌∷◌, ◌++◌, append_assoc}
use Prim.Native.Nat.{ℕ, ◌+◌, ◌-◌, ◌≤◌}
use native.Mathlib.Omega.{arith}
use borrow.Rule.Slice.PartMut.{mid_of, put_mid}
use lib.ListN.{length, set, take, length-append}
use lib.Seq.{length-take-le}
use Rattle.theory.specs.Text.{Bytes, decimal}
use Rattle.pages.specs.Pages.{Puts, PutAt}
use Rattle.pages.proofs.Puts.{puts_same, puts_size, puts_byte, puts_more, puts_part, puts_fill}

-- how far a writer comes, and that the page is as long as it was
put_at : {more page₀ page : Bytes} {to r : ℕ} (count : ℕ) → to + count ≤ length page₀ → length more ≡ count → Puts (take to page₀ ++ more) page₀ page r → PutAt more count page₀ page to r
put_at {more} {page₀} {page} {to} {r} count room size puts =
    let far : r ≡ to + count = omega (arith, puts.many, length-append (take to page₀) more, length-take-le to page₀ (omega arith)) in
    record { puts = puts; after = far; size = puts_size puts (omega arith) }

-- a text that is copied over a part of the page as long as it
pub copied_part : (source page : Bytes) (at : ℕ) {lent : Bytes} (count : ℕ) → at + count ≤ length page → length source ≡ count → lent ≡ source
    → PutAt source count page (put_mid at (at + count - at) page lent) at (at + count)
copied_part source page at count room size all =
    put_at count room size (puts_fill (puts_same page at (omega arith)) (λ _. source) (at + count) (omega arith) room (omega arith) all)

pub byte_put : (page : Bytes) (to b : ℕ) → to + 1 ≤ length page → PutAt (b ∷ []) 1 page (set page to b) to (to + 1)
byte_put page to b room = put_at 1 room refl (puts_byte (puts_same page to (omega arith)) b (omega arith))

pub number_put : (page : Bytes) {lent : Bytes} (to : ℕ) {q : ℕ} (n : ℕ) → to + length (decimal n) ≤ length page → Puts (decimal n) (mid_of to (length page - to) page) lent q → PutAt (decimal n) (length (decimal n)) page (put_mid to (length page - to) page lent) to (to + q)
number_put page to n room second = put_at (length (decimal n)) room refl (puts_part (omega arith) second)

-- one writer after another
pub put_then : {a b page₀ page last : Bytes} {m n to q r : ℕ} (more : Bytes) (count : ℕ) → a ++ b ≡ more → m + n ≡ count → PutAt a m page₀ page to q → PutAt b n page last q r → PutAt more count page₀ last to r
put_then {a} {b} {page₀} {page} {last} {m} {n} {to} {q} {r} more count all sum first second = record {
  puts = subst (λ bs. Puts bs page₀ last r) (append_assoc (take to page₀) a b ∙ ap (λ bs. take to page₀ ++ bs) all) (puts_more first.puts b second.puts);
  after = omega (arith, first.after, second.after);
  size = second.size ∙ first.size;
}
