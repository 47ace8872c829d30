-- What stands on a page after one writer after another.
use mathlib.Core.Path.{◌≡◌, sym, ◌∙◌, ap, ap₂}
use mathlib.Core.List.{[], ◌∷◌, ◌++◌, append_assoc, append-nil}
use Prim.Native.Nat.{ℕ, ◌+◌, ◌-◌, ◌≤◌, ◌<◌}
use native.Mathlib.Numerals.{add-one}
use native.Mathlib.Omega.{arith}
use borrow.Rule.Slice.PartMut.{mid_of, post_of, put_mid, Post-is, mid_len}
use lib.ListN.{length, get_or, set, take, drop, length-append, length-drop, take-append-drop, drop_of_length-le}
use lib.Seq.{length-take-le, drop-cons, drop-drop, take_all, take_at, drop_at, set_at}
use Rattle.groundwork.proofs.Lists.{length_end}
use Rattle.theory.specs.Lists.{over}
use Rattle.theory.specs.Text.{Bytes}
use Rattle.pages.specs.Pages.{Puts}

-- the bytes of the page itself
pub puts_same : (page : Bytes) (at : ℕ) → at ≤ length page → Puts (take at page) page page at
puts_same page at h = record { many = sym (length-take-le at page h); is = sym (take-append-drop at page) }

module _ {bytes page₀ page : Bytes} {r : ℕ} (puts : Puts bytes page₀ page r) where
  pub front_is : take r page ≡ bytes
  front_is = ap (take r) puts.is ∙ take_at bytes (drop r page₀) r (sym puts.many)

  after_is : drop r page ≡ drop r page₀
  after_is = ap (drop r) puts.is ∙ drop_at bytes (drop r page₀) r (sym puts.many)

  -- the page is as long as it was
  pub puts_size : r ≤ length page₀ → length page ≡ length page₀
  puts_size within = ap length puts.is ∙ omega (arith, length-append bytes (drop r page₀), length-drop r page₀, puts.many)

  -- one byte more
  pub puts_byte : (b : ℕ) → r < length page₀ → Puts (bytes ++ (b ∷ [])) page₀ (set page r b) (r + 1)
  puts_byte b room =
      let rest : drop r page₀ ≡ get_or page₀ r 0 ∷ drop (r + 1) page₀ = rw (add-one r) (drop-cons page₀ r 0 room) in
      record {
        many = omega (arith, length_end bytes b, puts.many);
        is =
            ap (λ (p : Bytes). set p r b) (puts.is ∙ ap (λ (p : Bytes). bytes ++ p) rest)
            ∙ set_at bytes (get_or page₀ r 0) (drop (r + 1) page₀) b r (sym puts.many)
            ∙ sym (append_assoc bytes (b ∷ []) (drop (r + 1) page₀));
      }

  -- a second writer after the first
  pub puts_more : (more : Bytes) {last : Bytes} {q : ℕ} → Puts (take r page ++ more) page last q → Puts (bytes ++ more) page₀ last q
  puts_more more {last} {q} second =
      let front = ap (λ (bs : Bytes). bs ++ more) front_is in
      let many : q ≡ r + length more = second.many ∙ ap length front ∙ omega (arith, length-append bytes more, puts.many) in
      let after : drop q page ≡ drop q page₀ = rw many (sym (drop-drop (length more) r page) ∙ ap (drop (length more)) after_is ∙ drop-drop (length more) r page₀) in
      record { many = second.many ∙ ap length front; is = second.is ∙ ap₂ ◌++◌ front after }

  -- a writer that is lent the part right after them, up to a place, and fills it: what it writes goes by how much it is lent
  pub puts_fill : (text : ℕ → Bytes) (end : ℕ) {part : Bytes} → r ≤ end → end ≤ length page₀ → length (text (end - r)) ≡ end - r → part ≡ text (length (mid_of r (end - r) page))
      → Puts (bytes ++ text (end - r)) page₀ (put_mid r (end - r) page part) end
  puts_fill text end {part} start within size filled =
      let more : part ≡ text (end - r) = filled ∙ ap text (mid_len r end page (omega (arith, puts_size (omega arith)))) in
      let after : post_of r (end - r) page ≡ drop end page₀ = ap (drop (end - r)) after_is ∙ Post-is r end page₀ start in
      record {
        many = omega (arith, length-append bytes (text (end - r)), puts.many);
        is = ap₂ ◌++◌ front_is (ap₂ ◌++◌ more after) ∙ sym (append_assoc bytes (text (end - r)) (drop end page₀));
      }

  -- they are laid over the page
  pub puts_over : page ≡ over bytes page₀
  puts_over = puts.is ∙ ap (λ (many : ℕ). bytes ++ drop many page₀) puts.many

-- a writer that is lent the page from a place on
pub puts_part : {more page part : Bytes} {at q : ℕ} → at ≤ length page → Puts more (mid_of at (length page - at) page) part q → Puts (take at page ++ more) page (put_mid at (length page - at) page part) (at + q)
puts_part {more} {page} {part} {at} {q} within second =
    let lent : mid_of at (length page - at) page ≡ drop at page = take_all (length page - at) (drop at page) (omega (arith, length-drop at page)) in
    let none = drop-drop (length page - at) at page ∙ drop_of_length-le page {i = at + (length page - at)} (omega arith) in
    let after = ap (drop q) lent ∙ drop-drop q at page in
    let middle = second.is ∙ ap (λ (rest : Bytes). more ++ rest) after in
    record {
      many = omega (arith, length-append (take at page) more, length-take-le at page within, second.many);
      is =
          ap (λ (rest : Bytes). take at page ++ rest) (ap₂ ◌++◌ middle none ∙ append-nil (more ++ drop (at + q) page))
          ∙ sym (append_assoc (take at page) more (drop (at + q) page));
    }

-- one of the bytes written becomes another
pub puts_change : {page₀ page : Bytes} {r : ℕ} (front : Bytes) (a : ℕ) (rest : Bytes) (b at : ℕ) → Puts (front ++ (a ∷ rest)) page₀ page r → at ≡ length front → Puts (front ++ (b ∷ rest)) page₀ (set page at b) r
puts_change {page₀} {page} {r} front a rest b at puts is =
    record {
      many = puts.many ∙ length-append front (a ∷ rest) ∙ sym (length-append front (b ∷ rest));
      is =
          ap (λ p. set p at b) (puts.is ∙ append_assoc front (a ∷ rest) (drop r page₀)) ∙ set_at front a (rest ++ drop r page₀) b at (sym is)
          ∙ sym (append_assoc front (b ∷ rest) (drop r page₀));
    }
