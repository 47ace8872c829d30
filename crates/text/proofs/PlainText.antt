-- A line of a text that is plain has only bytes that may stand in a line.
use mathlib.Core.Path.{◌≡◌, refl}
use mathlib.Core.Bool.{true, false}
use mathlib.Core.List.{[], ◌∷◌}
use Prim.Native.Nat.{ℕ, ◌-◌}
use lib.Dec.{eqb}
use lib.ListN.{drop}
use Rattle.theory.specs.Lists.{every}
use Rattle.theory.specs.Text.{Bytes, between}
use Rattle.theory.proofs.Reading.Every.{every_first, every_rest, every_cons}
use Rattle.theory.proofs.Reading.Separators.{is_free, free_first}
use Rattle.text.specs.Scans.{part, Finds, is_plain}
use Rattle.text.proofs.Classes.{every_before, every_after}

-- a byte that is plain and not 10
plain_other : (b : ℕ) → is_plain b ≡ true → eqb b 10 ≡ false → between 32 126 b ≡ true
unfolding is_plain
plain_other b h other = rw other at h

plain_free : (bs : Bytes) → every is_plain bs ≡ true → is_free 10 bs ≡ true → every (between 32 126) bs ≡ true
unfolding every
plain_free [] h free = refl
plain_free (b ∷ bs) h free =
    every_cons (between 32 126) b bs (plain_other b (every_first is_plain b bs h) (free_first 10 b bs free))
    (plain_free bs (every_rest is_plain b bs h) (every_rest _ b bs free))

pub plain_line : {text : Bytes} {at end : ℕ} → every is_plain text ≡ true → Finds text 10 at end → every (between 32 126) (part text at end) ≡ true
plain_line {text} {at} {end} plain found =
    plain_free (part text at end) (every_before is_plain (drop at text) (end - at) (every_after is_plain text at plain)) found.free
