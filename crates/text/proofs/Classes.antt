-- A test of every byte of a string, cut at a place; and bytes outside a class.
use mathlib.Core.Path.{◌≡◌, refl, sym, ◌∙◌, ap}
use mathlib.Core.Bool.{Bool, true, false, ◌&&◌, and_assoc}
use mathlib.Core.List.{[], ◌∷◌, ◌++◌}
use Prim.Native.Nat.{ℕ, ◌+◌, ◌<◌}
use lib.Dec.{leb}
use lib.ListN.{length, get_or, take, drop, take-append-drop}
use Rattle.groundwork.proofs.Truth.{and_left, and_right, and_not_left, and_not_right, gt-leb}
use Rattle.theory.specs.Lists.{every}
use Rattle.theory.specs.Text.{Bytes, between}
use Rattle.text.proofs.Parts.{drop_more}

module _ (test : ℕ → Bool) where
  pub every_of_append : (a b : Bytes) → every test (a ++ b) ≡ (every test a && every test b)
  unfolding every
  every_of_append [] b = refl
  every_of_append (x ∷ a) b = ap (λ (c : Bool). test x && c) (every_of_append a b) ∙ sym (and_assoc (test x) (every test a) (every test b))

  module _ (s : Bytes) where
    pub every_cut : (i : ℕ) → every test s ≡ (every test (take i s) && every test (drop i s))
    every_cut i = sym (ap (every test) (take-append-drop i s)) ∙ every_of_append (take i s) (drop i s)

    pub every_before : (i : ℕ) → every test s ≡ true → every test (take i s) ≡ true
    every_before i h = and_left _ _ (sym (every_cut i) ∙ h)

    pub every_after : (i : ℕ) → every test s ≡ true → every test (drop i s) ≡ true
    every_after i h = and_right (every test (take i s)) _ (sym (every_cut i) ∙ h)

    pub every_not_after : (i : ℕ) → every test (drop i s) ≡ false → every test s ≡ false
    every_not_after i h = every_cut i ∙ and_not_right (every test (take i s)) _ h

    pub every_at : (i : ℕ) → i < length s → every test (drop i s) ≡ (test (get_or s i 0) && every test (drop (i + 1) s))
    unfolding every
    every_at i h = ap (every test) (drop_more s i h)

-- ---- bytes outside a class

pub between_below : (low high b : ℕ) → b < low → between low high b ≡ false
between_below low high b h = and_not_left (leb low b) (leb b high) (gt-leb low b h)

pub between_above : (low high b : ℕ) → high < b → between low high b ≡ false
between_above low high b h = and_not_right (leb low b) (leb b high) (gt-leb b high h)
