-- Lists by their places: one element more, a test of every one.
use mathlib.Core.Path.{◌≡◌, refl, sym, ◌∙◌, ap}
use mathlib.Core.Bool.{Bool, true, false}
use mathlib.Core.List.{List, [], ◌∷◌, ◌++◌}
use Prim.Native.Nat.{ℕ, ◌<◌}
use native.Mathlib.Omega.{arith}
use borrow.Author.Count.{below_more}
use lib.ListN.{length, get_or, get_or-append}
use lib.Seq.{get_or-append_seam}
use Rattle.groundwork.proofs.Truth.{by_truth, never_both}
use Rattle.groundwork.proofs.Lists.{length_end, get_d_member, member_get_d}
use Rattle.theory.specs.Lists.{every}
use Rattle.theory.proofs.Reading.Every.{every_member, members_every}

module _ {A : Type 0} where
  -- what holds at each place of a list, and at the next, holds at each place when one more stands after it
  pub each_and_last : (P : A → ℕ → Type 0) (l : List A) (x d : A) → ((i : ℕ) → i < length l → P (get_or l i d) i) → P x (length l) → (i : ℕ) → i < length (l ++ (x ∷ [])) → P (get_or (l ++ (x ∷ [])) i d) i
  each_and_last P l x d each last i h =
      below_more (λ (j : ℕ). P (get_or (l ++ (x ∷ [])) j d) j) (length l)
      (λ j k. rw (get_or-append l (x ∷ []) d j k) (each j k))
      (rw (get_or-append_seam l x [] d) last)
      i
      (omega (arith, length_end l x))

  module _ (test : A → Bool) (l : List A) (d : A) where
    pub every_place : every test l ≡ true → (i : ℕ) → i < length l → test (get_or l i d) ≡ true
    every_place h i less = every_member test h (get_d_member l i d less)

    pub places_every : ((i : ℕ) → i < length l → test (get_or l i d) ≡ true) → every test l ≡ true
    places_every h = members_every test l λ a m. let found = member_get_d d m in ap test (sym found.2) ∙ h found.0 found.1

    pub not_every : (i : ℕ) → i < length l → test (get_or l i d) ≡ false → every test l ≡ false
    not_every i less bad = by_truth (λ b. b ≡ false) (every test l) (λ e. never_both (every_place e i less) bad) (λ e. refl)
