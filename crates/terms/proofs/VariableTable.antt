-- A table of the words of variables: where a variable stands in it, and one variable more.
use mathlib.Core.Path.{◌≡◌, sym, ◌∙◌, ap, subst}
use mathlib.Core.Bool.{true, false}
use mathlib.Core.List.{List, [], ◌∷◌, ◌++◌}
use Prim.Native.Nat.{ℕ, ◌<◌}
use native.Mathlib.Omega.{arith}
use borrow.Author.Count.{below_more}
use lib.ListN.{length, get_or, set, length-set, get_or-append}
use lib.Seq.{get_or-set_same, get_or-set_other, get_or-append_seam}
use Rattle.groundwork.proofs.Lists.{length_end}
use Rattle.theory.specs.Text.{Bytes, among, is_variable}
use Rattle.theory.specs.Residuals.{numbered}
use Rattle.theory.proofs.Reading.Spelling.{variable_bytes}
use Rattle.theory.proofs.Judging.Variables.{Once, numbered_once}
use Rattle.words.specs.Words.{words_of, words_at, StandsAt}
use Rattle.words.specs.declared.Words.{Words}
use Rattle.words.proofs.WordLaws.{words_equal}
use Rattle.terms.specs.Rows.{Holds}
use Rattle.terms.proofs.Numbering.{no_place_among, numbered_new}

module _ (names : List Words) (n : ℕ) (words : Words) where
  pub with_other : (i : ℕ) → i < n → words_at (set names n words) i ≡ words_at names i
  with_other i h = get_or-set_other names n i words _ (λ e. omega arith)

  pub with_here : n < length names → words_at (set names n words) n ≡ words
  with_here h = get_or-set_same names n words _ h

-- what holds at each place of a list, and at the next, holds at each place when one more stands after it
each_and_last : (P : Bytes → ℕ → Type 0) (all : List Bytes) (x : Bytes) → ((i : ℕ) → i < length all → P (get_or all i []) i) → P x (length all) → (i : ℕ) → i < length (all ++ (x ∷ [])) → P (get_or (all ++ (x ∷ [])) i []) i
each_and_last P all x each last i h =
    below_more (λ (j : ℕ). P (get_or (all ++ (x ∷ [])) j []) j) (length all)
    (λ j k. rw (get_or-append all (x ∷ []) [] j k) (each j k))
    (rw (get_or-append_seam all x [] []) last)
    i
    (omega (arith, length_end all x))

once_more : {all : List Bytes} (x : Bytes) → Once all → among x all ≡ false → Once (all ++ (x ∷ []))
unfolding numbered
once_more {all} x once new = subst Once (numbered_new all x [] new) (numbered_once all (x ∷ []) once)

module _ {names : List Words} {all : List Bytes} (x : Bytes) (holds : Holds names all) (proper : is_variable x ≡ true) where
  pub found_is : (at : ℕ) → at < length all → StandsAt (words_at names) (length all) (words_of x) at → get_or all at [] ≡ x
  found_is at h place =
      words_equal (get_or all at []) x (variable_bytes (get_or all at []) (holds.proper at h)) (variable_bytes x proper) (sym (holds.words at h) ∙ place.found h)

  pub not_found : StandsAt (words_at names) (length all) (words_of x) (length all) → among x all ≡ false
  not_found place = no_place_among x all (λ i h e. place.nowhere (omega arith) i h (holds.words i h ∙ ap words_of e))

  pub holds_more : among x all ≡ false → length all < 16 → Holds (set names (length all) (words_of x)) (all ++ (x ∷ []))
  holds_more new room =
      record {
        size = length-set names (length all) (words_of x) ∙ holds.size;
        few = omega (arith, length_end all x);
        words = each_and_last (λ y i. words_at (set names (length all) (words_of x)) i ≡ words_of y) all x
            (λ i h. with_other names (length all) (words_of x) i h ∙ holds.words i h)
            (with_here names (length all) (words_of x) (omega (arith, holds.size)));
        proper = each_and_last (λ y i. is_variable y ≡ true) all x holds.proper proper;
        once = once_more x holds.once new;
      }
