-- What bytes are read as: a word is a first letter, bytes that may stand in a name, and no more than 16 of them.
use mathlib.Core.Path.{◌≡◌, refl, ◌∙◌, ap, subst}
use mathlib.Core.Bool.{Bool, true, false, ◌&&◌, and-false}
use mathlib.Core.List.{[], ◌∷◌}
use Prim.Native.Nat.{ℕ, suc, ◌≤◌, ◌<◌}
use native.Mathlib.Omega.{arith}
use lib.Dec.{leb, leb-suc-suc}
use lib.ListN.{length, get_or}
use Rattle.groundwork.proofs.Truth.{by_truth, le-leb, gt-leb}
use Rattle.theory.specs.Lists.{every}
use Rattle.theory.specs.Text.{Bytes, is_lower, is_upper, is_name_byte, is_word, is_name, is_variable}
use Rattle.text.proofs.Parts.{empty_is}
use Rattle.words.specs.declared.Words.{Words}
use Rattle.words.specs.declared.Word.TheVariants.{Name, Variable, Neither}
use Rattle.words.specs.Words.{words_of, WordRead, name, variable, neither}
use Rattle.words.proofs.Letters.{lower_in_name, upper_in_name}

word_none : (isFirst : ℕ → Bool) (s : Bytes) → length s ≡ 0 → is_word isFirst s ≡ false
unfolding is_word
word_none isFirst s h = ap (is_word isFirst) (empty_is s h)

pub word_is : (isFirst : ℕ → Bool) → ((b : ℕ) → isFirst b ≡ true → is_name_byte b ≡ true) → (s : Bytes) → 0 < length s → is_word isFirst s ≡ (isFirst (get_or s 0 0) && every is_name_byte s && leb (length s) 16)
unfolding is_word every
word_is isFirst within [] h = absurd (omega arith)
word_is isFirst within (b ∷ bs) h = by_truth (λ (c : Bool). (c && every is_name_byte bs && leb (length bs) 15) ≡ (c && every is_name_byte (b ∷ bs) && leb (suc (length bs)) 16)) (isFirst b) (λ e. rw (within b e, leb-suc-suc (length bs) 15)) (λ _. refl)

pub read_empty : (s : Bytes) → length s ≡ 0 → WordRead s Neither
read_empty s h = neither (word_none is_lower s h) (word_none is_upper s h)

module _ (s : Bytes) (any : length s ≡ 0 → ⊥) where
  name_is : is_name s ≡ (is_lower (get_or s 0 0) && every is_name_byte s && leb (length s) 16)
  name_is = word_is is_lower lower_in_name s (omega arith)

  variable_is : is_variable s ≡ (is_upper (get_or s 0 0) && every is_name_byte s && leb (length s) 16)
  variable_is = word_is is_upper upper_in_name s (omega arith)

  pub read_long : 16 < length s → WordRead s Neither
  read_long h =
      let long : leb (length s) 16 ≡ false = gt-leb (length s) 16 h in
      neither (name_is ∙ simp (long, and-false)) (variable_is ∙ simp (long, and-false))

  pub read_refused : every is_name_byte s ≡ false → WordRead s Neither
  read_refused h = neither (name_is ∙ simp (h, and-false)) (variable_is ∙ simp (h, and-false))

  module _ (fine : every is_name_byte s ≡ true) (short : length s ≤ 16) (w : Words) (words : words_of s ≡ w) where
    pub read_lower : is_lower (get_or s 0 0) ≡ true → WordRead s (Name w)
    read_lower h = subst (λ (x : Words). WordRead s (Name x)) words (name (name_is ∙ simp (h, fine, le-leb (length s) 16 short)))

    pub read_upper : is_upper (get_or s 0 0) ≡ true → WordRead s (Variable w)
    read_upper h = subst (λ (x : Words). WordRead s (Variable x)) words (variable (variable_is ∙ simp (h, fine, le-leb (length s) 16 short)))

  pub read_neither : is_lower (get_or s 0 0) ≡ false → is_upper (get_or s 0 0) ≡ false → WordRead s Neither
  read_neither h k = neither (name_is ∙ rw h) (variable_is ∙ rw k)
