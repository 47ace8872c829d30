-- What the word reader's answer tells: whether the bytes are a name, or a variable.
use mathlib.Core.Path.{◌≡◌, refl}
use mathlib.Core.Bool.{Bool, true, false}
use Prim.Native.Nat.{ℕ}
use native.Mathlib.Omega.{arith}
use Rattle.groundwork.proofs.Truth.{by_truth, never_both}
use Rattle.theory.specs.Text.{Bytes, is_name}
use Rattle.words.specs.declared.Word.{Word}
use Rattle.words.specs.declared.Words.{Words}
use Rattle.words.specs.declared.Word.TheVariants.{Name, Variable, Neither}
use Rattle.words.specs.Words.{words_of, WordRead, name, variable, neither}
use Rattle.words.proofs.WordLaws.{name_not_variable}

abbrev pub is_name_word : Word → Bool
is_name_word (Name words) = true
is_name_word (Variable words) = false
is_name_word Neither = false

pub name_told : {s : Bytes} {r : Word} → WordRead s r → is_name s ≡ is_name_word r
name_told (name h) = h
name_told {s} (variable h) = by_truth (λ (c : Bool). c ≡ false) (is_name s) (λ k. never_both h (name_not_variable s k)) (λ _. refl)
name_told (neither h k) = h

-- the words of a name
pub read_words : (bs : Bytes) (r : Word) (words : Words) → WordRead bs r → r ≡ Name words → words ≡ words_of bs
read_words bs r words (name h) e = cc
read_words bs r words (variable h) e = let never : ◌≡◌ {A = ℕ} 0 1 = cc in absurd (omega arith)
read_words bs r words (neither h k) e = let never : ◌≡◌ {A = ℕ} 0 1 = cc in absurd (omega arith)
