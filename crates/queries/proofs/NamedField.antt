-- The predicate that a field names with an arity: what `named_by` answers.
use mathlib.Core.Path.{◌≡◌, sym, ◌∙◌, ap, subst}
use mathlib.Core.Bool.{false}
use mathlib.Core.List.{List}
use Prim.Native.Nat.{ℕ}
use Rattle.groundwork.proofs.Truth.{never_both}
use Rattle.theory.specs.Text.{Bytes}
use Rattle.std.specs.Prelude.{Option, Some, None}
use Rattle.words.specs.declared.Word.{Word}
use Rattle.words.specs.declared.Word.TheVariants.{Name, Variable, Neither}
use Rattle.words.specs.declared.Words.{Words}
use Rattle.words.specs.Words.{words_of, WordRead}
use Rattle.words.proofs.WordKinds.{is_name_word, name_told, read_words}
use Rattle.tables.specs.declared.Signature.{Signature}
use Rattle.tables.specs.Tables.{heading, heading_at, FoundAt}
use Rattle.queries.specs.Queries.{Absent, Means}

module _ (field : Bytes) (arity : ℕ) (signatures : List Signature) (known : ℕ) (word : Word) (read : WordRead field word) where
  unnamed : is_name_word word ≡ false → Absent field arity signatures known
  unnamed other = record { nowhere = λ e. never_both (sym (name_told read) ∙ e) other }

  pub means_variable : (words : Words) → word ≡ Variable words → Absent field arity signatures known
  means_variable words is = unnamed (ap is_name_word is)

  pub means_neither : word ≡ Neither → Absent field arity signatures known
  means_neither is = unnamed (ap is_name_word is)

  -- a name, and where it stands with the arity
  module _ (words : Words) (is : word ≡ Name words) where
    stands : (r : Option ℕ) → FoundAt (heading_at signatures) known (heading words arity) r → FoundAt (heading_at signatures) known (heading (words_of field) arity) r
    stands r at = subst (λ (w : Words). FoundAt (heading_at signatures) known (heading w arity) r) (read_words field word words read is) at

    pub means_name : (r : Option ℕ) → FoundAt (heading_at signatures) known (heading words arity) r → Means field arity signatures known r
    means_name (Some place) at = record { is_named = name_told read ∙ ap is_name_word is; at = stands (Some place) at }
    means_name None at = record { nowhere = λ e. stands None at }
