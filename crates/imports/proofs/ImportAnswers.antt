-- What `import` answers and leaves of the buffer.
use mathlib.Core.Path.{◌≡◌, sym, ◌∙◌, ap}
use mathlib.Core.List.{[]}
use lib.ListN.{length}
use Rattle.theory.specs.Lists.{over}
use Rattle.theory.specs.Text.{Bytes}
use Rattle.theory.specs.Check.{Numbers}
use Rattle.clause_theory.specs.ClauseTokens.{tokens_of}
use Rattle.clause_theory.specs.Clauses.{begin}
use Rattle.clause_theory.specs.Import.{import_from, import_of}
use Rattle.clause_theory.specs.Importations.{import_numbers}
use native.Mathlib.Omega.{arith}
use Rattle.std.specs.Prelude.{Result, Err}
use Rattle.clause_theory.specs.declared.ImportRefusal.TheVariants.{NoClauses, OverLimit, ShortBuffer}
use Rattle.clause_theory.specs.declared.Imported.{Imported}
use Rattle.clause_theory.specs.declared.ImportRefusal.{ImportRefusal}
use Rattle.clause_theory.proofs.ImportKept.{import_kept}

module _ (text buffer : Bytes) {judged : Result Imported ImportRefusal} (is : import_numbers judged ≡ (import_from (length text) (length buffer) 0 [] begin (tokens_of text)).returned) {a : Result Imported ImportRefusal} (same : judged ≡ a) where
  answer_is : import_numbers a ≡ (import_of text buffer).returned
  unfolding import_of
  answer_is = ap import_numbers (sym same) ∙ is

  pub import_succeeds : (import_numbers a).number ≡ 0 → (import_from (length text) (length buffer) 0 [] begin (tokens_of text)).returned.number ≡ 0
  unfolding import_of
  import_succeeds zero = ap (λ (n : Numbers). n.number) (sym answer_is) ∙ zero

  pub import_written : {after : Bytes} → after ≡ over (import_from (length text) (length buffer) 0 [] begin (tokens_of text)).text buffer
      → (import_numbers a ≡ (import_of text buffer).returned) × (after ≡ (import_of text buffer).page)
  unfolding import_of
  import_written written = (answer_is, written)

module _ (text buffer : Bytes) {judged : Result Imported ImportRefusal} (is : import_numbers judged ≡ (import_from (length text) (length buffer) 0 [] begin (tokens_of text)).returned) {f : ImportRefusal} (refused : judged ≡ Err f) where
  pub import_refused : (import_numbers (Err f) ≡ (import_of text buffer).returned) × (buffer ≡ (import_of text buffer).page)
  import_refused =
      let told = answer_is text buffer is refused in
      (told, sym ((import_kept text buffer).unchanged (λ zero. some_number f (ap (λ (n : Numbers). n.number) told ∙ zero))))
    where
      some_number : (f : ImportRefusal) → (import_numbers (Err f)).number ≡ 0 → ⊥
      some_number (NoClauses place) e = omega arith
      some_number (OverLimit clause) e = omega arith
      some_number (ShortBuffer clause) e = omega arith
