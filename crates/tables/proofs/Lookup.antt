-- The predicate that a name means with an arity: the place of both in the tables is that of the predicate under the key.
use mathlib.Core.Path.{◌≡◌, refl, sym, ◌∙◌, ap, ap₂}
use mathlib.Core.Bool.{true, cond}
use mathlib.Core.List.{List, [], ◌∷◌}
use mathlib.Core.Option.{Option, some, none, none-ne-some}
use Prim.Native.Nat.{ℕ, zero, suc, ◌≤◌, ◌<◌}
use native.Mathlib.Omega.{arith}
use lib.ListN.{length}
use Rattle.std.specs.Prelude.{Some, None}
use Rattle.groundwork.proofs.Truth.{by_truth}
use Rattle.theory.specs.Text.{Bytes, is_name}
use Rattle.theory.specs.Packs.{Predicate, Key, key, same_key, key_of, declared_as}
use Rattle.theory.specs.Faults.{key_with, declared_for}
use Rattle.theory.proofs.Judging.Keys.{same_key_other, same_key_here}
use Rattle.theory.proofs.Reading.Spelling.{name_bytes}
use Rattle.words.specs.declared.Words.{Words}
use Rattle.words.specs.Words.{words_of}
use Rattle.words.proofs.WordLaws.{words_equal}
use Rattle.tables.specs.declared.Signature.{Signature}
use Rattle.tables.specs.Tables.{SafeSignatures, predicate_at, signature_at, Heading, heading, heading_at, FoundFor, Declares}

-- ---- the first predicate of a key

declared_first : (k : Key) (ps : List Predicate) (i : ℕ) → i < length ps → ((j : ℕ) → j < i → key_of (predicate_at ps j) ≡ k → ⊥) → key_of (predicate_at ps i) ≡ k
    → declared_as k ps ≡ some (predicate_at ps i)
unfolding declared_as
declared_first k [] i below before here = absurd (omega arith)
declared_first k (p ∷ ps) zero below before here = rw (same_key_here k (key_of p) here)
declared_first k (p ∷ ps) (suc i) below before here =
    rw (same_key_other k (key_of p) (before zero (omega arith))) (declared_first k ps i (omega arith) (λ j h. before (suc j) (omega arith)) here)

declared_none : (k : Key) (ps : List Predicate) → ((j : ℕ) → j < length ps → key_of (predicate_at ps j) ≡ k → ⊥) → declared_as k ps ≡ none
unfolding declared_as
declared_none k [] others = refl
declared_none k (p ∷ ps) others = rw (same_key_other k (key_of p) (others zero (omega arith))) (declared_none k ps (λ j h. others (suc j) (omega arith)))

-- where no predicate is declared under a key, none has it
pub undeclared : (k : Key) (ps : List Predicate) → declared_as k ps ≡ none → (i : ℕ) → i < length ps → key_of (predicate_at ps i) ≡ k → ⊥
unfolding declared_as
undeclared k [] e i h is = absurd (omega arith)
undeclared k (p ∷ ps) e zero h is = none-ne-some p (sym (rw (same_key_here k (key_of p) is) at e))
undeclared k (p ∷ ps) e (suc i) h is =
    by_truth (λ t. cond t (some p) (declared_as k ps) ≡ none → ⊥) (same_key k (key_of p)) (λ here q. none-ne-some p (sym q)) (λ other q. undeclared k ps q i (omega arith) is) e

-- ---- names by their words

some_never_none : {r : ℕ} → Some r ≡ None → ⊥
some_never_none e = cc

-- what is found has the arity that the line gives
pub place_arity : (signatures : List Signature) {known : ℕ} → SafeSignatures signatures → known ≤ 32 → (words : Words) (o : Option ℕ) (r : ℕ) → FoundFor signatures known words o (Some r)
    → (n : ℕ) × (o ≡ some n) × (n ≤ 8) × ((signature_at signatures r).arity ≡ n)
place_arity signatures safe few words none r e = absurd (some_never_none e)
place_arity signatures safe few words (some n) r (below, is) =
    let read : (signature_at signatures r).arity ≡ n = ap (λ (h : Heading). h.arity) is in
    (n, refl, omega (arith, safe.arity r (omega arith)), read)

-- and it is among the first
pub place_below : (signatures : List Signature) {known : ℕ} (words : Words) (o : Option ℕ) (r : ℕ) → FoundFor signatures known words o (Some r) → r < known
place_below signatures words none r e = absurd (some_never_none e)
place_below signatures words (some n) r found = found.0

module _ {signatures : List Signature} {known : ℕ} {ps : List Predicate} (d : Declares signatures known ps) (name : Bytes) (is_named : is_name name ≡ true) where
  -- the words of a name with an arity are those of a key
  heading_key : (i n : ℕ) → i < known → heading_at signatures i ≡ heading (words_of name) n → key_of (predicate_at ps i) ≡ key name n
  heading_key i n h is =
      let words = ap (λ (x : Heading). x.words) is in
      let arity = ap (λ (x : Heading). x.arity) is in
      ap₂ key (words_equal (predicate_at ps i).name name (name_bytes _ (d.named i h)) (name_bytes name is_named) (sym (d.words i h) ∙ words)) (sym (d.arity i h) ∙ arity)

  key_heading : (i n : ℕ) → i < known → key_of (predicate_at ps i) ≡ key name n → heading_at signatures i ≡ heading (words_of name) n
  key_heading i n h is = ap₂ heading (d.words i h ∙ ap (λ (k : Key). words_of k.name) is) (d.arity i h ∙ ap (λ (k : Key). k.arity) is)

  -- what is found by a name with an arity that there may be
  pub key_declared : (o : Option ℕ) (r : ℕ) → FoundFor signatures known (words_of name) o (Some r) → declared_for (key_with name o) ps ≡ some (predicate_at ps r)
  unfolding declared_for
  key_declared none r e = absurd (some_never_none e)
  key_declared (some n) r (h, is) =
      let here = heading_key r n h is in
      declared_first (key name n) ps r (omega (arith, d.count)) (λ j below e. let same = d.distinct j r (omega arith) h (e ∙ sym here) in omega arith) here

  pub key_absent : (o : Option ℕ) → FoundFor signatures known (words_of name) o None → declared_for (key_with name o) ps ≡ none
  unfolding declared_for
  key_absent none e = refl
  key_absent (some n) nowhere = declared_none (key name n) ps (λ j below e. let low : j < known = omega (arith, d.count) in nowhere j low (key_heading j n low e))
