-- Fresh numbers: the words of a numbered variable, and the lowest number whose variable a table does not hold.
use mathlib.Core.Path.{◌≡◌, refl, sym, ◌∙◌, ap, subst}
use mathlib.Core.Bool.{true, false, ◌&&◌, ◌||◌}
use mathlib.Core.List.{List, [], ◌∷◌, ◌++◌}
use Prim.Native.Nat.{ℕ, ◌+◌, ◌-◌, ◌*◌, ◌/◌, ◌%◌, ◌≤◌, ◌<◌}
use native.Mathlib.Decide.{dec_lt}
use native.Mathlib.Omega.{arith}
use lib.Dec.{eqb, leb}
use lib.ListN.{length}
use Rattle.groundwork.proofs.Truth.{and_both, or_left, or_right, le-leb}
use Rattle.theory.specs.Lists.{every}
use Rattle.theory.specs.Text.{Bytes, among, is_lower, is_upper, is_digit, is_name_byte, is_word, is_variable, decimal}
use Rattle.theory.specs.Residuals.{numbered}
use Rattle.clause_theory.specs.Clauses.{Clause}
use Rattle.clause_theory.specs.Import.{clause_variables, numbered_variable}
use Rattle.clause_theory.proofs.FilledVariables.{named}
use Rattle.clause_theory.proofs.FreshNumbering.{among_numbered_named}
use Rattle.clause_theory.proofs.FreshVariables.{numbers_few}
use Rattle.theory.proofs.Reading.Digits.{digits_few}
use Rattle.theory.proofs.Reading.Decimals.{decimal_digits, decimal_formed, decimal_one, decimal_more}
use Rattle.theory.proofs.Reading.Every.{every_within}
use Rattle.text.specs.ByteNumbers.{number}
use Rattle.words.specs.Words.{words_of, words_at, StandsAt}
use Rattle.words.specs.declared.Words.{Words}
use Rattle.terms.specs.Rows.{Holds}
use Rattle.terms.proofs.Numbering.{place_among}
use Rattle.terms.proofs.VariableTable.{found_is, not_found}
use Rattle.clause_variables.specs.declared.Variables.{Variables}
use Rattle.clause_variables.specs.Variables.{Gathered}
use Rattle.clause_variables.specs.FreshNumbers.{Tabled, NextFree}

-- ---- the words of `V` and a number

module _ (n : ℕ) where
  two_digits_lem : 10 ≤ n → n < 100 → decimal n ≡ (48 + n / 10) ∷ (48 + n % 10) ∷ []
  two_digits_lem low high =
      let parts : n ≡ n / 10 * 10 + n % 10 = omega arith in
      ap decimal parts
      ∙ decimal_more (n / 10) (n % 10) (omega arith) (omega arith)
      ∙ ap (λ (ds : Bytes). ds ++ ((48 + n % 10) ∷ [])) (decimal_one (n / 10) (omega arith))

  pub words_one : n < 10 → record { first = 86 + (48 + n) * 256; second = 0 } ≡ words_of (numbered_variable n)
  unfolding words_of numbered_variable number
  words_one low =
      let first : 86 + (48 + n) * 256 ≡ number (86 ∷ (48 + n) ∷ []) = omega arith in
      ap (λ (f : ℕ). record { first = f; second = 0 }) first ∙ ap (λ (ds : Bytes). words_of (86 ∷ ds)) (sym (decimal_one n low))

  pub words_two : 10 ≤ n → n < 100 → record { first = 86 + (48 + n / 10) * 256 + (48 + n % 10) * 65536; second = 0 } ≡ words_of (numbered_variable n)
  unfolding words_of numbered_variable number
  words_two low high =
      let first : 86 + (48 + n / 10) * 256 + (48 + n % 10) * 65536 ≡ number (86 ∷ (48 + n / 10) ∷ (48 + n % 10) ∷ []) = omega arith in
      ap (λ (f : ℕ). record { first = f; second = 0 }) first ∙ ap (λ (ds : Bytes). words_of (86 ∷ ds)) (sym (two_digits_lem low high))

-- ---- it is a variable

digit_in_name : (b : ℕ) → is_digit b ≡ true → is_name_byte b ≡ true
unfolding is_name_byte
digit_in_name b h = or_left ((is_lower b || is_upper b) || is_digit b) (eqb b 95) (or_right (is_lower b || is_upper b) (is_digit b) h)

module _ (n : ℕ) (high : n < 100) where
  pub numbered_variable_lem : is_variable (numbered_variable n) ≡ true
  unfolding numbered_variable is_word
  numbered_variable_lem =
      and_both (is_upper 86 && every is_name_byte (decimal n)) (leb (length (decimal n)) 15)
      (and_both (is_upper 86) (every is_name_byte (decimal n)) refl (every_within is_digit is_name_byte digit_in_name (decimal n) (decimal_digits (decimal n) (decimal_formed n))))
      (le-leb (length (decimal n)) 15 (omega (arith, digits_few 1 n high)))

-- ---- one number after another

module _ (names : List Words) (named from : ℕ) where
  -- the numbers before this one are taken
  pub record Trying (tried : ℕ) : Type 0 where
    pub low : from ≤ tried
    pub high : tried ≤ from + named
    pub taken : (seen : List Bytes) → Holds names seen → length seen ≡ named → (m : ℕ) → from ≤ m → m < tried → among (numbered_variable m) seen ≡ true

  pub trying_none : Trying from
  trying_none = record { low = omega arith; high = omega arith; taken = λ seen holds size m low below. absurd (omega arith) }

  pub tabled_few : Tabled names named → named ≤ 32
  tabled_few tabled = omega (arith, tabled.holds.few, tabled.size)

  module _ {tried : ℕ} (trying : Trying tried) where
    pub trying_small : from + named < 100 → tried < 100
    trying_small small = omega (arith, trying.high)

    module _ (tabled : Tabled names named) (small : from + named < 100) {words : Words} (told : words ≡ words_of (numbered_variable tried)) {place : ℕ} (stands : StandsAt (words_at names) named words place) where
      stands_seen : (seen : List Bytes) → length seen ≡ named → StandsAt (words_at names) (length seen) (words_of (numbered_variable tried)) place
      stands_seen seen size =
          subst (λ (k : ℕ). StandsAt (words_at names) k (words_of (numbered_variable tried)) place) (sym size) (subst (λ (w : Words). StandsAt (words_at names) named w place) told stands)

      proper : is_variable (numbered_variable tried) ≡ true
      proper = numbered_variable_lem tried (trying_small small)

      one_taken : place < named → (seen : List Bytes) → Holds names seen → length seen ≡ named → (m : ℕ) → from ≤ m → m < tried + 1 → among (numbered_variable m) seen ≡ true
      one_taken inside seen holds size m low below = at (dec_lt m tried)
        where
          within : place < length seen
          within = omega (arith, size)

          at : Dec (m < tried) → among (numbered_variable m) seen ≡ true
          at (yes before) = trying.taken seen holds size m low before
          at (no here) =
              let is : m ≡ tried = omega arith in
              ap (λ (k : ℕ). among (numbered_variable k) seen) is
              ∙ place_among (numbered_variable tried) seen place within (found_is (numbered_variable tried) holds proper place within (stands_seen seen size))

      pub trying_more : place < named → Trying (tried + 1)
      trying_more inside =
          let full = one_taken inside tabled.seen tabled.holds tabled.size in
          record {
            low = omega (arith, trying.low);
            high = omega (arith, numbers_few from (tried + 1) tabled.seen full, tabled.size);
            taken = one_taken inside;
          }

      pub trying_less : place < named → from + named - (tried + 1) < from + named - tried
      trying_less inside = omega (arith, (trying_more inside).high)

      pub trying_done : named ≤ place → NextFree names named from tried
      trying_done past =
          record {
            low = trying.low;
            high = trying.high;
            free = λ seen holds size.
                let all : place ≡ length seen = omega (arith, size, stands.high) in
                not_found (numbered_variable tried) holds proper (subst (StandsAt (words_at names) (length seen) (words_of (numbered_variable tried))) all (stands_seen seen size));
            taken = trying.taken;
          }

-- ---- what follows of a clause

-- the number found is the next fresh one of the clause, as `fresh_next` (theory, FreshNumbering) wants it
pub next_is_fresh : {v : Variables} {number r : ℕ} (c : Clause) → Gathered v (clause_variables c) → NextFree v.names v.named (number + 1) r
    → (number < r) × (among (numbered_variable r) (clause_variables c) ≡ false) × ((m : ℕ) → number < m → m < r → among (numbered_variable m) (clause_variables c) ≡ true)
next_is_fresh {r = r} c g next =
    let seen = numbered [] (named (clause_variables c)) in (
      omega (arith, next.low),
      sym (among_numbered_named r (clause_variables c)) ∙ next.free seen g.holds (sym g.named_is),
      λ m low below. sym (among_numbered_named m (clause_variables c)) ∙ next.taken seen g.holds (sym g.named_is) m (omega arith) below,
    )
