-- Names, numbers, lines, fields, look-up and the order of variables, in words. Proves TextPromised of specs/TextTold.
use mathlib.Core.Path.{◌≡◌, refl, sym, ◌∙◌, ap, ap₂, subst}
use mathlib.Core.Bool.{Bool, true, cond, not, ◌&&◌, ◌||◌, false≢true}
use mathlib.Core.List.Memᴰ
use mathlib.Core.List.{List, [], ◌∷◌, ◌++◌, flat_map}
use Prim.Native.Nat.{ℕ}
use lib.Dec.{eqb, leb}
use lib.ListN.{length}
use Rattle.groundwork.proofs.Truth.{by_truth, never_both, and_left, and_right, and_both, or_left, or_right, eqb-equal, equal-eqb, leb-le, le-leb}
use Rattle.groundwork.proofs.Lists.{member_unempty}
use Rattle.theory.specs.Lists.{◌∈◌, every, passing}
use Rattle.theory.specs.Text.{Bytes, between, is_lower, is_upper, is_digit, is_name_byte, is_word, is_variable, value_after, decimal, signed_decimal}
use Rattle.theory.specs.Terms.{Term, variable, symbol, Terms, nil, cons, arity, symbol_token, tokens, all_tokens, WellFormed, AllWellFormed, variables, all_variables}
use Rattle.theory.specs.Packs.{Atom, Key, key, claim_key, claims_on, text_of}
use Rattle.theory.specs.Residuals.{atoms_variables}
use Rattle.theory.specs.Check.{is_finished}
use Rattle.theory.specs.ReplyTold.{NoLineEnds, HasLines, ended, unended}
use Rattle.theory.specs.TextTold.{NameByte, small, large, digit, underscore, Word, WordTold, DecimalTold, NumberTold, TextCut, LineCut, KeyTold, ClaimsTold, TextPromised}
use Rattle.theory.proofs.Reading.Bytes.{between_from, between_low, between_high}
use Rattle.theory.proofs.Reading.Every.{every_member, members_every}
use Rattle.theory.proofs.Reading.Separators.{parts_cons, parts_free, joined_of_parts, text_of_lines, finished_text}
use Rattle.theory.proofs.Reading.Decimals.{decimal_digits, decimal_formed, value_of_decimal, decimal_zero, decimal_one, decimal_of_value}
use Rattle.theory.proofs.Reading.Digits.{decimal_last}
use Rattle.theory.proofs.Reading.Spelling.{or_cases, natural_of_decimal, decimal_of_natural, natural_within, integer_of_signed, signed_of_integer, integer_within}
use Rattle.theory.proofs.Reading.Tokens.{symbol_no_variable}
use Rattle.theory.proofs.Judging.Keys.{same_key_equal, same_key_here, declared_member, declared_none, on_member, member_on}
use Rattle.theory.proofs.Judging.ClaimsOn.{claims_on_kept, claims_on_append}
use Rattle.theory.proofs.Judging.RuleCounts.{multiplier_lines_total}
use Rattle.theory.proofs.Replying.LinesTold.{lines_told}

-- ---- names and variables

name_byte : (b : ℕ) → is_name_byte b ≡ true → NameByte b
unfolding is_name_byte
name_byte b e = or_cases (is_lower b || is_upper b || is_digit b) (eqb b 95) e letter_or_digit (λ is. underscore (eqb-equal b 95 is))
  where
    letter : (is_lower b || is_upper b) ≡ true → NameByte b
    letter h = or_cases (is_lower b) (is_upper b) h (λ t. small (between_low 97 122 b t) (between_high 97 122 b t)) (λ t. large (between_low 65 90 b t) (between_high 65 90 b t))

    letter_or_digit : (is_lower b || is_upper b || is_digit b) ≡ true → NameByte b
    letter_or_digit h = or_cases (is_lower b || is_upper b) (is_digit b) h letter (λ t. digit (between_low 48 57 b t) (between_high 48 57 b t))

is_name_byte_lem : (b : ℕ) → NameByte b → is_name_byte b ≡ true
unfolding is_name_byte
is_name_byte_lem b (small h k) = or_left (is_lower b || is_upper b || is_digit b) (eqb b 95) (or_left (is_lower b || is_upper b) (is_digit b) (or_left (is_lower b) (is_upper b) (between_from 97 122 b h k)))
is_name_byte_lem b (large h k) = or_left (is_lower b || is_upper b || is_digit b) (eqb b 95) (or_left (is_lower b || is_upper b) (is_digit b) (or_right (is_lower b) (is_upper b) (between_from 65 90 b h k)))
is_name_byte_lem b (digit h k) = or_left (is_lower b || is_upper b || is_digit b) (eqb b 95) (or_right (is_lower b || is_upper b) (is_digit b) (between_from 48 57 b h k))
is_name_byte_lem b (underscore is) = or_right (is_lower b || is_upper b || is_digit b) (eqb b 95) (equal-eqb b 95 is)

module _ (low high : ℕ) where
  word_of : (bs : Bytes) → is_word (between low high) bs ≡ true → Word low high bs
  unfolding is_word
  word_of [] e = absurd (false≢true e)
  word_of (b ∷ bs) e =
      let both : (between low high b && every is_name_byte bs) ≡ true = and_left (between low high b && every is_name_byte bs) (leb (length bs) 15) e in
      let first : between low high b ≡ true = and_left (between low high b) (every is_name_byte bs) both in
      record {
        first = b;
        rest = bs;
        are = refl;
        least = between_low low high b first;
        most = between_high low high b first;
        few = leb-le (length bs) 15 (and_right (between low high b && every is_name_byte bs) (leb (length bs) 15) e);
        each = λ c m. name_byte c (every_member is_name_byte (and_right (between low high b) (every is_name_byte bs) both) m);
      }

  of_word : (bs : Bytes) → Word low high bs → is_word (between low high) bs ≡ true
  unfolding is_word
  of_word bs w =
      subst (λ (k : Bytes). is_word (between low high) k ≡ true) (sym w.are)
      (and_both (between low high w.first && every is_name_byte w.rest) (leb (length w.rest) 15)
      (and_both (between low high w.first) (every is_name_byte w.rest) (between_from low high w.first w.least w.most) (members_every is_name_byte w.rest λ b m. is_name_byte_lem b (w.each b m)))
      (le-leb (length w.rest) 15 w.few))

word_told : (bs : Bytes) → WordTold bs
word_told bs = record { name = (word_of 97 122 bs, of_word 97 122 bs); variable = (word_of 65 90 bs, of_word 65 90 bs) }

-- ---- numbers

decimal_told : (n : ℕ) → DecimalTold n
unfolding signed_decimal
decimal_told n = record {
  one = decimal_one n;
  more = decimal_last n;
  digits = λ b m. let h : is_digit b ≡ true = every_member is_digit (decimal_digits (decimal n) (decimal_formed n)) m in (between_low 48 57 b h, between_high 48 57 b h);
  value = value_of_decimal n;
  no_leading_zero = decimal_zero n;
  unsigned = refl;
  signed = refl;
}

number_told : (bs : Bytes) → NumberTold bs
number_told bs = record {
  decimals = (λ h. (value_after 0 bs, sym (decimal_of_value bs h)), λ w. rw w.1 (decimal_formed w.0));
  unsigned = λ limit n. (λ e. (decimal_of_natural limit bs n e, natural_within limit bs n e), λ w. rw w.0 (natural_of_decimal limit n w.1));
  signed = λ limit z. (λ e. (signed_of_integer limit bs z e, integer_within limit bs z e), λ w. rw w.0 (integer_of_signed limit z w.1));
}

-- ---- lines and fields

last_byte_lem : (text : Bytes) → is_finished text ≡ true → (front : Bytes) × (text ≡ front ++ (10 ∷ []))
unfolding is_finished
last_byte_lem [] e = absurd (false≢true e)
last_byte_lem (b ∷ []) e = ([], ap (λ (c : ℕ). c ∷ []) (eqb-equal b 10 e))
last_byte_lem (b ∷ c ∷ bs) e = let (front, is) = last_byte_lem (c ∷ bs) e in (b ∷ front, ap (λ (k : Bytes). b ∷ k) is)

ended_by : (front : Bytes) → is_finished (front ++ (10 ∷ [])) ≡ true
unfolding text_of
ended_by front = finished_text front []

no_line_ends : {bs : Bytes} {ls : List Bytes} → HasLines bs ls → NoLineEnds ls
no_line_ends (ended ls without) = without
no_line_ends (unended ls b l without) = without

text_cut : (text : Bytes) → TextCut text
text_cut text = record {
  finished = (last_byte_lem text, λ w. rw w.1 (ended_by w.0));
  together = text_of_lines text;
  no_line_end = no_line_ends (lines_told text);
}

line_cut : (l : Bytes) → LineCut l
line_cut l = record {
  together = joined_of_parts 44 l;
  no_comma = λ field m has. never_both (every_member (λ (b : ℕ). not (eqb b 44)) (parts_free 44 l field m) has) refl;
  not_none = λ none. let (first, rest, is) = parts_cons 44 l in member_unempty (subst (λ (parts : List Bytes). first ∈ parts) (sym is) (Memᴰ.head refl)) none;
}

-- ---- keys

key_told : (k : Key) → KeyTold k
key_told k = record {
  agree = λ l. (λ e. let is = same_key_equal k l e in (ap (λ (m : Key). m.name) is, ap (λ (m : Key). m.arity) is), λ w. same_key_here k l (ap₂ key (sym w.0) (sym w.1)));
  found = λ ps x e. let (m, is) = declared_member k ps x e in (m, sym is);
  missing = declared_none k;
}

claims_told : (k : Key) → ClaimsTold k
unfolding claims_on
claims_told k = record {
  members = λ cs c. (λ m. let (listed, is) = on_member k cs c m in (listed, sym is), λ w. member_on k cs c w.0 w.1);
  once = λ c here. claims_on_kept k c [] (same_key_here k (claim_key c) here);
  ordered = claims_on_append k;
}

-- ---- variables

passing_append : {A : Type 0} (test : A → Bool) (l k : List A) → passing test (l ++ k) ≡ passing test l ++ passing test k
unfolding passing
passing_append test [] k = refl
passing_append {A} test (a ∷ l) k =
    by_truth (λ (b : Bool). cond b (a ∷ passing test (l ++ k)) (passing test (l ++ k)) ≡ cond b (a ∷ passing test l) (passing test l) ++ passing test k) (test a)
    (λ e. ap (λ (m : List A). a ∷ m) (passing_append test l k)) (λ e. passing_append test l k)

mutual
  unfolding variables tokens passing

  variables_passing : (t : Term) → WellFormed t → variables t ≡ passing is_variable (tokens t)
  variables_passing (variable x) h = sym (ap (λ (b : Bool). cond b (x ∷ []) []) h)
  variables_passing (symbol f ts) h =
      all_passing ts h.2 ∙ sym (ap (λ (b : Bool). cond b (symbol_token f (arity ts) ∷ passing is_variable (all_tokens ts)) (passing is_variable (all_tokens ts))) (symbol_no_variable f (arity ts)))

  all_passing : (ts : Terms) → AllWellFormed ts → all_variables ts ≡ passing is_variable (all_tokens ts)
  all_passing nil h = refl
  all_passing (cons t ts) h = ap₂ ◌++◌ (variables_passing t h.0) (all_passing ts h.1) ∙ sym (passing_append is_variable (tokens t) (all_tokens ts))

atoms_after_atoms : (atoms : List Atom) → atoms_variables atoms ≡ flat_map (λ (a : Atom). all_variables a.terms) atoms
unfolding atoms_variables flat_map
atoms_after_atoms [] = refl
atoms_after_atoms (a ∷ atoms) = ap (λ (xs : List Bytes). all_variables a.terms ++ xs) (atoms_after_atoms atoms)

-- ---- all of it

pub text_promised : TextPromised
text_promised = record {
  words = word_told;
  decimals = decimal_told;
  numbers = number_told;
  texts = text_cut;
  lines = line_cut;
  keys = key_told;
  claims = claims_told;
  variables = record { term = variables_passing; terms = all_passing; atoms = atoms_after_atoms };
  counts = multiplier_lines_total;
}
