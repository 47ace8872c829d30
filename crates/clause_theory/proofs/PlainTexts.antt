-- Clauses that are spelled as those of the subset can be written: their tokens with a space before each but `(`, and a line end
-- after each stop.
use mathlib.Core.Path.{◌≡◌, refl, sym, ap, subst}
use mathlib.Core.Logic.{inl, inr}
use mathlib.Core.Bool.{Bool, true, false, ◌||◌}
use mathlib.Core.List.Memᴰ
use mathlib.Core.List.{List, [], ◌∷◌, ◌++◌, flat_map, append_assoc, head-eq_of_cons-eq}
use Prim.Native.Nat.{ℕ, ◌+◌}
use lib.Dec.{eqb}
use lib.ListN.{length}
use Rattle.groundwork.proofs.Truth.{by_truth, never_both, and_left, and_right, and_both}
use Rattle.theory.specs.Lists.{every}
use Rattle.theory.specs.Text.{Bytes, bytes, is_lower, is_upper, is_name_byte}
use Rattle.theory.specs.Terms.{Term, Terms, symbol, nil, cons}
use Rattle.theory.specs.Terms as T
use Rattle.theory.specs.Packs.{Atom}
use Rattle.clause_theory.specs.ClauseTokens.{Mark, name, variable, opens, closes, comma, neck, stop, stray, Token, token, is_layout}
use Rattle.clause_theory.specs.Cutting.{Layout, starts_with, is_run, Piece, a_run, two_bytes, one_byte, Known, a_name, a_variable, the_lone, an_opening, a_closing, a_comma, a_neck, a_stop, known, CutFrom, nothing_left, layout_first, token_first}
use Rattle.clause_theory.specs.Clauses.{Clause, term_marks, argument_marks, later_marks, atom_marks, body_marks, clause_marks}
use Rattle.clause_theory.specs.Import.{is_lone}
use Rattle.clause_theory.specs.Imported.{marks, Writes}
use Rattle.clause_theory.proofs.Cutting.{layout_is, lower_named, upper_named}
use Rattle.theory.proofs.Reading.Bytes.{same_equal}
use Rattle.clause_theory.proofs.SpelledMarks.{is_spelled, AllSpelled}

pub plain : List Mark → Bytes
plain [] = []
plain (name f ∷ ms) = 32 ∷ (f ++ plain ms)
plain (variable x ∷ ms) = 32 ∷ (x ++ plain ms)
plain (opens ∷ ms) = 40 ∷ plain ms
plain (closes ∷ ms) = 32 ∷ 41 ∷ plain ms
plain (comma ∷ ms) = 32 ∷ 44 ∷ plain ms
plain (neck ∷ ms) = 32 ∷ 58 ∷ 45 ∷ plain ms
plain (stop ∷ ms) = 32 ∷ 46 ∷ 10 ∷ plain ms
plain (stray s ∷ ms) = 32 ∷ 33 ∷ plain ms

-- no run goes on into it
plain_parted : (ms : List Mark) → starts_with is_name_byte (plain ms) ≡ false
unfolding plain starts_with is_name_byte
plain_parted [] = refl
plain_parted (name f ∷ ms) = refl
plain_parted (variable x ∷ ms) = refl
plain_parted (opens ∷ ms) = refl
plain_parted (closes ∷ ms) = refl
plain_parted (comma ∷ ms) = refl
plain_parted (neck ∷ ms) = refl
plain_parted (stop ∷ ms) = refl
plain_parted (stray s ∷ ms) = refl

-- a text is cut into tokens with these marks
record CutAs (apart : Bool) (place : ℕ) (text : Bytes) (ms : List Mark) : Type 0 where
  tokens : List Token
  cut : CutFrom apart place text tokens
  are : marks tokens ≡ ms

-- the plain text can stand right after a token; and after layout too
record After (ms : List Mark) : Type 0 where
  cut : AllSpelled ms → (place : ℕ) → CutAs false place (plain ms) ms

record Follows (ms : List Mark) : Type 0 where
  cut : AllSpelled ms → (apart : Bool) (place : ℕ) → CutAs apart place (plain ms) ms

tight : {ms : List Mark} → Follows ms → After ms
tight f = record { cut = λ spelled place. f.cut spelled false place }

-- ---- one token more

layout_before : {b : ℕ} {text : Bytes} {ms : List Mark} → Layout b → (apart : Bool) (place : ℕ) → CutAs true (place + 1) text ms → CutAs apart place (b ∷ text) ms
layout_before layout apart place c = record { tokens = c.tokens; cut = layout_first layout c.cut; are = c.are }

token_before : {apart : Bool} {s text : Bytes} {m : Mark} {ms : List Mark} → Piece s text → Known apart s text m → (place : ℕ) → CutAs false (place + length s) text ms → CutAs apart place (s ++ text) (m ∷ ms)
token_before {m = m} piece is place c = record { tokens = token m place ∷ c.tokens; cut = token_first piece (known is) c.cut; are = ap (λ (ns : List Mark). m ∷ ns) c.are }

run_named : (isFirst : ℕ → Bool) → ((b : ℕ) → isFirst b ≡ true → is_name_byte b ≡ true) → (s : Bytes) → is_run isFirst s ≡ true → is_run is_name_byte s ≡ true
unfolding is_run
run_named isFirst within [] e = never_both e refl
run_named isFirst within (b ∷ s) e = and_both (is_name_byte b) (every is_name_byte s) (within b (and_left (isFirst b) (every is_name_byte s) e)) (and_right (isFirst b) (every is_name_byte s) e)

-- one byte that is no layout, no byte of a name and no colon
byte_piece : (b : ℕ) (text : Bytes) → is_name_byte b ≡ false → is_layout b ≡ false → eqb b 58 ≡ false → Piece (b ∷ []) text
unfolding bytes
byte_piece b text other solid short = one_byte b refl other (λ layout. never_both (layout_is b layout) solid) (λ rest is. never_both (ap (λ (c : ℕ). eqb c 58) (head-eq_of_cons-eq is)) short)

module _ {ms : List Mark} where
  first : {m : Mark} → AllSpelled (m ∷ ms) → is_spelled m ≡ true
  first {m} spelled = spelled m (Memᴰ.head refl)

  later : {m : Mark} → AllSpelled (m ∷ ms) → AllSpelled ms
  later spelled k n = spelled k (Memᴰ.tail n)

  name_follows : (f : Bytes) → After ms → Follows (name f ∷ ms)
  unfolding plain is_spelled
  name_follows f a = record {
    cut = λ spelled apart place. layout_before (inl refl) apart place
        (token_before (a_run (run_named is_lower lower_named f (first spelled)) (plain_parted ms)) (a_name (first spelled)) (place + 1) (a.cut (later spelled) _));
  }

  variable_follows : (x : Bytes) → After ms → Follows (variable x ∷ ms)
  unfolding plain is_spelled is_run bytes is_name_byte every
  variable_follows x a = record {
    cut = λ spelled apart place. layout_before (inl refl) apart place (at (first spelled) (place + 1) (a.cut (later spelled) _));
  }
    where
      at : (is_run is_upper x || is_lone x) ≡ true → (place : ℕ) → CutAs false (place + length x) (plain ms) ms → CutAs true place (x ++ plain ms) (variable x ∷ ms)
      at spelled place c =
          by_truth (λ b. is_run is_upper x ≡ b → (b || is_lone x) ≡ true → CutAs true place (x ++ plain ms) (variable x ∷ ms)) (is_run is_upper x)
          (λ _ is _. token_before (a_run (run_named is_upper upper_named x is) (plain_parted ms)) (a_variable is) place c)
          (λ _ _ lone. let is = same_equal x (bytes "_") lone in token_before (a_run (ap (is_run is_name_byte) is) (plain_parted ms)) (the_lone is) place c)
          refl spelled

  opens_after : After ms → After (opens ∷ ms)
  unfolding plain bytes is_name_byte is_layout
  opens_after a = record { cut = λ spelled place. token_before (byte_piece 40 (plain ms) refl refl refl) (an_opening refl refl) place (a.cut (later spelled) (place + 1)) }

  closes_follows : After ms → Follows (closes ∷ ms)
  unfolding plain bytes is_name_byte is_layout
  closes_follows a = record { cut = λ spelled apart place. layout_before (inl refl) apart place (token_before (byte_piece 41 (plain ms) refl refl refl) (a_closing refl) (place + 1) (a.cut (later spelled) _)) }

  comma_follows : After ms → Follows (comma ∷ ms)
  unfolding plain bytes is_name_byte is_layout
  comma_follows a = record { cut = λ spelled apart place. layout_before (inl refl) apart place (token_before (byte_piece 44 (plain ms) refl refl refl) (a_comma refl) (place + 1) (a.cut (later spelled) _)) }

  neck_follows : After ms → Follows (neck ∷ ms)
  unfolding plain bytes
  neck_follows a = record { cut = λ spelled apart place. layout_before (inl refl) apart place (token_before (two_bytes refl) (a_neck refl) (place + 1) (a.cut (later spelled) _)) }

  stop_follows : Follows ms → Follows (stop ∷ ms)
  unfolding plain bytes is_name_byte is_layout
  stop_follows f = record {
    cut = λ spelled apart place. layout_before (inl refl) apart place
        (token_before (byte_piece 46 (10 ∷ plain ms) refl refl refl) (a_stop 10 (plain ms) refl refl (inr refl)) (place + 1) (layout_before (inr refl) false _ (f.cut (later spelled) true _)));
  }

-- ---- clauses

-- an argument and those after it
argument_after : (t : Term) (ts : Terms) (ms : List Mark) → (After (later_marks ts ++ ms) → Follows (term_marks t ++ (later_marks ts ++ ms))) → Follows (later_marks ts ++ ms) → After ((term_marks t ++ later_marks ts) ++ ms)
argument_after t ts ms first later = subst After (sym (append_assoc (term_marks t) (later_marks ts) ms)) (tight (first (tight later)))

mutual
  unfolding term_marks

  term_follows : (t : Term) (ms : List Mark) → After ms → Follows (term_marks t ++ ms)
  term_follows (T.variable x) ms after = variable_follows x after
  term_follows (symbol f ts) ms after = name_follows f (arguments_after ts ms after)

  arguments_after : (ts : Terms) (ms : List Mark) → After ms → After (argument_marks ts ++ ms)
  arguments_after nil ms after = after
  arguments_after (cons t ts) ms after = opens_after (argument_after t ts ms (λ here. term_follows t (later_marks ts ++ ms) here) (later_follows ts ms after))

  later_follows : (ts : Terms) (ms : List Mark) → After ms → Follows (later_marks ts ++ ms)
  later_follows nil ms after = closes_follows after
  later_follows (cons t ts) ms after = comma_follows (argument_after t ts ms (λ here. term_follows t (later_marks ts ++ ms) here) (later_follows ts ms after))

body_follows : (before : Mark) → ((ms : List Mark) → After ms → Follows (before ∷ ms)) → (atoms : List Atom) (ms : List Mark) → Follows ms → Follows (body_marks before atoms ++ ms)
unfolding body_marks
body_follows before parts [] ms follows = stop_follows follows
body_follows before parts (a ∷ atoms) ms follows =
    subst Follows (ap (λ (ns : List Mark). before ∷ ns) (sym (append_assoc (atom_marks a) (body_marks comma atoms) ms)))
    (parts _ (tight (term_follows (symbol a.name a.terms) (body_marks comma atoms ++ ms) (tight (body_follows comma (λ ns after. comma_follows after) atoms ms follows)))))

clauses_follow : (clauses : List Clause) → Follows (flat_map clause_marks clauses)
unfolding flat_map clause_marks plain
clauses_follow [] = record { cut = λ spelled apart place. record { tokens = []; cut = nothing_left; are = refl } }
clauses_follow (c ∷ clauses) =
    let rest = flat_map clause_marks clauses in
    let body = body_marks neck c.subgoals in
    subst Follows (sym (append_assoc (atom_marks c.head) body rest))
    (term_follows (symbol c.head.name c.head.terms) (body ++ rest) (tight (body_follows neck (λ ns after. neck_follows after) c.subgoals rest (clauses_follow clauses))))

pub plain_writes : (clauses : List Clause) → AllSpelled (flat_map clause_marks clauses) → Writes (plain (flat_map clause_marks clauses)) clauses
plain_writes clauses spelled = let c = (clauses_follow clauses).cut spelled false 0 in record { tokens = c.tokens; cut = c.cut; are = c.are }
