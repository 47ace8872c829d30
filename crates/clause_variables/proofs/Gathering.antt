-- One token more of a clause: what the table holds and how often `_` stands then.
use mathlib.Core.Path.{◌≡◌, refl, sym, ◌∙◌, ap, subst}
use mathlib.Core.Bool.{true, false, cond}
use mathlib.Core.List.Memᴰ
use mathlib.Core.List.{List, [], ◌∷◌, ◌++◌, append_assoc, append-nil}
use Prim.Native.Nat.{ℕ, ◌+◌, ◌≤◌, ◌<◌}
use native.Mathlib.Omega.{arith}
use lib.Dec.{leb}
use lib.ListN.{length, set}
use Rattle.groundwork.proofs.Truth.{by_truth, le-leb, gt-leb}
use Rattle.groundwork.proofs.Lists.{length_end}
use Rattle.theory.specs.Text.{Bytes, bytes, same, among, is_variable}
use Rattle.theory.specs.Packs.{variable_limit}
use Rattle.theory.specs.Residuals.{numbered, rule_variables}
use Rattle.clause_theory.specs.ClauseTokens.{variable}
use Rattle.clause_theory.specs.ClauseTokens as T
use Rattle.clause_theory.specs.Clauses.{Clause}
use Rattle.clause_theory.specs.Import.{clause_variables, is_lone, lones, filled, clause_fits}
use Rattle.clause_theory.proofs.Filling.{mark_variables, lones_append}
use Rattle.clause_theory.proofs.FilledVariables.{named, filled_count}
use Rattle.clause_theory.proofs.VariableLimits.{many_unfit, long_unfit}
use Rattle.words.specs.Words.{words_of, words_at, StandsAt}
use Rattle.words.specs.declared.Words.{Words}
use Rattle.terms.specs.Rows.{Holds}
use Rattle.terms.proofs.Numbering.{place_among, numbered_end_known, numbered_end_new, numbered_grows}
use Rattle.terms.proofs.VariableTable.{found_is, not_found, holds_more}
use Rattle.clause_tokens.specs.NextTokens.{Seen, seen_name, seen_variable, seen_lone, seen_sign, sign_opens, sign_closes, sign_comma, sign_neck, sign_stop, sign_stray}
use Rattle.clause_tokens.specs.declared.Mark.{Mark}
use Rattle.clause_tokens.specs.declared.Mark.TheVariants.{Variable, Lone}
use Rattle.clause_variables.specs.declared.Variables.{Variables}
use Rattle.std.specs.Prelude.{Option, Some, None}
use Rattle.clause_variables.specs.Variables.{Gathered, TooMany, many, long, Known, all_known, over, Named, LoneCounted, Gathers}
use Rattle.clause_variables.specs.FreshNumbers.{Tabled}

-- ---- one variable more

named_append : (xs ys : List Bytes) → named (xs ++ ys) ≡ named xs ++ named ys
unfolding named
named_append [] ys = refl
named_append (x ∷ xs) ys =
    by_truth (λ b. cond b (named (xs ++ ys)) (x ∷ named (xs ++ ys)) ≡ cond b (named xs) (x ∷ named xs) ++ named ys) (is_lone x)
    (λ e. named_append xs ys)
    (λ e. ap (λ (l : List Bytes). x ∷ l) (named_append xs ys))

module _ (xs : List Bytes) (x : Bytes) where
  named_written : is_lone x ≡ false → named (xs ++ (x ∷ [])) ≡ named xs ++ (x ∷ [])
  unfolding named
  named_written written = named_append xs (x ∷ []) ∙ ap (λ (l : List Bytes). named xs ++ l) (ap (λ b. cond b [] (x ∷ [])) written)

  lones_written : is_lone x ≡ false → lones (xs ++ (x ∷ [])) ≡ lones xs
  unfolding lones
  lones_written written =
      let none : lones (x ∷ []) ≡ 0 = ap (λ b. cond b 1 0) written in
      omega (arith, lones_append xs (x ∷ []), none)

  named_lone : is_lone x ≡ true → named (xs ++ (x ∷ [])) ≡ named xs
  unfolding named
  named_lone lone = named_append xs (x ∷ []) ∙ ap (λ (l : List Bytes). named xs ++ l) (ap (λ b. cond b [] (x ∷ [])) lone) ∙ append-nil (named xs)

  lones_lone : is_lone x ≡ true → lones (xs ++ (x ∷ [])) ≡ lones xs + 1
  unfolding lones
  lones_lone lone =
      let one : lones (x ∷ []) ≡ 1 = ap (λ b. cond b 1 0) lone in
      omega (arith, lones_append xs (x ∷ []), one)

module _ {v : Variables} {xs : List Bytes} (g : Gathered v xs) where
  module _ (x : Bytes) (lone : is_lone x ≡ true) where
    lone_more : {few : v.named + (v.lones + 1) ≤ 16} → Gathered (record { names = v.names; named = v.named; lones = v.lones + 1; few = few }) (xs ++ (x ∷ []))
    lone_more =
        record {
          holds = subst (λ (l : List Bytes). Holds v.names (numbered [] l)) (sym (named_lone xs x lone)) g.holds;
          named_is = g.named_is ∙ ap (λ (l : List Bytes). length (numbered [] l)) (sym (named_lone xs x lone));
          lones_is = omega (arith, g.lones_is, lones_lone xs x lone);
        }

    lone_over : 16 ≤ v.named + v.lones → TooMany (xs ++ (x ∷ []))
    lone_over full = many (omega (arith, full, g.named_is, g.lones_is, lones_lone xs x lone, ap (λ (l : List Bytes). length (numbered [] l)) (named_lone xs x lone)))

  module _ (x : Bytes) (written : is_lone x ≡ false) (proper : is_variable x ≡ true) (place : ℕ) (stands : StandsAt (words_at v.names) v.named (words_of x) place) where
    seen : List Bytes
    seen = numbered [] (named xs)

    stands_seen : StandsAt (words_at v.names) (length seen) (words_of x) place
    unfolding seen
    stands_seen = subst (λ (n : ℕ). StandsAt (words_at v.names) n (words_of x) place) g.named_is stands

    known_again : place < v.named → Gathered v (xs ++ (x ∷ []))
    unfolding seen
    known_again inside =
        let within : place < length seen = omega (arith, g.named_is) in
        let here : among x seen ≡ true = place_among x seen place within (found_is x g.holds proper place within stands_seen) in
        let all : numbered [] (named (xs ++ (x ∷ []))) ≡ seen = ap (numbered []) (named_written xs x written) ∙ numbered_end_known [] (named xs) x here in
        record {
          holds = subst (Holds v.names) (sym all) g.holds;
          named_is = g.named_is ∙ ap length (sym all);
          lones_is = g.lones_is ∙ sym (lones_written xs x written);
        }

    new_here : v.named ≤ place → among x seen ≡ false
    unfolding seen
    new_here past =
        let all : place ≡ length seen = omega (arith, g.named_is, stands.high) in
        not_found x g.holds proper (subst (StandsAt (words_at v.names) (length seen) (words_of x)) all stands_seen)

    new_all : v.named ≤ place → numbered [] (named (xs ++ (x ∷ []))) ≡ seen ++ (x ∷ [])
    unfolding seen
    new_all past = ap (numbered []) (named_written xs x written) ∙ numbered_end_new [] (named xs) x (new_here past)

    new_over : v.named ≤ place → 16 ≤ v.named + v.lones → TooMany (xs ++ (x ∷ []))
    unfolding seen
    new_over past full = many (omega (arith, full, g.named_is, g.lones_is, lones_written xs x written, ap length (new_all past), length_end seen x))

    new_more : v.named ≤ place → v.named + v.lones < 16 → {few : v.named + 1 + v.lones ≤ 16}
        → Gathered (record { names = set v.names v.named (words_of x); named = v.named + 1; lones = v.lones; few = few }) (xs ++ (x ∷ []))
    unfolding seen
    new_more past room =
        record {
          holds =
              subst (λ (n : ℕ). Holds (set v.names n (words_of x)) (numbered [] (named (xs ++ (x ∷ []))))) (sym g.named_is)
              (subst (Holds (set v.names (length seen) (words_of x))) (sym (new_all past)) (holds_more x g.holds proper (new_here past) (omega (arith, g.named_is))));
          named_is = omega (arith, g.named_is, ap length (new_all past), length_end seen x);
          lones_is = g.lones_is ∙ sym (lones_written xs x written);
        }

-- ---- tokens

-- a named variable: its own bytes
by_written : {x : Bytes} {m : T.Mark} (P : T.Mark → Type 0) → Seen x Variable m → (is_variable x ≡ leb (length x) 16 → is_lone x ≡ false → P (variable x)) → P m
by_written P (seen_variable proper written) p = p proper written
by_written P (seen_sign s) p = elim s [ ]

by_lone : {x : Bytes} {m : T.Mark} (P : T.Mark → Type 0) → Seen x Lone m → P (variable (bytes "_")) → P m
by_lone P seen_lone p = p
by_lone P (seen_sign s) p = elim s [ ]

module _ (x : Bytes) (v : Variables) where
  pub name_long : 16 < length x → Named x v None v
  name_long far = record { names = λ xs g proper written. over (long x (Memᴰ.append_right xs (Memᴰ.head refl)) written (proper ∙ gt-leb (length x) 16 far)) }

  module _ {words : Words} (told : words ≡ words_of x) (near : length x ≤ 16) {place : ℕ} (stands : StandsAt (words_at v.names) v.named words place) where
    fits : is_variable x ≡ leb (length x) 16 → is_variable x ≡ true
    fits proper = proper ∙ le-leb (length x) 16 near

    x_stands : StandsAt (words_at v.names) v.named (words_of x) place
    x_stands = subst (λ (w : Words). StandsAt (words_at v.names) v.named w place) told stands

    pub name_known : {few : v.named + v.lones ≤ 16} → place < v.named → Named x v (Some tt) (record { names = v.names; named = v.named; lones = v.lones; few = few })
    name_known inside =
        record {
          names = λ xs g proper written.
              let h = known_again g x written (fits proper) place x_stands inside in
              all_known (record { holds = h.holds; named_is = h.named_is; lones_is = h.lones_is });
        }

    pub name_full : {few : v.named + v.lones ≤ 16} → v.named ≤ place → 16 ≤ v.named + v.lones → Named x v None (record { names = v.names; named = v.named; lones = v.lones; few = few })
    name_full past full = record { names = λ xs g proper written. over (new_over g x written (fits proper) place x_stands past full) }

    pub name_new : v.named ≤ place → v.named + v.lones < 16 → {few : v.named + 1 + v.lones ≤ 16}
        → Named x v (Some tt) (record { names = set v.names v.named words; named = v.named + 1; lones = v.lones; few = few })
    name_new past room {few} =
        record {
          names = λ xs g proper written.
              all_known
              (subst (λ (w : Words). Gathered (record { names = set v.names v.named w; named = v.named + 1; lones = v.lones; few = few }) (xs ++ (x ∷ []))) (sym told)
              (new_more g x written (fits proper) place x_stands past room));
        }

line_lone : is_lone (bytes "_") ≡ true
unfolding bytes same
line_lone = refl

module _ {v : Variables} where
  pub lone_full : 16 ≤ v.named + v.lones → LoneCounted v None v
  lone_full full = record { counts = λ xs g. over (lone_over g (bytes "_") line_lone full) }

  pub lone_counted : {few : v.named + (v.lones + 1) ≤ 16} → LoneCounted v (Some tt) (record { names = v.names; named = v.named; lones = v.lones + 1; few = few })
  lone_counted = record { counts = λ xs g. all_known (lone_more g (bytes "_") line_lone) }

-- no other token has a variable
other_plain : {x : Bytes} {k : Mark} {m : T.Mark} → (k ≡ Variable → ⊥) → (k ≡ Lone → ⊥) → Seen x k m → mark_variables (m ∷ []) ≡ []
unfolding mark_variables
other_plain named lone (seen_name w) = refl
other_plain named lone (seen_variable w l) = absurd (named refl)
other_plain named lone seen_lone = absurd (lone refl)
other_plain named lone (seen_sign sign_opens) = refl
other_plain named lone (seen_sign sign_closes) = refl
other_plain named lone (seen_sign sign_comma) = refl
other_plain named lone (seen_sign sign_neck) = refl
other_plain named lone (seen_sign sign_stop) = refl
other_plain named lone (seen_sign sign_stray) = refl

module _ {x : Bytes} {mark : Mark} {v : Variables} where
  module _ {r : Option (Unit {0})} {w : Variables} where
    pub gather_named : mark ≡ Variable → Named x v r w → Gathers x mark v r w
    unfolding mark_variables
    gather_named is named =
        record {
          gathers = λ xs m g seen.
              by_written (λ k. Known w (xs ++ mark_variables (k ∷ [])) r) (subst (λ (k : Mark). Seen x k m) is seen) (λ proper written. named.names xs g proper written);
        }

    pub gather_lone : mark ≡ Lone → LoneCounted v r w → Gathers x mark v r w
    unfolding mark_variables
    gather_lone is counted =
        record { gathers = λ xs m g seen. by_lone (λ k. Known w (xs ++ mark_variables (k ∷ [])) r) (subst (λ (k : Mark). Seen x k m) is seen) (counted.counts xs g) }

  pub gather_other : (mark ≡ Variable → ⊥) → (mark ≡ Lone → ⊥) → Gathers x mark v (Some tt) v
  gather_other named lone =
      record { gathers = λ xs m g seen. all_known (subst (Gathered v) (sym (append-nil xs) ∙ ap (λ (l : List Bytes). xs ++ l) (sym (other_plain named lone seen))) g) }

-- ---- more variables, and still too many

too_many_one : {xs : List Bytes} (y : Bytes) → TooMany xs → TooMany (xs ++ (y ∷ []))
too_many_one {xs} y (long x m written bad) = long x (Memᴰ.append_left (y ∷ []) m) written bad
too_many_one {xs} y (many h) =
    by_truth (λ b. is_lone y ≡ b → TooMany (xs ++ (y ∷ []))) (is_lone y)
    (λ e lone. many (omega (arith, h, lones_lone xs y lone, ap (λ (l : List Bytes). length (numbered [] l)) (named_lone xs y lone))))
    (λ e written. many (omega (arith, h, lones_written xs y written, numbered_grows [] (named xs) y, ap (λ (l : List Bytes). length (numbered [] l)) (named_written xs y written))))
    refl

pub too_many_more : {xs : List Bytes} (ys : List Bytes) → TooMany xs → TooMany (xs ++ ys)
too_many_more {xs} [] past = subst TooMany (sym (append-nil xs)) past
too_many_more {xs} (y ∷ ys) past = subst TooMany (append_assoc xs (y ∷ []) ys) (too_many_more ys (too_many_one y past))

-- ---- what follows of a clause

-- too many variables, or one that is too long: the filled clause is past the limits
pub too_many_unfit : (c : Clause) → TooMany (clause_variables c) → clause_fits (filled c) ≡ false
too_many_unfit c (many h) = many_unfit c h
too_many_unfit c (long x m written bad) = long_unfit c x m written bad

pub gathered_few : {v : Variables} (c : Clause) → Gathered v (clause_variables c) → length (rule_variables (filled c).head (filled c).subgoals) ≤ variable_limit
gathered_few {v} c g = omega (arith, filled_count c, g.named_is, g.lones_is, v.few)

pub gathered_tabled : {v : Variables} {xs : List Bytes} → Gathered v xs → Tabled v.names v.named
gathered_tabled {xs = xs} g = record { seen = numbered [] (named xs); holds = g.holds; size = sym g.named_is }
