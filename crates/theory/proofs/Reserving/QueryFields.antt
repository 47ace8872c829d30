-- The first two fields of a query, its name and its asked argument: what the tests of them say in words.
use mathlib.Core.Path.{◌≡◌, refl, sym, ◌∙◌, ap}
use mathlib.Core.Bool.{Bool, true, false, cond, not, ◌&&◌, ◌||◌}
use mathlib.Core.List.Memᴰ
use mathlib.Core.List.{List}
use mathlib.Core.Option.{some}
use Prim.Native.Nat.{ℕ, zero, suc, ◌≤◌}
use native.Mathlib.Omega.{arith}
use lib.ListN.{length}
use Rattle.groundwork.proofs.Truth.{by_truth, not-false, and_right, and_both, or_not_left, or_not_right, or_neither}
use Rattle.theory.specs.Lists.{is_some, ◌∈◌}
use Rattle.theory.specs.Text.{Bytes, bytes, same, is_name, natural, last_digits, decimal}
use Rattle.theory.specs.Packs.{Predicate, Pack, Key, key, key_of, same_key, declared_as}
use Rattle.theory.specs.Written.{field}
use Rattle.theory.specs.Reserve.{query_from, meant_by_query}
use Rattle.theory.specs.Limits.{PredicateFits}
use Rattle.theory.specs.Queries.{Named, Asked}
use Rattle.theory.proofs.Reading.Bytes.{same_equal, same_unequal}
use Rattle.theory.proofs.Reading.Decimals.{decimal_same}
use Rattle.theory.proofs.Reading.Presence.{some_is, is_some_lem}
use Rattle.theory.proofs.Reading.Spelling.{natural_of_decimal, decimal_of_natural, natural_within}
use Rattle.theory.proofs.Judging.Keys.{same_key_here, declared_member}
use Rattle.theory.proofs.Judging.LineKeys.{less_plus, declared_with, found_key, query_full, sizes_count}

-- ---- the name

-- a member under a key: something is declared under it
member_declared : (k : Key) {x : Predicate} {ps : List Predicate} → x ∈ ps → key_of x ≡ k → is_some (declared_as k ps) ≡ true
unfolding declared_as is_some
member_declared k (Memᴰ.head {x = y} e) is = rw (same_key_here k (key_of y) (ap key_of (sym e) ∙ is))
member_declared k (Memᴰ.tail {x = y} {xs = ps} m) is =
    by_truth (λ (b : Bool). is_some (cond b (some y) (declared_as k ps)) ≡ true) (same_key k (key_of y)) (λ e. refl) (λ e. member_declared k m is)

abbrev pub name_test : Pack → List Bytes → Bool
name_test p fs = not (is_name (field 0 fs) && is_some (meant_by_query fs p))

module _ (p : Pack) (fits : (x : Predicate) → x ∈ p.predicates → PredicateFits x) (fs : List Bytes) where
  pub named_told : name_test p fs ≡ false → Named p fs
  named_told e =
      let found = is_some_lem (meant_by_query fs p) (and_right (is_name (field 0 fs)) _ (not-false _ e)) in
      let x = found.0 in
      let member = declared_member _ _ x (found_key (field 0 fs) p.predicates (length fs) 2 x found.1) in
      record { predicate = x; declared = member.0; is_name = ap (λ (k : Key). k.name) member.1; is_arity = query_full fs p.predicates x found.1 }

  pub named_clear : Named p fs → name_test p fs ≡ false
  named_clear n =
      let x = n.predicate in
      ap not (and_both (is_name (field 0 fs)) (is_some (meant_by_query fs p)) (rw n.is_name (fits x n.declared).named)
      (rw (declared_with (field 0 fs) p.predicates _ x.arguments (less_plus (length fs) 2 x.arguments n.is_arity))
      (member_declared (key (field 0 fs) x.arguments) n.declared (ap (λ (name : Bytes). key name x.arguments) (sym n.is_name)))))

-- ---- the asked argument

pub written_zero : decimal 0 ≡ bytes "0"
unfolding decimal bytes last_digits
written_zero = refl

abbrev pub asked_test : List Bytes → Bool
asked_test fs = not (is_some (natural (length (query_from fs).sizes) (field 1 fs))) || same (field 1 fs) (bytes "0")

module _ (fs : List Bytes) where
  abbrev arity : ℕ
  arity = length (query_from fs).sizes

  pub asked_told : asked_test fs ≡ false → Asked fs
  asked_told e =
      let number = is_some_lem (natural arity (field 1 fs)) (not-false _ (or_not_left _ _ e)) in
      let n = number.0 in
      let is = decimal_of_natural arity (field 1 fs) n number.1 in
      let above = positive n is in
      let few = natural_within arity (field 1 fs) n number.1 in
      record { argument = n; low = above; high = omega (arith, sizes_count fs); is_written = is }
    where
      positive : (n : ℕ) → field 1 fs ≡ decimal n → 1 ≤ n
      positive zero is = absurd (same_unequal (field 1 fs) (bytes "0") (or_not_right (not (is_some (natural arity (field 1 fs)))) _ e) (is ∙ written_zero))
      positive (suc n) is = omega arith

  pub asked_clear : Asked fs → asked_test fs ≡ false
  asked_clear a =
      let n = a.argument in
      let number : natural arity (field 1 fs) ≡ some n = rw a.is_written (natural_of_decimal arity n (omega (arith, a.high, sizes_count fs))) in
      or_neither _ _ (ap not (some_is (natural arity (field 1 fs)) n number))
      (by_truth (λ (b : Bool). b ≡ false) (same (field 1 fs) (bytes "0"))
      (λ e. absurd (zero_is_not (decimal_same n 0 (sym a.is_written ∙ same_equal (field 1 fs) (bytes "0") e ∙ sym written_zero)) a.low))
      (λ e. refl))
    where
      zero_is_not : {n : ℕ} → n ≡ 0 → 1 ≤ n → ⊥
      zero_is_not e h = omega arith
