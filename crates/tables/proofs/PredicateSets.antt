-- Sets of predicates: when one is declared, when one is put in, and whether the predicates of a set are in another.
use mathlib.Core.Path.{◌≡◌, refl, sym, ◌∙◌, ap}
use mathlib.Core.Bool.{Bool, true, false, not, ◌&&◌, ◌||◌}
use mathlib.Core.List.{List, [], ◌∷◌, ◌++◌}
use Prim.Native.Nat.{ℕ, ◌*◌, ◌%◌, ◌^◌, ◌<◌}
use native.Mathlib.Omega.{arith}
use lib.Bits.{bit_or}
use lib.Pow.{shl_exact}
use lib.Dec.{eqb, ltb}
use lib.ListN.{length}
use Rattle.groundwork.proofs.Bits.{bit, no_bit, or_bit, one_bit, bits_within, within_bits}
use Rattle.groundwork.proofs.Lists.{length_end, get_d_member, member_get_d}
use Rattle.groundwork.proofs.Truth.{by_truth, never_both, not-false, or_neither, eqb-equal, eqb-unequal, eqb-different, ltb-lt, ltb-ge}
use Rattle.theory.specs.Lists.{any, ending}
use Rattle.theory.specs.Packs.{Predicate, Rule, Key, same_key, key_of}
use Rattle.theory.specs.Written.{on_last}
use Rattle.theory.specs.Faults.{heads_rule}
use Rattle.theory.proofs.Reading.Every.{none_member, members_none, any_end}
use Rattle.theory.proofs.Judging.Heads.{heads_changed}
use Rattle.theory.proofs.Reading.Places.{each_and_last}
use Rattle.tables.specs.declared.Signature.{Signature}
use Rattle.tables.specs.Tables.{no_predicate, predicate_at, Declares, SetOf, has_key_in}
use Rattle.theory.proofs.Judging.Keys.{same_key_here, same_key_other}

-- the word that `with_predicate` makes
pub one_more_lem : (set place : ℕ) → place < 32 → bit_or set (1 * 2 ^ place % 18446744073709551616) ≡ bit_or set (2 ^ place)
one_more_lem set place h = ap (bit_or set) (shl_exact {a = 1} 1 place 64 (omega arith) (omega arith) ∙ omega arith)

pub set_nothing : (test : Predicate → Bool) → SetOf test [] 0
set_nothing test = record { has = λ i h. absurd (omega arith); none = λ i h. no_bit i }

-- ---- one predicate more

module _ {test : Predicate → Bool} {ps : List Predicate} {set : ℕ} (is : SetOf test ps set) where
  -- declared, and not in the set
  pub set_declared : (x : Predicate) → test x ≡ false → SetOf test (ps ++ (x ∷ [])) set
  set_declared x out = record {
    has = each_and_last (λ y i. bit set i ≡ test y) ps x no_predicate is.has (is.none (length ps) (omega arith) ∙ sym out);
    none = λ i h. is.none i (omega (arith, length_end ps x));
  }

  module _ (more : Predicate → Bool) where
    pub set_same : ((i : ℕ) → i < length ps → more (predicate_at ps i) ≡ test (predicate_at ps i)) → SetOf more ps set
    set_same same = record { has = λ i h. is.has i h ∙ sym (same i h); none = is.none }

    -- in the set
    pub set_with : (place : ℕ) → place < length ps → ((i : ℕ) → i < length ps → more (predicate_at ps i) ≡ (test (predicate_at ps i) || eqb i place)) → SetOf more ps (bit_or set (2 ^ place))
    set_with place below told = record {
      has = λ i h. or_bit set (2 ^ place) i ∙ rw (is.has i h, one_bit place i) (sym (told i h));
      none = λ i h. or_bit set (2 ^ place) i ∙ or_neither (bit set i) _ (is.none i h) (one_bit place i ∙ eqb-different i place (λ e. omega arith));
    }

-- ---- by keys

-- only the predicate at its place has its key
abbrev pub Alone : List Predicate → ℕ → Type 0
Alone ps place = (i : ℕ) → i < length ps → key_of (predicate_at ps i) ≡ key_of (predicate_at ps place) → i ≡ place

pub key_alone : {signatures : List Signature} {known : ℕ} {ps : List Predicate} → Declares signatures known ps → (place : ℕ) → place < length ps → Alone ps place
key_alone declares place below i h same = declares.distinct i place (omega (arith, declares.count)) (omega (arith, declares.count)) same

module _ (ps : List Predicate) (place : ℕ) (alone : Alone ps place) (k : Key) (is : key_of (predicate_at ps place) ≡ k) where
  pub key_at : (i : ℕ) → i < length ps → same_key (key_of (predicate_at ps i)) k ≡ eqb i place
  key_at i h =
      by_truth (λ (b : Bool). same_key (key_of (predicate_at ps i)) k ≡ b) (eqb i place)
      (λ e. same_key_here _ _ (sym is ∙ ap (λ (j : ℕ). key_of (predicate_at ps j)) (sym (eqb-equal i place e))))
      (λ e. same_key_other _ _ (λ same. eqb-unequal i place e (alone i h (sym same ∙ sym is))))

-- a fact or a rule more, of the predicate at a place
pub set_ending : {A : Type 0} (keyIn : A → Key) (l : List A) (a : A) {ps : List Predicate} {set : ℕ} → SetOf (has_key_in keyIn l) ps set → (place : ℕ) → Alone ps place → place < length ps → key_of (predicate_at ps place) ≡ keyIn a
    → SetOf (has_key_in keyIn (ending a l)) ps (bit_or set (2 ^ place))
set_ending keyIn l a {ps} holds place alone below is =
    set_with holds (has_key_in keyIn (ending a l)) place below (λ i h. any_end (λ b. same_key (key_of (predicate_at ps i)) (keyIn b)) l a ∙ ap (λ (b : Bool). has_key_in keyIn l (predicate_at ps i) || b) (key_at ps place alone (keyIn a) is i h))

-- a rule changed after its head
pub set_changed : (change : Rule → Rule) → ((r : Rule) → (change r).head ≡ r.head) → (rules : List Rule) {ps : List Predicate} {set : ℕ} → SetOf (heads_rule rules) ps set → SetOf (heads_rule (on_last change rules)) ps set
set_changed change kept rules {ps} holds = set_same holds (heads_rule (on_last change rules)) (λ i h. heads_changed change kept rules (predicate_at ps i))

-- ---- one set within another

module _ {owes heads : Predicate → Bool} {ps : List Predicate} {x y : ℕ} (owing : SetOf owes ps x) (headed : SetOf heads ps y) where
  abbrev lacking : Predicate → Bool
  lacking p = owes p && not (heads p)

  none_lacking : bit_or x y ≡ y → any lacking ps ≡ false
  none_lacking e = members_none lacking ps λ p m.
      let (i, h, at) = member_get_d no_predicate m in
      by_truth (λ (b : Bool). (b && not (heads p)) ≡ false) (owes p)
      (λ has. ap not (sym (ap heads at) ∙ sym (headed.has i h) ∙ within_bits x y e i (owing.has i h ∙ ap owes at ∙ has)))
      (λ no. refl)

  none_left_over : any lacking ps ≡ false → bit_or x y ≡ y
  none_left_over none = bits_within x y λ i has.
      by_truth (λ (b : Bool). bit y i ≡ true) (ltb i (length ps))
      (λ less. let h = ltb-lt i (length ps) less in
      headed.has i h ∙ not-false _ (rw (sym (owing.has i h) ∙ has) at (none_member lacking none (get_d_member ps i no_predicate h))))
      (λ above. never_both has (owing.none i (ltb-ge i (length ps) above)))

  pub within_told : any lacking ps ≡ not (eqb (bit_or x y) y)
  within_told =
      by_truth (λ (b : Bool). any lacking ps ≡ not b) (eqb (bit_or x y) y)
      (λ e. none_lacking (eqb-equal _ _ e))
      (λ e. by_truth (λ (b : Bool). b ≡ true) (any lacking ps) (λ some. refl) (λ none. absurd (eqb-unequal _ _ e (none_left_over none))))
