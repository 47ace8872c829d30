-- What the opening of a line answers by its letter: what `open_named`, `open_bare` and `open_letter` cite.
use mathlib.Core.Path.{◌≡◌, refl, sym, ◌∙◌, ap, subst⁻¹}
use mathlib.Core.Bool.{Bool, true, false, cond, not, ◌&&◌}
use mathlib.Core.List.{List, [], ◌∷◌}
use mathlib.Core.Option
use mathlib.Core.Option.{Option, some, none}
use Prim.Native.Nat.{ℕ, ◌+◌, ◌^◌, ◌≤◌, ◌<◌}
use native.Mathlib.Omega.{arith}
use lib.Dec.{eqb}
use lib.ListN.{length, drop, drop_of_length-le}
use lib.Seq.{get_or-drop}
use types.Run.{OneOf, miss}
use denote.Enum.Declared.{tag_of}
use Rattle.std.specs.Prelude as S
use Rattle.std.specs.Prelude.{Some, None, Result, Ok, Err}
use Rattle.std.specs.Option.{ok_or}
use Rattle.numbers.specs.Numbers.{option_of}
use Rattle.theory.specs.contracts.Letter.{the_type}
use Rattle.groundwork.proofs.Truth.{not-true, not-false, never_both, and_left, equal-eqb, eqb-equal}
use Rattle.theory.specs.declared.Letter.{Letter}
use Rattle.theory.specs.declared.Letter.TheVariants.{P, C, G, H, B, M, E, NoLetter}
use Rattle.theory.specs.Lists.{is_some}
use Rattle.theory.specs.Text.{Bytes, is_name, natural, parts_at, fields_of}
use Rattle.theory.specs.Packs.{Key, atom_key, declared_as}
use Rattle.theory.specs.Written.{field, kind_from, atom_from, Written}
use Rattle.theory.specs.Faults.{is_kind, line_arity, meant_by, is_complete, may_stand}
use Rattle.theory.proofs.Judging.Keys.{declared_member}
use Rattle.theory.proofs.Judging.LineKeys.{less_is, StatesAtom, atom_arity, claim_full, claim_declared, atom_full, atom_declared}
use Rattle.theory.proofs.Judging.Completeness.{rule_from_incomplete}
use Rattle.theory.proofs.Reading.Presence.{none_is}
use Rattle.theory.proofs.Reading.Spelling.{natural_within}
use Rattle.text.specs.Scans.{parts_from}
use Rattle.text.proofs.Cuts.{parts_done}
use Rattle.words.specs.Words.{words_of}
use Rattle.tables.specs.declared.Signature.{Signature}
use Rattle.tables.specs.declared.State.{State}
use Rattle.tables.specs.declared.Fault.{Fault}
use Rattle.tables.specs.declared.Fault.TheVariants.{Name, Declaration, FieldCount, Number}
use Rattle.tables.specs.declared.Opened.{Opened}
use Rattle.tables.specs.Tables.{SafeState, SafeSignatures, predicate_at, kind_of, signature_at, FoundFor, Outline}
use Rattle.tables.specs.Sorts.{sort_of}
use Rattle.tables.specs.Lines.{skipped, opening_tests, most, OldPredicate, NamedFor}
use Rattle.tables.proofs.Lookup.{place_arity, place_below, key_declared, key_absent}
use Rattle.tables.proofs.Outcomes.{none_refused}
use Rattle.opening.specs.declared.Named.{Named}
use Rattle.opening.specs.Opening.{declares, bars, barred_by, declaration, HasName, Nameless, Begins, NameStands, NameRead, OpensLetter, OpensBare}
use Rattle.opening.proofs.Standing.{other_than_m}
use Rattle.opening.proofs.LetterTests.{Refers, refers_names, is_barred, fields_due, undeclared_found, admitted, fault_barred, barred_other, fault_seven, fault_eight, fault_nine, fault_ten, past_opening, fault_nine_alone, past_nine_alone}
use Rattle.opening.proofs.Barred.{barred_kind}
use Rattle.opening.proofs.Outcomes.{opened, refuses, passes}

-- ---- a line that names a predicate

-- what the letters that refer to one have in common
record Shape (l : Letter) : Type 0 where
  skips : skipped (sort_of l) ≡ 2
  few : (fields : List Bytes) (s : State) (n : ℕ) → line_arity l fields ≡ some n → n ≤ 8 → length fields ≤ 2 + most (sort_of l) s
  other : l ≡ M → ⊥
  named : (line : Bytes) (s : State) (w : Written) (o : Opened) → is_name (field 1 (fields_of line)) ≡ true → o.predicate < length w.pack.predicates
      → meant_by l (fields_of line) w.pack ≡ some (predicate_at w.pack.predicates o.predicate) → NamedFor (sort_of l) line s w o

old_predicate : (k : Key) (more : ℕ) (line : Bytes) (w : Written) (o : Opened) → is_name (field 1 (fields_of line)) ≡ true → o.predicate < length w.pack.predicates
    → declared_as k w.pack.predicates ≡ some (predicate_at w.pack.predicates o.predicate)
    → length (fields_of line) ≡ (predicate_at w.pack.predicates o.predicate).arguments + more → OldPredicate k more line w o
old_predicate k more line w o named below declared full =
    record { named = named; below = below; declared = declared; is = sym (declared_member k _ _ declared).1; full = full }

atom_shape : {l : Letter} (states : StatesAtom l) → (fields : List Bytes) (n : ℕ) → line_arity l fields ≡ some n → length fields ≡ n + 2
atom_shape states fields n is = less_is (length fields) 2 n (sym (atom_arity states fields) ∙ is)

atom_named : {l : Letter} (states : StatesAtom l) (line : Bytes) (w : Written) (o : Opened) → is_name (field 1 (fields_of line)) ≡ true → o.predicate < length w.pack.predicates
    → meant_by l (fields_of line) w.pack ≡ some (predicate_at w.pack.predicates o.predicate) → OldPredicate (atom_key (atom_from (fields_of line))) 2 line w o
atom_named states line w o named below found =
    old_predicate _ 2 line w o named below (atom_declared (fields_of line) w.pack.predicates _ states found) (atom_full (fields_of line) w.pack.predicates _ states found)

shape : {l : Letter} → Refers l → Shape l
unfolding line_arity
shape Refers.claim = record {
  skips = refl;
  few = λ fields s n is low. omega (arith, less_is (length fields) 3 n is);
  other = other_than_m;
  named = λ line s w o named below found. old_predicate _ 3 line w o named below (claim_declared (fields_of line) w.pack.predicates _ found) (claim_full (fields_of line) w.pack.predicates _ found);
}
shape Refers.fact = record { skips = refl; few = λ fields s n is low. omega (arith, atom_shape StatesAtom.fact fields n is); other = other_than_m; named = λ line s. atom_named StatesAtom.fact line }
shape Refers.head = record { skips = refl; few = λ fields s n is low. omega (arith, atom_shape StatesAtom.head fields n is); other = other_than_m; named = λ line s. atom_named StatesAtom.head line }
shape Refers.subgoal = record { skips = refl; few = λ fields s n is low. omega (arith, atom_shape StatesAtom.subgoal fields n is); other = other_than_m; named = λ line s. atom_named StatesAtom.subgoal line }

-- the one letter that declares, and the others
declares_is : {l : Letter} → HasName l → declares l ≡ true → l ≡ P
declares_is HasName.predicate e = refl
declares_is HasName.claim e = never_both e refl
declares_is HasName.fact e = never_both e refl
declares_is HasName.head e = never_both e refl
declares_is HasName.subgoal e = never_both e refl

others_refer : {l : Letter} → HasName l → (l ≡ P → ⊥) → Refers l
others_refer HasName.predicate other = absurd (other refl)
others_refer HasName.claim other = Refers.claim
others_refer HasName.fact other = Refers.fact
others_refer HasName.head other = Refers.head
others_refer HasName.subgoal other = Refers.subgoal

-- the second field is a name, and that is where it stands in the table with the arity that the line gives, if anywhere
record LookedUp (l : Letter) (signatures : List Signature) (s : State) (line : Bytes) (name : Named) (place : S.Option ℕ) : Type 0 where
  stands : NameStands line name
  few : s.predicates ≤ 32
  safe : SafeSignatures signatures
  at : FoundFor signatures s.predicates (words_of (field 1 (fields_of line))) (line_arity l (fields_of line)) place

module _ {l : Letter} {signatures : List Signature} {s : State} {line : Bytes} {name : Named} (w : Written) (outline : Outline signatures s w) where
  is_meant : {place : ℕ} → LookedUp l signatures s line name (Some place) → meant_by l (fields_of line) w.pack ≡ some (predicate_at w.pack.predicates place)
  is_meant looked = key_declared outline.declares (field 1 (fields_of line)) looked.stands.named (line_arity l (fields_of line)) _ looked.at

  none_meant : LookedUp l signatures s line name None → meant_by l (fields_of line) w.pack ≡ none
  none_meant looked = key_absent outline.declares (field 1 (fields_of line)) looked.stands.named (line_arity l (fields_of line)) looked.at

-- ---- the arity of a `P` line

arity_given : (f : Bytes) → is_some (natural 8 f) ≡ true → (natural 8 f ≡ some (Option.get_or (natural 8 f) 0)) × (Option.get_or (natural 8 f) 0 ≤ 8)
unfolding is_some
arity_given f good = go (natural 8 f) refl good
  where
    go : (found : Option ℕ) → natural 8 f ≡ found → is_some found ≡ true → (found ≡ some (Option.get_or found 0)) × (Option.get_or found 0 ≤ 8)
    go none e there = never_both there refl
    go (some n) e there = (refl, natural_within 8 f n e)

-- what `open_declaration` requires
pub arity_low : (l : Letter) (line : Bytes) (way : Bool) → HasName l → way ≡ declares l → way ≡ true → (arity : S.Option ℕ) → option_of arity ≡ line_arity l (fields_of line) → (n : ℕ) → arity ≡ Some n → n ≤ 8
unfolding line_arity
arity_low l line way named told new arity given n is = by l (declares_is named (sym told ∙ new)) given
  where
    by : (k : Letter) → k ≡ P → option_of arity ≡ line_arity k (fields_of line) → n ≤ 8
    by k is_p gives = natural_within 8 (field 2 (fields_of line)) n (sym (gives ∙ ap (λ (j : Letter). line_arity j (fields_of line)) is_p) ∙ ap option_of is)

-- ---- a predicate that is not declared

module _ {signatures : List Signature} {s : State} {line : Bytes} {name : Named} where
  undeclared : {l : Letter} → Refers l → LookedUp l signatures s line name None → OpensLetter l line signatures s (Err Declaration)
  undeclared {l} refers looked =
      refuses l Declaration (λ e. omega arith) λ manner w outline stands.
      fault_eight manner (fields_of line) w.pack l (refers_names refers) looked.stands.named (undeclared_found (fields_of line) w.pack refers (none_meant w outline looked))

  module _ (looked : LookedUp P signatures s line name None) (n : ℕ) (count : n + 1 ≡ length (fields_of line)) where
    -- the line's last field
    last : field 1 (parts_from 44 line (name.stop + 1)) ≡ field 3 (fields_of line)
    last = ap (field 1) looked.stands.rest ∙ get_or-drop 2 (fields_of line) 1 []

    -- its kind is well formed there as in the definition
    well : (is_some (natural 8 (field 2 (fields_of line))) && is_kind (field 1 (parts_from 44 line (name.stop + 1)))) ≡ (is_some (natural 8 (field 2 (fields_of line))) && is_kind (field 3 (fields_of line)))
    well = ap (λ (f : Bytes). is_some (natural 8 (field 2 (fields_of line))) && is_kind f) last

    new_predicate : length line ≤ 1024 → OpensLetter P line signatures s (declaration line s.predicates name.words (name.stop + 1) n (line_arity P (fields_of line)))
    unfolding line_arity
    new_predicate short =
        either (not (eqb n 3)) (λ other. miscounted (λ four. never_both other (ap not (equal-eqb n 3 (omega arith))))) λ three.
        let four : length (fields_of line) ≡ 4 = omega (arith, eqb-equal n 3 (not-false _ three)) in
        either (not (is_some (natural 8 (field 2 (fields_of line))) && is_kind _)) (λ bad. malformed four (ap not (sym well) ∙ bad)) (λ good. declared short four (sym well ∙ not-false _ good))
      where
        either : (b : Bool) {x y : Result Opened Fault} → (b ≡ true → OpensLetter P line signatures s x) → (b ≡ false → OpensLetter P line signatures s y) → OpensLetter P line signatures s (cond b x y)
        either true found passed = found refl
        either false found passed = passed refl

        is_new_lem : (w : Written) → Outline signatures s w → is_some (meant_by P (fields_of line) w.pack) ≡ false
        is_new_lem w outline = none_is _ (none_meant w outline looked)

        miscounted : (length (fields_of line) ≡ 4 → ⊥) → OpensLetter P line signatures s (Err FieldCount)
        miscounted other = refuses P FieldCount (λ e. omega arith) λ manner w outline stands. fault_nine manner (fields_of line) w.pack looked.stands.named (is_new_lem w outline) other

        malformed : length (fields_of line) ≡ 4 → not (is_some (natural 8 (field 2 (fields_of line))) && is_kind (field 3 (fields_of line))) ≡ true → OpensLetter P line signatures s (Err Number)
        malformed four bad = refuses P Number (λ e. omega arith) λ manner w outline stands. fault_ten manner (fields_of line) w.pack looked.stands.named (is_new_lem w outline) four bad

        declared : length line ≤ 1024 → length (fields_of line) ≡ 4 → (is_some (natural 8 (field 2 (fields_of line))) && is_kind (field 3 (fields_of line))) ≡ true
            → OpensLetter P line signatures s (Ok (record { letter = P; predicate = s.predicates; signature = record { words = name.words; kind = kind_of (kind_from (field 1 (parts_from 44 line (name.stop + 1)))); arity = Option.get_or (natural 8 (field 2 (fields_of line))) 0; claims = 0 }; from = length line + 1 }))
        declared short four good =
            let (is, low) = arity_given (field 2 (fields_of line)) (and_left _ _ good) in
            let none = parts_done 44 line (length line + 1) (omega arith) ∙ sym (drop_of_length-le (fields_of line) {i = 4} (omega arith)) in
            passes _ short (record { rest = none; few = omega arith; place = λ e. absurd (e refl); due = λ e. absurd (other_than_m e); low = low; claimless = refl })
            λ manner w outline stands.
            record {
              left = past_opening manner (fields_of line) w.pack P HasName.predicate looked.stands.named (is_new_lem w outline) (ap not (equal-eqb (length (fields_of line)) 4 four), (ap not good, tt));
              named = record { named = looked.stands.named; is_new = none_meant w outline looked; four = four; words = looked.stands.words; arity = is; kind = ap (λ (f : Bytes). kind_of (kind_from f)) last; claims = refl };
            }

-- ---- a predicate that is declared

module _ {l : Letter} (names-it : HasName l) {signatures : List Signature} {s : State} {line : Bytes} {name : Named} {place : ℕ} (looked : LookedUp l signatures s line name (Some place)) where
  below : place < s.predicates
  below = place_below signatures _ (line_arity l (fields_of line)) place looked.at

  barred_told : (w : Written) → Outline signatures s w → is_barred l (some (predicate_at w.pack.predicates place)) ≡ bars l (signature_at signatures place).kind
  barred_told w outline = barred_kind l _ (outline.declares.kind place below)

  barred : bars l (signature_at signatures place).kind ≡ true → OpensLetter l line signatures s (Err (barred_by l))
  barred e = refuses l (barred_by l) (barred_other l) λ manner w outline stands. fault_barred manner (fields_of line) w.pack _ names-it looked.stands.named (is_meant w outline looked) (barred_told w outline ∙ e)

  referred : length line ≤ 1024 → bars l (signature_at signatures place).kind ≡ false → OpensLetter l line signatures s (Ok (opened l place (name.stop + 1)))
  referred short free =
      let refers = others_refer names-it (λ is. never_both (ap (λ (k : Letter). bars k (signature_at signatures place).kind) is) free) in
      let (n, given, low, read) = place_arity signatures looked.safe looked.few _ (line_arity l (fields_of line)) place looked.at in
      passes (opened l place (name.stop + 1)) short
      (record {
        rest = rw (shape refers).skips looked.stands.rest;
        few = rw (shape refers).skips ((shape refers).few (fields_of line) s n given low);
        place = λ e. omega (arith, looked.few, below);
        due = λ e. absurd ((shape refers).other e);
        low = omega arith;
        claimless = refl;
      })
      λ manner w outline stands.
      let found = is_meant w outline looked in
      let clear = admitted (fields_of line) w.pack _ refers found (barred_told w outline ∙ free) in
      record {
        left = past_opening manner (fields_of line) w.pack l names-it looked.stands.named clear.0 clear.1;
        named = (shape refers).named line s w (opened l place (name.stop + 1)) looked.stands.named (omega (arith, outline.declares.count, below)) found;
      }

-- ---- together: what `open_named` cites

module _ (l : Letter) (names-it : HasName l) (signatures : List Signature) (s : State) (line : Bytes) (naming : S.Option Named) (read : NameRead line naming) where
  pub opens_unnamed : (f : Fault) → ◌≡◌ {A = Result Named Fault} (Err f) (ok_or naming Name) → OpensLetter l line signatures s (Err f)
  opens_unnamed f is =
      let (nothing, fault) = none_refused naming is in
      rw fault (refuses l Name (λ e. omega arith) λ manner w outline stands. fault_seven manner (fields_of line) w.pack l names-it (read.none nothing))

  module _ (name : Named) (is : naming ≡ Some name) where
    pub stop_fits : length line ≤ 1024 → name.stop + 1 < 2 ^ 64
    stop_fits short = omega (arith, (read.found name is).stop)

    pub name_rest : parts_from 44 line (name.stop + 1) ≡ drop 2 (fields_of line)
    name_rest = (read.found name is).rest

    module _ (state : SafeState s) (safe : SafeSignatures signatures) (arity : S.Option ℕ) (given : option_of arity ≡ line_arity l (fields_of line)) (place : S.Option ℕ) (at : FoundFor signatures s.predicates name.words (option_of arity) place) where
      looked_up : LookedUp l signatures s line name place
      looked_up = record { stands = read.found name is; few = state.predicates; safe = safe; at = rw (← (read.found name is).words, ← given) at }

      -- what `is_barred` answers of one that is declared
      module _ (p : ℕ) (here : place ≡ Some p) (answer : Bool) (kind : answer ≡ bars l (signature_at signatures p).kind) where
        pub opens_barred : answer ≡ true → (f : Fault) → f ≡ barred_by l → OpensLetter l line signatures s (Err f)
        opens_barred e f fault = rw fault (barred names-it (rw here at looked_up) (sym kind ∙ e))

        pub opens_reference : length line ≤ 1024 → answer ≡ false → OpensLetter l line signatures s (Ok (opened l p (name.stop + 1)))
        opens_reference short e = referred names-it (rw here at looked_up) short (sym kind ∙ e)

      -- what `is_declaration` answers where none is
      module _ (nowhere : place ≡ None) (way : Bool) (told : way ≡ declares l) where
        pub opens_undeclared : way ≡ false → OpensLetter l line signatures s (Err Declaration)
        opens_undeclared old = undeclared (others_refer names-it (λ is. never_both (ap declares is) (sym told ∙ old))) (rw nowhere at looked_up)

        pub opens_declaration : way ≡ true → (n : ℕ) → n + 1 ≡ length (parts_at 44 line) → length line ≤ 1024 → (r : Result Opened Fault) → r ≡ declaration line s.predicates name.words (name.stop + 1) n (option_of arity) → OpensLetter l line signatures s r
        opens_declaration new n count short r is =
            subst⁻¹ (λ (k : Letter). LookedUp k signatures s line name None → option_of arity ≡ line_arity k (fields_of line) → OpensLetter k line signatures s r) (declares_is names-it (sym told ∙ new))
            (λ looked known. subst⁻¹ (OpensLetter P line signatures s) (is ∙ ap (declaration line s.predicates name.words (name.stop + 1) n) known) (new_predicate looked n count short))
            (rw nowhere at looked_up) given

-- ---- a line with no name

-- the commas of an `M` line are the claims on the last rule's subgoals; an `E` line has none
record Bare (l : Letter) : Type 0 where
  skips : skipped (sort_of l) ≡ 1
  opens : opening_tests l ≡ 1
  due : (signatures : List Signature) (s : State) (w : Written) → Outline signatures s w → may_stand w.pack l ≡ true → fields_due l w.pack ≡ most (sort_of l) s + 1
  named : (line : Bytes) (s : State) (w : Written) (o : Opened) → length (fields_of line) ≡ most (sort_of l) s + 1 → NamedFor (sort_of l) line s w o

bare : {l : Letter} → Nameless l → Bare l
unfolding may_stand
bare Nameless.multipliers = record {
  skips = refl;
  opens = refl;
  due = λ signatures s w outline stands.
      ap (λ (n : ℕ). n + 1) (sym (outline.slots (rule_from_incomplete w.pack (not-true (is_complete w.pack) stands))));
  named = λ line s w o e. e;
}
bare Nameless.end = record { skips = refl; opens = refl; due = λ signatures s w outline stands. refl; named = λ line s w o e. e }

module _ (l : Letter) (nameless : Nameless l) (s : State) (line : Bytes) (commas : ℕ) (all : commas ≡ most (sort_of l) s) (n : ℕ) (count : n + 1 ≡ length (parts_at 44 line)) where
  pub bare_miscounted : (n ≡ commas → ⊥) → OpensBare l line s (Err FieldCount)
  bare_miscounted other = record {
    opens = λ signatures.
        refuses l FieldCount (λ e. omega arith) λ manner w outline stands.
        fault_nine_alone manner (fields_of line) w.pack l nameless (λ e. other (omega (arith, (bare nameless).due signatures s w outline stands)));
  }

  pub bare_passed : Begins line → (l ≡ M → s.multipliers < 16) → length line ≤ 1024 → n ≡ commas → OpensBare l line s (Ok (opened l 0 2))
  bare_passed begins due short right = record {
    opens = λ signatures.
        passes (opened l 0 2) short
        (record {
          rest = rw (bare nameless).skips begins.rest;
          few = omega (arith, (bare nameless).skips);
          place = λ e. omega arith;
          due = due;
          low = omega arith;
          claimless = refl;
        })
        λ manner w outline stands.
        let full : length (fields_of line) ≡ most (sort_of l) s + 1 = omega arith in
        record {
          left = rw (bare nameless).opens (past_nine_alone manner (fields_of line) w.pack l nameless (full ∙ sym ((bare nameless).due signatures s w outline stands)));
          named = (bare nameless).named line s w _ full;
        };
  }

-- ---- by letter: what `open_letter` cites

pub named_letter : (l : Letter) → OneOf (0 ∷ 1 ∷ 2 ∷ 3 ∷ 4 ∷ []) (tag_of the_type l) → HasName l
named_letter P tag = HasName.predicate
named_letter C tag = HasName.claim
named_letter G tag = HasName.fact
named_letter H tag = HasName.head
named_letter B tag = HasName.subgoal
named_letter M tag = absurd (miss (0 ∷ 1 ∷ 2 ∷ 3 ∷ 4 ∷ []) 5 tt tag)
named_letter E tag = absurd (miss (0 ∷ 1 ∷ 2 ∷ 3 ∷ 4 ∷ []) 6 tt tag)
named_letter NoLetter tag = absurd (miss (0 ∷ 1 ∷ 2 ∷ 3 ∷ 4 ∷ []) 7 tt tag)

pub nameless_multipliers : {l : Letter} → l ≡ M → Nameless l
nameless_multipliers is = subst⁻¹ Nameless is Nameless.multipliers

pub nameless_end : {l : Letter} → l ≡ E → Nameless l
nameless_end is = subst⁻¹ Nameless is Nameless.end

pub commas_multipliers : {l : Letter} (s : State) → l ≡ M → s.slots ≡ most (sort_of l) s
commas_multipliers s is = ap (λ (k : Letter). most (sort_of k) s) (sym is)

pub commas_end : {l : Letter} (s : State) → l ≡ E → 0 ≡ most (sort_of l) s
commas_end s is = ap (λ (k : Letter). most (sort_of k) s) (sym is)

pub opens_bare : {l : Letter} {line : Bytes} {s : State} {r : Result Opened Fault} → OpensBare l line s r → {signatures : List Signature} → OpensLetter l line signatures s r
opens_bare opens {signatures} = opens.opens signatures

-- no line of no letter is opened
pub opens_none : {l : Letter} → (l ≡ NoLetter → ⊥) → l ≡ NoLetter → {line : Bytes} {signatures : List Signature} {s : State} {r : Result Opened Fault} → OpensLetter l line signatures s r
opens_none other is = absurd (other is)
