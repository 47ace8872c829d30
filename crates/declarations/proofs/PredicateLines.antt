-- `P` lines: what they add.
use mathlib.Core.Path.{◌≡◌, refl, sym, ◌∙◌, ap}
use mathlib.Core.Bool.{false, cond, not}
use mathlib.Core.List.{List, [], ◌∷◌, ◌++◌}
use mathlib.Core.Option.{Option, none, get_or as or_else}
use Prim.Native.Nat.{ℕ, ◌+◌, ◌≤◌, ◌<◌}
use native.Mathlib.Omega.{arith}
use lib.Dec.{eqb, leb}
use lib.ListN.{length, set, length-set}
use lib.Seq.{get_or-set_same, get_or-set_other}
use Rattle.std.specs.Prelude.{Result, Ok, Err}
use Rattle.groundwork.proofs.Truth.{by_truth, eqb-equal, eqb-unequal, and_left, and_right, and_not_right, leb-gt}
use Rattle.groundwork.proofs.Lists.{length_end}
use Rattle.groundwork.proofs.Stretches.{replaced}
use Rattle.theory.specs.Lists.{any, is_empty}
use Rattle.theory.specs.Text.{Bytes, natural, fields_of}
use Rattle.theory.specs.Packs.{predicate_limit, key_of, declared_as}
use Rattle.theory.specs.declared.Letter.TheVariants.{P}
use Rattle.theory.specs.Written.{Written, predicate_from, add, field}
use Rattle.theory.specs.Faults.{Manner, line_arity, is_given, first_given, predicate_tests, tests, fault}
use Rattle.theory.proofs.Reading.Presence.{is_empty_lem}
use Rattle.theory.proofs.Judging.Sections.{predicates_stand}
use Rattle.theory.proofs.Judging.LineKeys.{declared_with}
use Rattle.theory.proofs.Judging.LineWriting.{writes_letter}
use Rattle.tables.specs.declared.Signature.{Signature}
use Rattle.tables.specs.declared.State.{State}
use Rattle.tables.specs.declared.Opened.{Opened}
use Rattle.tables.specs.declared.Fault.{Fault}
use Rattle.tables.specs.declared.Fault.TheVariants.{CountLimit}
use Rattle.tables.specs.Tables.{Tables, tables, no_signature, signature_at, with_claims, Holds, Safe}
use Rattle.tables.specs.Lines.{Passed, ClosedFor}
use Rattle.tables.proofs.Outcomes.{line_number, line_passes, line_fails}
use Rattle.tables.proofs.Declared.{declares_more, claimless}
use Rattle.tables.proofs.PredicateSets.{set_declared}
use Rattle.tables.proofs.Shipping.{ships_still}
use Rattle.declarations.specs.Ends.{with_predicates, ClosesP}

-- ---- what a line adds

module _ {manner : Manner} (line : Bytes) (s : State) (w : Written) (o : Opened) (passed : Passed manner P line s w o) where
  -- the test that is left
  p_left : fault manner w line ≡ cond (leb predicate_limit (length w.pack.predicates)) 12 0
  unfolding first_given tests predicate_tests
  p_left = passed.left

  -- the key is new, with the arity that is read
  p_new : declared_as (key_of (predicate_from (fields_of line))) w.pack.predicates ≡ none
  unfolding predicate_from line_arity
  p_new =
      let fields = fields_of line in
      let arity = passed.named.arity in
      rw arity (sym (declared_with (field 1 fields) w.pack.predicates (natural 8 (field 2 fields)) o.signature.arity arity) ∙ passed.named.is_new)

-- the tables with the predicate that a line writes, and a pack with it
p_holds : {manner : Manner} (line : Bytes) (t : Tables) (s : State) (w : Written) (o : Opened) → Holds t s w → Safe t s → Passed manner P line s w o → declared_as (key_of (predicate_from (fields_of line))) w.pack.predicates ≡ none → s.predicates < 32
    → Holds (tables (set t.signatures s.predicates (with_claims (signature_at t.signatures s.predicates).claims o.signature)) t.claims t.variables t.rows t.slots) (with_predicates (s.predicates + 1) s) (record { pack = add P (fields_of line) w.pack; ended = w.ended })
unfolding add predicate_from any
p_holds line t s w o holds safe passed is_new room =
    let x = predicate_from (fields_of line) in
    let ps = w.pack.predicates in
    let known = s.predicates in
    let declares = holds.declares in
    let neither = sym (predicates_stand w.pack) ∙ passed.stands in
    let noClaims = is_empty_lem w.pack.claims (and_left (is_empty w.pack.claims) _ neither) in
    let others = and_right (is_empty w.pack.claims) _ neither in
    let noFacts = is_empty_lem w.pack.facts (and_left (is_empty w.pack.facts) _ others) in
    let noRules = is_empty_lem w.pack.rules (and_right (is_empty w.pack.facts) _ others) in
    record {
      declares = declares_more t.signatures known ps x declares is_new declared passed.named.words (ap (λ (n : Option ℕ). or_else n 0) (sym passed.named.arity)) passed.named.kind room safe.sizes.signatures passed.named.named;
      claims = rw noClaims (claimless t.signatures t.claims ps (rw noClaims at holds.claims) _ (ps ++ (x ∷ [])) (omega (arith, length_end ps x, declares.count)) still_none);
      claimed = holds.claimed;
      shipped = ships_still holds.shipped noFacts x;
      owing = set_declared holds.owing x (rw noClaims (and_not_right (not (is_given x.kind)) false refl));
      headed = set_declared holds.headed x (rw noRules);
      rules = holds.rules;
      lines = holds.lines;
      last = λ some. absurd (some noRules);
      ended = holds.ended;
    }
  where
    declared : Signature
    declared = with_claims (signature_at t.signatures s.predicates).claims o.signature

    -- the counts of claims stay
    still_none : (i : ℕ) → i < 32 → (signature_at (set t.signatures s.predicates declared) i).claims ≡ (signature_at t.signatures i).claims
    still_none i h =
        by_truth (λ b. (signature_at (set t.signatures s.predicates declared) i).claims ≡ (signature_at t.signatures i).claims) (eqb i s.predicates)
        (λ e. rw (eqb-equal i s.predicates e) (ap (λ (n : Signature). n.claims) (get_or-set_same t.signatures s.predicates declared no_signature (omega (arith, safe.sizes.signatures)))))
        (λ e. ap (λ (n : Signature). n.claims) (get_or-set_other t.signatures s.predicates i declared no_signature (eqb-unequal i s.predicates e)))

module _ {o : Opened} {s : State} {signatures₀ : List Signature} {r : Result State Fault} {signatures : List Signature} (closes : ClosesP o s signatures₀ r signatures) where
  -- a line that is done had room for its predicate
  room : (next : State) → r ≡ Ok next → (s.predicates < predicate_limit) × (with_predicates (s.predicates + 1) s ≡ next)
  room next is =
      let passes = line_passes CountLimit (with_predicates (s.predicates + 1) s) (leb predicate_limit s.predicates) closes.answer is in
      (leb-gt predicate_limit s.predicates passes.0, passes.1)

  pub p_limit : (f : Fault) → r ≡ Err f → f ≡ CountLimit
  p_limit f is = sym (line_fails CountLimit (with_predicates (s.predicates + 1) s) (leb predicate_limit s.predicates) closes.answer is).1

pub p_close : {manner : Manner} (line : Bytes) (t : Tables) (s : State) (w : Written) (o : Opened) (signatures : List Signature) (r : Result State Fault) → Holds t s w → Safe t s → Passed manner P line s w o → ClosesP o s t.signatures r signatures
    → ClosedFor manner line w r (tables signatures t.claims t.variables t.rows t.slots)
p_close line t s w o signatures r holds safe passed closes =
    let known = s.predicates in
    record {
      answer = rw (p_left line s w o passed, holds.declares.count) (sym (line_number CountLimit (with_predicates (known + 1) s) (leb predicate_limit known) closes.answer));
      holds = λ next is.
          let fits = room closes next is in
          rw (writes_letter P w line passed.first refl, ← fits.1, closes.signatures_are fits.0)
          (p_holds line t s w o holds safe passed (p_new line s w o passed) fits.0);
    }

-- the ranges are kept
pub p_safe : (t : Tables) (s : State) (o : Opened) (signatures : List Signature) (r : Result State Fault) → Safe t s → o.signature.arity ≤ 8 → ClosesP o s t.signatures r signatures
    → (next : State) → r ≡ Ok next → Safe (tables signatures t.claims t.variables t.rows t.slots) next
p_safe t s o signatures r safe low closes next is =
    let known = s.predicates in
    let fits = room closes next is in
    let less = fits.0 in
    let state = safe.state in
    let old = safe.signatures in
    let sizes = safe.sizes in
    let declared = with_claims (signature_at t.signatures known).claims o.signature in
    rw (← fits.1, closes.signatures_are less) record {
      sizes = record { signatures = simp length-set sizes.signatures; claims = sizes.claims; variables = sizes.variables; rows = sizes.rows; slots = sizes.slots };
      state = record { predicates = omega arith; rules = state.rules; head = state.head; subgoals = state.subgoals; variables = state.variables; slots = state.slots; multipliers = state.multipliers; lines = state.lines };
      signatures = record {
        arity = λ i h. replaced (λ (n : Signature). n.arity ≤ 8) t.signatures known i declared no_signature low (old.arity i h);
        count = λ i h. replaced (λ (n : Signature). n.claims ≤ 16) t.signatures known i declared no_signature (old.count known less) (old.count i h);
      };
      claims = safe.claims;
      rows = safe.rows;
      slots = safe.slots;
    }
