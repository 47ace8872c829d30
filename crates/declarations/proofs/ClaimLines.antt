-- `C` lines: their fields, and what they add.
use mathlib.Core.Path.{◌≡◌, refl, sym, ◌∙◌, ap}
use mathlib.Core.Bool.{cond, not}
use mathlib.Core.List.{List, []}
use mathlib.Core.Option.{some}
use Prim.Native.Nat.{ℕ, suc, ◌+◌, ◌≤◌, ◌<◌}
use native.Mathlib.Omega.{arith}
use borrow.Author.Count.{below_more}
use lib.Dec.{leb}
use lib.IntN.{ℤ, pos, nat_abs}
use lib.ListN.{length, get_or, drop, length-set}
use Rattle.std.specs.Prelude.{Result, Ok, Err}
use Rattle.groundwork.proofs.Truth.{and_right, leb-gt}
use Rattle.groundwork.proofs.Stretches.{replaced}
use Rattle.theory.specs.Lists.{every, is_empty}
use Rattle.theory.specs.Text.{Bytes, integer, fields_of}
use Rattle.theory.specs.Packs.{claim_key, claims_on, claim_limit, number_limit}
use Rattle.theory.specs.declared.Letter.TheVariants.{C}
use Rattle.theory.specs.Written.{Written, claim_from, add}
use Rattle.theory.specs.Faults.{Manner, is_claim_number, first_given, claim_tests, tests, fault}
use Rattle.theory.proofs.Reading.Presence.{some_is, is_empty_lem, end_filled}
use Rattle.theory.proofs.Reading.Places.{places_every, not_every}
use Rattle.theory.proofs.Judging.Sections.{claims_stand}
use Rattle.theory.proofs.Judging.LineWriting.{writes_letter}
use Rattle.tables.specs.declared.Signature.{Signature}
use Rattle.tables.specs.declared.State.{State}
use Rattle.tables.specs.declared.Opened.{Opened}
use Rattle.tables.specs.declared.Fault.{Fault}
use Rattle.tables.specs.declared.Fault.TheVariants.{Number, CountLimit}
use Rattle.tables.specs.Tables.{Tables, tables, no_signature, signature_at, with_claims, counted, claim_place, Holds, Safe}
use Rattle.tables.specs.Faults.{number_of}
use Rattle.tables.specs.Lines.{Passed, ClosedFor, at}
use Rattle.tables.proofs.PredicateSets.{key_alone}
use Rattle.tables.proofs.Outcomes.{field_passes, field_fails, line_number, line_passes, line_fails}
use Rattle.tables.proofs.Declared.{count_leaves, count_declares}
use Rattle.declarations.specs.Fields.{FieldC, ProgressC}
use Rattle.declarations.specs.Ends.{with_claim, Laid, ClosesC}
use Rattle.declarations.proofs.OwedRules.{owed}
use Rattle.declarations.proofs.ClaimTable.{claim_laid, claims_more, laid_small}

-- ---- the fields

pub c_begin : (fs : List Bytes) (row : List ℤ) → ProgressC fs 0 row
c_begin fs row = record { read = λ i l. absurd (omega arith) }

pub c_field : (fs : List Bytes) (index many : ℕ) (row₀ row : List ℤ) (r : Result ℕ Fault) (n : ℕ) → ProgressC fs index row₀ → FieldC index (at fs index) many row₀ r row → r ≡ Ok n → ProgressC fs (suc index) row
c_field fs index many row₀ row r n before done is =
    record {
      read = λ i l. below_more (λ i. integer number_limit (at fs i) ≡ some (get_or row i (pos 0))) index
          (λ i l. before.read i l ∙ ap some (sym (done.kept i (λ e. omega arith))))
          (done.read (field_passes many Number (is_claim_number (at fs index)) done.answer is).0)
          i
          (omega arith);
    }

pub c_count : {index many : ℕ} {f : Bytes} {row₀ row : List ℤ} {r : Result ℕ Fault} {n : ℕ} → FieldC index f many row₀ r row → r ≡ Ok n → many ≡ n
c_count {many = many} {f = f} done is = (field_passes many Number (is_claim_number f) done.answer is).1

-- the tests that are left when the fields are read
c_left : {manner : Manner} (line : Bytes) (s : State) (w : Written) (o : Opened) → Passed manner C line s w o
    → fault manner w line ≡ cond (not (every is_claim_number (drop 2 (fields_of line)))) 10 (cond (leb claim_limit (length (claims_on (claim_key (claim_from (fields_of line))) w.pack.claims))) 12 0)
unfolding first_given tests claim_tests
c_left line s w o passed = passed.left

pub c_fault : {manner : Manner} (line : Bytes) (s : State) (w : Written) (o : Opened) (index many : ℕ) (row₀ row : List ℤ) (r : Result ℕ Fault) (f : Fault) → Passed manner C line s w o → index < length (drop 2 (fields_of line)) → FieldC index (at (drop 2 (fields_of line)) index) many row₀ r row → r ≡ Err f → fault manner w line ≡ number_of f
c_fault line s w o index many row₀ row r f passed less done is =
    let fs = drop 2 (fields_of line) in
    let failed = field_fails many Number (is_claim_number (at fs index)) done.answer is in
    rw (c_left line s w o passed, not_every is_claim_number fs [] index less failed.0) (ap number_of failed.1)

-- ---- what a line adds

-- the tables with the claim that a line writes, and a pack with it
c_holds : {manner : Manner} (line : Bytes) (t : Tables) (s : State) (w : Written) (o : Opened) (row : List ℤ) (claims : List ℤ) → Holds t s w → Safe t s → Passed manner C line s w o
    → ProgressC (drop 2 (fields_of line)) (length (drop 2 (fields_of line))) row
    → let count = (signature_at t.signatures o.predicate).claims in
    count < 16
    → Laid t.claims (claim_place o.predicate count) row (signature_at t.signatures o.predicate).arity claims
    → Holds (tables (counted t.signatures o.predicate (count + 1)) claims t.variables t.rows t.slots) (with_claim o.predicate t.signatures s) (record { pack = add C (fields_of line) w.pack; ended = w.ended })
unfolding add claim_from
c_holds line t s w o row claims holds safe passed done room laid =
    let fields = fields_of line in
    let ps = w.pack.predicates in
    let cs = w.pack.claims in
    let c = claim_from fields in
    let p = o.predicate in
    let declares = holds.declares in
    let known = declares.count in
    let below = passed.named.below in
    let few : length ps ≤ 32 = omega (arith, safe.state.predicates) in
    let arity = declares.arity p (omega arith) in
    let full : length fields ≡ (signature_at t.signatures p).arity + 3 = omega (arith, passed.named.full) in
    record {
      declares = count_declares t.signatures p ((signature_at t.signatures p).claims + 1) s.predicates ps (omega (arith, safe.sizes.signatures, safe.state.predicates)) declares;
      claims = claims_more t.signatures t.claims claims ps cs holds.claims few safe.signatures safe.sizes.signatures p below
          (λ i h e. declares.distinct i p (omega arith) (omega arith) e)
          c passed.named.is row (signature_at t.signatures p).arity room laid
          (claim_laid fields t.claims claims _ row _ laid done full);
      claimed = rw (end_filled cs c);
      shipped = holds.shipped;
      owing = owed ps cs c p (key_alone declares p below) below passed.named.is holds.owing (signature_at t.signatures p).kind (declares.kind p (omega arith));
      headed = holds.headed;
      rules = holds.rules;
      lines = holds.lines;
      last = λ some. absurd (some (is_empty_lem w.pack.rules (and_right (is_empty w.pack.facts) _ (sym (claims_stand w.pack) ∙ passed.stands))));
      ended = holds.ended;
    }

module _ {o : Opened} {s : State} {row : List ℤ} {signatures₀ : List Signature} {claims₀ : List ℤ} {r : Result State Fault} {signatures : List Signature} {claims : List ℤ} (closes : ClosesC o s row signatures₀ claims₀ r signatures claims) where
  -- a line that is done had room for its claim
  room : (next : State) → r ≡ Ok next → ((signature_at signatures₀ o.predicate).claims < claim_limit) × (with_claim o.predicate signatures₀ s ≡ next)
  room next is =
      let passes = line_passes CountLimit (with_claim o.predicate signatures₀ s) (leb claim_limit (signature_at signatures₀ o.predicate).claims) closes.answer is in
      (leb-gt claim_limit (signature_at signatures₀ o.predicate).claims passes.0, passes.1)

  pub c_limit : (f : Fault) → r ≡ Err f → f ≡ CountLimit
  c_limit f is = sym (line_fails CountLimit (with_claim o.predicate signatures₀ s) (leb claim_limit (signature_at signatures₀ o.predicate).claims) closes.answer is).1

pub c_close : {manner : Manner} (line : Bytes) (t : Tables) (s : State) (w : Written) (o : Opened) (row : List ℤ) (signatures : List Signature) (claims : List ℤ) (r : Result State Fault) → Holds t s w → Safe t s → Passed manner C line s w o → ProgressC (drop 2 (fields_of line)) (length (drop 2 (fields_of line))) row → ClosesC o s row t.signatures t.claims r signatures claims
    → ClosedFor manner line w r (tables signatures claims t.variables t.rows t.slots)
c_close line t s w o row signatures claims r holds safe passed done closes =
    let fs = drop 2 (fields_of line) in
    let good = places_every is_claim_number fs [] (λ i less. some_is _ _ (done.read i less)) in
    let count = (signature_at t.signatures o.predicate).claims in
    record {
      answer = rw (c_left line s w o passed, good, ← passed.named.is, ← holds.claims.count o.predicate passed.named.below) (sym (line_number CountLimit (with_claim o.predicate t.signatures s) (leb claim_limit count) closes.answer));
      holds = λ next is.
          let fits = room closes next is in
          rw (writes_letter C w line passed.first refl, ← fits.1, closes.signatures_are fits.0) (c_holds line t s w o row claims holds safe passed done fits.0 (closes.claims_are fits.0));
    }

-- the ranges are kept
pub c_safe : (t : Tables) (s : State) (o : Opened) (row : List ℤ) (signatures : List Signature) (claims : List ℤ) (r : Result State Fault) → Safe t s → o.predicate < 32 → ((i : ℕ) → nat_abs (get_or row i (pos 0)) ≤ 9999) → ClosesC o s row t.signatures t.claims r signatures claims
    → (next : State) → r ≡ Ok next → Safe (tables signatures claims t.variables t.rows t.slots) next
c_safe t s o row signatures claims r safe below small closes next is =
    let p = o.predicate in
    let count = (signature_at t.signatures p).claims in
    let fits = room closes next is in
    let less = fits.0 in
    let laid = closes.claims_are less in
    let state = safe.state in
    let old = safe.signatures in
    let sizes = safe.sizes in
    rw (← fits.1, closes.signatures_are less) record {
      sizes = record { signatures = simp length-set sizes.signatures; claims = laid.size ∙ sizes.claims; variables = sizes.variables; rows = sizes.rows; slots = sizes.slots };
      state = record { predicates = state.predicates; rules = state.rules; head = state.head; subgoals = state.subgoals; variables = state.variables; slots = state.slots; multipliers = state.multipliers; lines = state.lines };
      signatures = record {
        arity = λ i h. rw (count_leaves t.signatures p (count + 1) (λ (s : Signature). s.arity) refl (omega (arith, sizes.signatures)) i) (old.arity i h);
        count = λ i h. replaced (λ (s : Signature). s.claims ≤ 16) t.signatures p i (with_claims (count + 1) (signature_at t.signatures p)) no_signature (omega arith) (old.count i h);
      };
      claims = record { small = laid_small t.claims claims _ row _ laid safe.claims.small small };
      rows = safe.rows;
      slots = safe.slots;
    }
