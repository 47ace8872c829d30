-- A line that is read whole: its last tests, whatever its letter.
use mathlib.Core.Path.{◌≡◌, refl, sym, ◌∙◌, ap, subst, subst⁻¹}
use mathlib.Core.List.{List}
use Prim.Native.Nat.{ℕ, ◌≤◌, ◌<◌}
use native.Mathlib.Omega.{arith}
use lib.IntN.{ℤ}
use lib.ListN.{length, drop}
use Rattle.std.specs.Prelude.{Result, Ok, Err}
use Rattle.theory.specs.declared.Letter.{Letter}
use Rattle.theory.specs.declared.Letter.TheVariants.{P, C, G, H, B, M, E, NoLetter}
use Rattle.theory.specs.Text.{Bytes, fields_of}
use Rattle.theory.specs.Written.{Written}
use Rattle.theory.specs.Faults.{Manner}
use Rattle.words.specs.declared.Words.{Words}
use Rattle.tables.specs.declared.Slot.{Slot}
use Rattle.tables.specs.declared.State.{State}
use Rattle.tables.specs.declared.Fault.{Fault}
use Rattle.tables.specs.declared.Fault.TheVariants.{CountLimit, Unjustified}
use Rattle.tables.specs.declared.Opened.{Opened}
use Rattle.tables.specs.Faults.{number_of}
use Rattle.tables.specs.Sorts.{sort_of}
use Rattle.tables.specs.declared.Tables.{Tables as Lasting}
use Rattle.tables.specs.Tables.{Tables, tables, Holds, NoWeights, SafeRows, Safe}
use Rattle.tables.specs.Lines.{skipped, most, Passed, ClosedFor}
use Rattle.tables.proofs.Outcomes.{ok_never_err}
use Rattle.residuals.specs.Sums.{Summable}
use Rattle.certificates.specs.Multipliers.{ProgressM, ClosesM}
use Rattle.declarations.proofs.PredicateLines.{p_limit, p_close, p_safe}
use Rattle.declarations.proofs.ClaimLines.{c_limit, c_close, c_safe}
use Rattle.facts.proofs.FactLines.{g_other, g_close, g_safe}
use Rattle.rules.proofs.HeadLines.{h_limit, h_close, h_safe}
use Rattle.rules.proofs.SubgoalLines.{b_limit, b_close, b_safe}
use Rattle.certificates.proofs.MultiplierLines.{m_summable, m_close, m_left, m_left_summable, m_cleared, m_safe}
use Rattle.lines.specs.declared.Room.{Room}
use Rattle.lines.specs.Steps.{lasting, with_rule, CloseNeeds, CloseLeaves, Progress}
use Rattle.lines.specs.Between.{FieldsRead, LineJudged}
use Rattle.lines.proofs.FieldLoop.{fields_from}
use Rattle.lines.proofs.EndLines.{e_close, e_fault, e_safe}

claim_other : C ≡ P → ⊥
claim_other e = let never : ◌≡◌ {A = ℕ} 0 1 = cc in absurd (omega arith)

fact_other : G ≡ P → ⊥
fact_other e = let never : ◌≡◌ {A = ℕ} 0 1 = cc in absurd (omega arith)

head_other : H ≡ P → ⊥
head_other e = let never : ◌≡◌ {A = ℕ} 0 1 = cc in absurd (omega arith)

subgoal_other : B ≡ P → ⊥
subgoal_other e = let never : ◌≡◌ {A = ℕ} 0 1 = cc in absurd (omega arith)

-- a limit is not an unjustified claim
limit_other : {r : Result State Fault} → ((f : Fault) → r ≡ Err f → f ≡ CountLimit) → (f : Fault) → r ≡ Err f → number_of f ≡ 13 → ⊥
limit_other limit f bad e = omega (arith, ap number_of (limit f bad))

-- no weights can be summed
pub unweighed : {weights : List ℤ} {rows : List ℕ} → NoWeights weights → SafeRows rows → Summable weights rows
unweighed clear rows = record { size = clear.size; weight = λ i. rw (clear.zero i) (omega arith); row = rows }

-- a line whose end leaves no residual, with the tables x after it
leaves_none : {manner : Manner} {line : Bytes} {s : State} {t t₁ : Tables} {r : Result State Fault} {weights₀ weights : List ℤ} (x : Tables) → t₁ ≡ x → weights ≡ weights₀ → NoWeights weights₀ → SafeRows t₁.rows → ((f : Fault) → r ≡ Err f → number_of f ≡ 13 → ⊥)
    → ((next : State) → r ≡ Ok next → Safe x next) → ((w : Written) → Holds t s w → ClosedFor manner line w r x) → LineJudged manner line s t r t₁ weights
leaves_none {manner} {line} {t₁ = t₁} {r = r} x after same clear rows other safe tells = record {
  safe = λ next done. (subst⁻¹ (λ (y : Tables). Safe y next) after (safe next done), subst⁻¹ NoWeights same clear);
  summable = subst⁻¹ (λ (ws : List ℤ). Summable ws t₁.rows) same (unweighed clear rows);
  tells = λ w holds. subst⁻¹ (ClosedFor manner line w r) after (tells w holds);
  left = λ w holds bad. absurd (other Unjustified bad refl);
}

-- the weights after an `M` line: none where it passes, those of its claim where it does not
weighed_closing : {t : Tables} {s : State} → Safe t s → {weights₀ weights : List ℤ} {fs : List Bytes} {n : ℕ} (r : Result State Fault) {r₁ : Result State Fault} → r₁ ≡ r → ClosesM s t.claims weights₀ t.rows r₁ weights → n ≤ s.slots → ProgressM fs n t.claims t.slots weights₀ → Summable weights t.rows
weighed_closing safe (Ok next) is closes few progress = unweighed (m_cleared closes is) safe.rows
weighed_closing safe (Err f) is closes few progress = m_left_summable safe few progress closes is

-- the tables that outlive the lines, before a line's end
abbrev pub unclosed : Tables → Lasting
unclosed t = lasting t.signatures t.claims

-- the tables after a line's end, by what it writes to
module _ {y y₁ : Lasting} {x x₁ : Room} (same : y ≡ y₁) (kept : x ≡ x₁) where
  after : {variables : List Words} {rows : List ℕ} {slots : List Slot} → x₁.variables ≡ variables → x₁.rows ≡ rows → x₁.slots ≡ slots → with_rule y x ≡ tables y₁.signatures y₁.claims variables rows slots
  after {variables} {rows} {slots} v r z =
      let vs : x.variables ≡ variables = ap (λ (b : Room). b.variables) kept ∙ v in
      let rs : x.rows ≡ rows = ap (λ (b : Room). b.rows) kept ∙ r in
      let zs : x.slots ≡ slots = ap (λ (b : Room). b.slots) kept ∙ z in
      λ i. tables (same i).signatures (same i).claims (vs i) (rs i) (zs i)

module _ {line : Bytes} {t : Tables} {s : State} {o : Opened} (safe : Safe t s) {many from index : ℕ} {x₀ : Room} where
  pub closable : (letter : Letter) → FieldsRead letter line t s o many from index x₀ → length (fields_from line o) ≤ most (sort_of letter) s → ((letter ≡ P → ⊥) → o.predicate < 32) → (letter ≡ M → s.multipliers < 16) → index ≡ length (fields_from line o)
      → CloseNeeds letter o s (unclosed t) x₀
  closable P read few place due past = tt
  closable C read few place due past = (place claim_other, safe.signatures)
  closable G read few place due past = (place fact_other, safe.signatures, safe.claims)
  closable H read few place due past = (safe.state.rules, place head_other)
  closable B read few place due past = (place subgoal_other, safe.signatures, safe.state.slots)
  closable M read few place due past =
      (safe.state.head, due refl, safe.state.subgoals, safe.claims, rw read.untouched.1 (m_summable safe (omega arith) read.weighed), omega (arith, safe.state.lines, safe.state.rules, safe.state.multipliers))
  closable E read few place due past = tt
  closable NoLetter read few place due past = tt

  -- all fields are read
  whole : (letter : Letter) → FieldsRead letter line t s o many from index x₀ → index ≡ length (fields_from line o) → {manner : Manner} (w : Written) → Holds t s w → (passed : Passed manner letter line s w o)
      → Progress (sort_of letter) line w s t (length (drop (skipped (sort_of letter)) (fields_of line))) many x₀
  whole letter read past w holds passed = subst (λ (n : ℕ). Progress (sort_of letter) line w s t n many x₀) (past ∙ ap length passed.rest) (read.tells w holds passed)

  -- the rows stay
  rows_kept : {letter : Letter} {x x₁ : Room} → x ≡ x₁ → x₁.rows ≡ x₀.rows → FieldsRead letter line t s o many from index x₀ → SafeRows x.rows
  rows_kept same rows read = subst⁻¹ SafeRows (ap (λ (b : Room). b.rows) same ∙ rows) read.room.rows

  module _ {manner : Manner} {r : Result State Fault} (y : Lasting) (x : Room) where
    pub closed : (letter : Letter) → FieldsRead letter line t s o many from index x₀ → length (fields_from line o) ≤ most (sort_of letter) s → ((letter ≡ P → ⊥) → o.predicate < 32) → (letter ≡ M → s.multipliers < 16) → o.signature.arity ≤ 8 → index ≡ length (fields_from line o)
        → ((w : Written) → Holds t s w → Passed manner letter line s w o) → CloseLeaves manner letter o s many (unclosed t) x₀ r y x → LineJudged manner line s t r (with_rule y x) x.weights
    closed P read few place due low past passed done =
        let (variables, rows, clear) = read.untouched in
        leaves_none (tables y.signatures t.claims t.variables t.rows t.slots) (after done.1 done.2 variables rows read.slots)
        (ap (λ (b : Room). b.weights) done.2) clear (rows_kept done.2 refl read) (limit_other (p_limit done.0)) (p_safe t s o y.signatures r safe low done.0)
        λ w holds. p_close line t s w o y.signatures r holds safe (passed w holds) done.0
    closed C read few place due low past passed done =
        let (variables, rows, clear) = read.untouched in
        leaves_none (tables y.signatures y.claims t.variables t.rows t.slots) (after done.1 done.2 variables rows read.slots)
        (ap (λ (b : Room). b.weights) done.2) clear (rows_kept done.2 refl read) (limit_other (c_limit done.0)) (c_safe t s o x₀.row y.signatures y.claims r safe (place claim_other) read.room.row_small done.0)
        λ w holds. let p = passed w holds in c_close line t s w o x₀.row y.signatures y.claims r holds safe p (whole C read past w holds p) done.0
    closed G read few place due low past passed done =
        leaves_none (tables t.signatures t.claims x₀.variables x₀.rows t.slots) (after done.1 done.2 refl refl read.slots)
        (ap (λ (b : Room). b.weights) done.2) read.untouched (rows_kept done.2 refl read) (g_other done.0) (g_safe safe read.room.variables_size read.room.rows_size read.room.rows done.0)
        λ w holds. let p = passed w holds in g_close holds safe p (whole G read past w holds p) done.0
    closed H read few place due low past passed done =
        leaves_none (tables t.signatures t.claims x₀.variables x₀.rows t.slots) (after done.1 done.2 refl refl read.slots)
        (ap (λ (b : Room). b.weights) done.2) read.untouched (rows_kept done.2 refl read) (limit_other (h_limit done.0)) (h_safe safe (place head_other) read.room.variables_size read.room.rows_size read.room.rows done.0)
        λ w holds. let p = passed w holds in h_close holds safe p (whole H read past w holds p) done.0
    closed B read few place due low past passed done =
        let closes = rw read.slots at done.0 in
        leaves_none (tables t.signatures t.claims x₀.variables x₀.rows x.slots) (after done.1 done.2 refl refl refl)
        (ap (λ (b : Room). b.weights) done.2) read.untouched (rows_kept done.2 refl read) (limit_other (b_limit closes)) (b_safe safe (place subgoal_other) read.room.variables_size read.room.rows_size read.room.rows closes)
        λ w holds. let p = passed w holds in b_close holds safe p (whole B read past w holds p) closes
    closed M read few place due low past passed done =
        let (variables, rows) = read.untouched in
        let closes = rw rows at done.0 in
        let same : with_rule y x ≡ t = after done.1 done.2 variables rows read.slots in
        let after_rows : x.rows ≡ t.rows = ap (λ (b : Room). b.rows) done.2 ∙ rows in
        let slots : index ≤ s.slots = omega arith in
        record {
          safe = λ next good. (subst⁻¹ (λ (z : Tables). Safe z next) same (m_safe safe (due refl) closes good), m_cleared closes good);
          summable = rw after_rows (weighed_closing safe r refl closes slots read.weighed);
          tells = λ w holds. let p = passed w holds in subst⁻¹ (ClosedFor manner line w r) same (m_close holds safe p (whole M read past w holds p) closes);
          left = λ w holds bad.
              let p = passed w holds in
              let left = m_left holds safe p (whole M read past w holds p) closes Unjustified bad in
              record { ruled = left.1; sum = rw after_rows left.2 };
        }
    closed E read few place due low past passed done =
        let (variables, rows, clear) = read.untouched in
        leaves_none t (after done.1 done.2 variables rows read.slots)
        (ap (λ (b : Room). b.weights) done.2) clear (rows_kept done.2 refl read) (λ f bad e. omega (arith, ap number_of (e_fault done.0 f bad))) (λ next. e_safe t s next r safe done.0)
        λ w holds. e_close line t s w o r holds (passed w holds) done.0
    closed NoLetter read few place due low past passed done = record {
      safe = λ next good. absurd (ok_never_err (sym good ∙ done.0));
      summable = subst⁻¹ (λ (b : Room). Summable b.weights b.rows) done.2 (unweighed read.untouched read.room.rows);
      tells = λ w holds. absurd (passed w holds).named;
      left = λ w holds bad. absurd (passed w holds).named;
    }
