-- The loops over the clauses of a text: what is judged up to a place, and what is written up to it.
use mathlib.Core.Path.{◌≡◌, refl, sym, ◌∙◌, ap, subst}
use mathlib.Core.Bool.{true, false}
use mathlib.Core.List.{List, [], ◌++◌}
use Prim.Native.Nat.{ℕ, ◌+◌, ◌-◌, ◌≤◌, ◌<◌}
use native.Mathlib.Numerals.{add-one}
use native.Mathlib.Omega.{arith}
use borrow.Rule.Slice.PartMut.{mid_of, put_mid, mid_len}
use lib.ListN.{length, length-append}
use Rattle.std.specs.Prelude.{Result, Ok, Err}
use Rattle.std.specs.Result.{IsOk}
use Rattle.groundwork.proofs.Truth.{by_truth, le-leb, gt-leb}
use Rattle.theory.specs.Lists.{over}
use Rattle.theory.specs.Text.{Bytes}
use Rattle.theory.specs.Check.{numbers}
use Rattle.clause_theory.specs.ClauseTokens.{tokens_of}
use Rattle.clause_theory.specs.Clauses.{Clause, begin}
use Rattle.clause_theory.specs.Importations.{import_numbers}
use Rattle.clause_theory.specs.declared.ImportRefusal.{ImportRefusal}
use Rattle.clause_theory.specs.Import.{filled, clause_fits, Importing, refused, import_from}
use Rattle.pages.specs.Pages.{Puts}
use Rattle.pages.proofs.Puts.{puts_size, puts_more, puts_part, puts_over}
use Rattle.clause_tokens.specs.NextTokens.{tokens_at, LayoutEnds}
use Rattle.clauses.specs.Endings.{Reaches, Fails}
use Rattle.imports.specs.declared.Taken.{Taken}
use Rattle.imports.specs.Takings.{text_for, ClauseTaken, is_taken, is_past_lem, is_unfit_lem}
use Rattle.imports.proofs.ClauseByClause.{none_read, past_read, full_read, more_read, all_read, none_left}
use Rattle.imports.proofs.ClauseRoom.{clause_room}

module _ (text : Bytes) (room : ℕ) where
  -- what import makes of the text
  abbrev whole : Importing
  whole = import_from (length text) room 0 [] begin (tokens_of text)

  -- so many clauses are taken, with these lines, and the text goes on from this place
  pub record Upto (clauses at : ℕ) (lines : Bytes) : Type 0 where
    pub high : at ≤ length text
    pub few : clauses ≤ at
    pub within : length lines ≤ room
    pub same : whole ≡ import_from (length text) room clauses lines begin (tokens_at text at)

  upto_none : Upto 0 0 []
  upto_none = record { high = omega arith; few = omega arith; within = omega arith; same = refl }

  module _ {clauses at : ℕ} {lines : Bytes} (u : Upto clauses at lines) where
    upto_more : {c : Clause} {place : ℕ} → Reaches begin (tokens_at text at) c (tokens_at text place) → at < place → place ≤ length text → clause_fits (filled c) ≡ true → length lines + length (text_for c) ≤ room
        → Upto (clauses + 1) place (lines ++ text_for c)
    upto_more {c} {place} reaches low high fits enough =
        record {
          high = high;
          few = omega (arith, u.few);
          within = omega (arith, length-append lines (text_for c));
          same =
              u.same ∙ more_read (length text) room clauses lines reaches fits (le-leb (length (lines ++ text_for c)) room (omega (arith, length-append lines (text_for c))))
              ∙ ap (λ (n : ℕ). import_from (length text) room n (lines ++ text_for c) begin (tokens_at text place)) (sym (add-one clauses));
        }

    upto_unfit : {place : ℕ} → Fails (length text) begin (tokens_at text at) place → whole ≡ refused 25 place
    upto_unfit fails = u.same ∙ none_read (length text) room clauses lines fails

    upto_past : {c : Clause} {rest : List _} → Reaches begin (tokens_at text at) c rest → clause_fits (filled c) ≡ false → whole ≡ refused 26 (clauses + 1)
    upto_past reaches unfit = u.same ∙ past_read (length text) room clauses lines reaches unfit ∙ ap (refused 26) (sym (add-one clauses))

    upto_full : {c : Clause} {rest : List _} → Reaches begin (tokens_at text at) c rest → clause_fits (filled c) ≡ true → room < length lines + length (text_for c) → whole ≡ refused 27 (clauses + 1)
    upto_full {c} reaches fits lacks =
        u.same ∙ full_read (length text) room clauses lines reaches fits (gt-leb (length (lines ++ text_for c)) room (omega (arith, length-append lines (text_for c)))) ∙ ap (refused 27) (sym (add-one clauses))

    upto_all : {end : ℕ} → LayoutEnds text at end → length text ≤ end → whole ≡ record { returned = numbers 0 clauses (length lines) 0; text = lines }
    upto_all layout past = u.same ∙ ap (import_from (length text) room clauses lines begin) (none_left layout past) ∙ all_read (length text) room clauses lines

-- ---- judging

module _ (text : Bytes) (room : ℕ) where
  pub record Judged (page : Bytes) (clauses bytes at : ℕ) : Type 0 where
    pub size : length page ≡ 9225
    pub lines : Bytes
    pub many : bytes ≡ length lines
    pub upto : Upto text room clauses at lines

  pub judged_none : {page : Bytes} → length page ≡ 9225 → Judged page 0 0 0
  judged_none size = record { size = size; lines = []; many = refl; upto = upto_none text room }

  module _ {page : Bytes} {clauses bytes at : ℕ} (j : Judged page clauses bytes at) where
    pub judged_high : at ≤ length text
    judged_high = j.upto.high

    pub judged_few : clauses ≤ length text
    judged_few = omega (arith, j.upto.few, j.upto.high)

    pub judged_within : bytes ≤ room
    judged_within = omega (arith, j.many, j.upto.within)

    pub judged_all : {end : ℕ} → LayoutEnds text at end → length text ≤ end → numbers 0 clauses bytes 0 ≡ (whole text room).returned
    judged_all layout past = ap (λ (n : ℕ). numbers 0 clauses n 0) j.many ∙ ap (λ (i : Importing). i.returned) (sym (upto_all text room j.upto layout past))

    module _ {r : Result Taken ImportRefusal} {after : Bytes} (taken : ClauseTaken text at (clauses + 1) page after r) where
      refused_is : {f : ImportRefusal} → ClauseTaken text at (clauses + 1) page after (Err f) → import_numbers (Err f) ≡ (whole text room).returned
      refused_is (is_past_lem c rest reaches lacks) =
          let unfit : clause_fits (filled c) ≡ false =
          by_truth (λ b. b ≡ false) (clause_fits (filled c)) (λ fits. absurd (omega (arith, lacks fits, clause_room (filled c) fits, j.size))) (λ e. refl) in
          ap (λ (i : Importing). i.returned) (sym (upto_past text room j.upto reaches unfit))
      refused_is (is_unfit_lem fails) = ap (λ (i : Importing). i.returned) (sym (upto_unfit text room j.upto fails))

      pub judged_refused : {f : ImportRefusal} → r ≡ Err f → import_numbers (Err f) ≡ (whole text room).returned
      judged_refused is = refused_is (subst (ClauseTaken text at (clauses + 1) page after) is taken)

      -- the clause is read and within the limits
      module _ {t : Taken} (is : r ≡ Ok t) where
        record Whole : Type 0 where
          clause : Clause
          reaches : Reaches begin (tokens_at text at) clause (tokens_at text t.place)
          low : at < t.place
          high : t.place ≤ length text
          fits : clause_fits (filled clause) ≡ true
          bytes_are : t.bytes ≡ length (text_for clause)

        is_whole : Whole
        is_whole = by (subst (ClauseTaken text at (clauses + 1) page after) is taken)
          where
            by : ClauseTaken text at (clauses + 1) page after (Ok t) → Whole
            by (is_taken c reaches low high fits has puts) = record { clause = c; reaches = reaches; low = low; high = high; fits = fits; bytes_are = puts.many }

        pub judged_full : room - bytes < t.bytes → numbers 27 (clauses + 1) 0 0 ≡ (whole text room).returned
        judged_full lacks =
            ap (λ (i : Importing). i.returned) (sym (upto_full text room j.upto is_whole.reaches is_whole.fits (omega (arith, lacks, j.many, is_whole.bytes_are))))

        pub judged_less : length text - t.place < length text - at
        judged_less = omega (arith, is_whole.low, is_whole.high)

        pub judged_more : t.bytes ≤ room - bytes → length after ≡ length page → Judged after (clauses + 1) (bytes + t.bytes) t.place
        judged_more enough same =
            let w = is_whole in
            record {
              size = same ∙ j.size;
              lines = j.lines ++ text_for w.clause;
              many = omega (arith, j.many, w.bytes_are, length-append j.lines (text_for w.clause));
              upto = upto_more text room j.upto w.reaches w.low w.high w.fits (omega (arith, j.many, j.upto.within, w.bytes_are));
            }

-- ---- writing

module _ (text buffer₀ : Bytes) where
  -- the lines of the clauses up to a place stand at the front of the buffer, and import succeeds
  pub record Written (buffer : Bytes) (clauses to at : ℕ) : Type 0 where
    pub lines : Bytes
    pub puts : Puts lines buffer₀ buffer to
    pub upto : Upto text (length buffer₀) clauses at lines
    pub succeeds : (whole text (length buffer₀)).returned.number ≡ 0

  pub written_none : (whole text (length buffer₀)).returned.number ≡ 0 → Written buffer₀ 0 0 0
  written_none succeeds = record { lines = []; puts = record { many = refl; is = refl }; upto = upto_none text (length buffer₀); succeeds = succeeds }

  module _ {buffer : Bytes} {clauses to at : ℕ} (w : Written buffer clauses to at) where
    pub written_high : at ≤ length text
    written_high = w.upto.high

    pub written_size_lem : length buffer ≡ length buffer₀
    written_size_lem = puts_size w.puts (omega (arith, w.puts.many, w.upto.within))

    pub written_within : to ≤ length buffer
    written_within = omega (arith, written_size_lem, w.puts.many, w.upto.within)

    pub written_all : {end : ℕ} → LayoutEnds text at end → length text ≤ end → buffer ≡ over (whole text (length buffer₀)).text buffer₀
    written_all layout past = puts_over w.puts ∙ ap (λ (i : Importing). over i.text buffer₀) (sym (upto_all text (length buffer₀) w.upto layout past))

    never_refused : (n k : ℕ) → (n ≡ 0 → ⊥) → whole text (length buffer₀) ≡ refused n k → ⊥
    never_refused n k some is = some (sym (ap (λ (i : Importing). i.returned.number) is) ∙ w.succeeds)

    part_size : length (mid_of to (length buffer - to) buffer) ≡ length buffer - to
    part_size = mid_len to (length buffer) buffer (omega arith)

    pub written_few : clauses ≤ length text
    written_few = omega (arith, w.upto.few, w.upto.high)

    module _ {r : Result Taken ImportRefusal} {part : Bytes} (taken : ClauseTaken text at (clauses + 1) (mid_of to (length buffer - to) buffer) part r) where
      -- the clause is read and within the limits, and its lines have room
      record Put (t : Taken) : Type 0 where
        clause : Clause
        reaches : Reaches begin (tokens_at text at) clause (tokens_at text t.place)
        low : at < t.place
        high : t.place ≤ length text
        fits : clause_fits (filled clause) ≡ true
        has : t.bytes ≤ length buffer - to
        puts : Puts (text_for clause) (mid_of to (length buffer - to) buffer) part t.bytes

      is_put : {t : Taken} → r ≡ Ok t → Put t
      is_put {t} is = by (subst (ClauseTaken text at (clauses + 1) (mid_of to (length buffer - to) buffer) part) is taken)
        where
          by : ClauseTaken text at (clauses + 1) (mid_of to (length buffer - to) buffer) part (Ok t) → Put t
          by (is_taken c reaches low high fits has puts) = record { clause = c; reaches = reaches; low = low; high = high; fits = fits; has = omega (arith, part_size); puts = puts }

      -- none is refused
      pub written_taken : IsOk r
      written_taken = by taken
        where
          by : {q : Result Taken ImportRefusal} → ClauseTaken text at (clauses + 1) (mid_of to (length buffer - to) buffer) part q → IsOk q
          by (is_taken c reaches low high fits has puts) = refl
          by (is_past_lem c rest reaches lacks) =
              absurd
              (by_truth (λ b. clause_fits (filled c) ≡ b → ⊥) (clause_fits (filled c))
              (λ _ fits. never_refused 27 (clauses + 1) (λ e. omega arith) (upto_full text (length buffer₀) w.upto reaches fits (omega (arith, lacks fits, part_size, written_size_lem, w.puts.many, w.upto.within))))
              (λ _ unfit. never_refused 26 (clauses + 1) (λ e. omega arith) (upto_past text (length buffer₀) w.upto reaches unfit)) refl)
          by (is_unfit_lem {place = place} fails) = absurd (never_refused 25 place (λ e. omega arith) (upto_unfit text (length buffer₀) w.upto fails))

      module _ {t : Taken} (is : r ≡ Ok t) where
        pub written_less : length text - t.place < length text - at
        written_less = omega (arith, (is_put is).low, (is_put is).high)

        pub written_room : to + t.bytes ≤ length buffer
        written_room = omega (arith, (is_put is).has, written_within)

        pub written_more : Written (put_mid to (length buffer - to) buffer part) (clauses + 1) (to + t.bytes) t.place
        written_more =
            let p = is_put is in
            record {
              lines = w.lines ++ text_for p.clause;
              puts = puts_more w.puts (text_for p.clause) (puts_part written_within p.puts);
              upto = upto_more text (length buffer₀) w.upto p.reaches p.low p.high p.fits (omega (arith, p.has, p.puts.many, written_within, written_size_lem, w.puts.many));
              succeeds = w.succeeds;
            }
