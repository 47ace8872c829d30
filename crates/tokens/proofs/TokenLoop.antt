-- The loop of `read_tokens`: the arities and the places of the tokens before a place, and how many terms are wanted from there on.
use mathlib.Core.Path.{◌≡◌, refl, sym, ◌∙◌, ap, subst}
use mathlib.Core.Bool.{true, false}
use mathlib.Core.List.{List, [], ◌∷◌, ◌++◌, map, map-append, append_assoc, append-nil}
use Prim.Native.Nat.{ℕ, zero, suc, ◌+◌, ◌-◌, ◌*◌, ◌≤◌, ◌<◌}
use native.Mathlib.Decide.{dec_lt, ℕ_discrete}
use native.Mathlib.Numerals.{add-one}
use native.Mathlib.Omega.{arith}
use borrow.Author.Count.{below_more}
use lib.Dec.{eqb}
use lib.ListN.{length, get_or, take, drop, set, length-set, length-map}
use lib.Seq.{get_or-set_same, get_or-set_other, take-suc-set, length-take-le}
use Rattle.groundwork.proofs.Truth.{equal-eqb, eqb-different}
use Rattle.theory.specs.Text.{Bytes, parts_at, is_word, is_variable}
use Rattle.theory.specs.Terms.{no_token, symbol_in, token_of}
use Rattle.theory.specs.Faults.{is_term}
use Rattle.theory.proofs.Reading.Separators.{is_free}
use Rattle.theory.proofs.Reading.Tokens.{token_of_variable}
use Rattle.text.specs.Scans.{part, Finds, parts_from}
use Rattle.text.proofs.Cuts.{parts_all, parts_done, parts_step}
use Rattle.text.proofs.Parts.{free_none, free_more}
use Rattle.std.specs.Prelude.{Some, None}
use Rattle.tokens.specs.declared.Tokens.{Tokens}
use Rattle.tokens.specs.declared.TokenRoom.{TokenRoom}
use Rattle.tokens.specs.TokenRows.{standing_at, VariableAt, TokensStand, TokensRead}
use Rattle.tokens.proofs.TokenKinds.{symbol_token_lem}
use Rattle.tokens.proofs.Scan.{scan, scan_unwanted, scan_no_token, scan_takes_variable, scan_takes_symbol, scan_end, scan_is_term}
use Rattle.tokens.proofs.TermTokens.{token_arities, variable_tokens, arities_symbol, arities_variable, variable_first, other_first, term_tokens}
use Rattle.tokens.proofs.NextTokens.{NoToken, SymbolFound, VariableFound}

-- what the rows hold, and what is to come
pub record Reading (field : Bytes) (arities places : List ℕ) (wanted symbols variables from : ℕ) : Type 0 where
  pub rest : scan wanted (parts_from 32 field from) ≡ is_term field
  pub numbers : take symbols arities ++ token_arities (parts_from 32 field from) ≡ token_arities (parts_at 32 field)
  pub all : map (standing_at field) (take variables places) ++ variable_tokens (parts_from 32 field from) ≡ variable_tokens (parts_at 32 field)
  pub digits : (i : ℕ) → i < symbols → get_or arities i 0 ≤ 9
  pub each : (i : ℕ) → i < variables → VariableAt field (get_or places i 0)
  pub arity_size : length arities ≡ 512
  pub place_size : length places ≡ 512
  pub room : 2 * (symbols + variables) ≤ from
  pub small : wanted ≤ 1 + 9 * from
  pub high : from ≤ length field + 1

pub reading_none : (field : Bytes) (arities places : List ℕ) → length arities ≡ 512 → length places ≡ 512 → Reading field arities places 1 0 0 0
reading_none field arities places arity-size place-size =
    record {
      rest = ap (scan 1) (parts_all 32 field) ∙ scan_is_term field;
      numbers = ap token_arities (parts_all 32 field);
      all = ap variable_tokens (parts_all 32 field);
      digits = λ i h. absurd (omega arith);
      each = λ i h. absurd (omega arith);
      arity_size = arity-size;
      place_size = place-size;
      room = omega arith;
      small = omega arith;
      high = omega arith;
    }

-- there is a next space, or the end
next_space : (s : Bytes) (from : ℕ) (n i : ℕ) → i + n ≡ length s → from ≤ i → is_free 32 (part s from i) ≡ true → (end : ℕ) × Finds s 32 from end
next_space s from zero i whole low free = (i, record { low = low; high = omega arith; free = free; found = λ h. absurd (omega arith) })
next_space s from (suc n) i whole low free =
    by (ℕ_discrete (get_or s i 0) 32) (λ other. next_space s from n (i + 1) (omega arith) (omega arith) (free_more s 32 from i low (omega arith) free other))
  where
    by : Dec (get_or s i 0 ≡ 32) → ((get_or s i 0 ≡ 32 → ⊥) → (end : ℕ) × Finds s 32 from end) → (end : ℕ) × Finds s 32 from end
    by (yes e) later = (i, record { low = low; high = omega arith; free = free; found = λ _. e })
    by (no other) later = later other

pub token_end : (s : Bytes) (from : ℕ) → from ≤ length s → (end : ℕ) × Finds s 32 from end
token_end s from h = next_space s from (length s - from) from (omega arith) (omega arith) (free_none s 32 from)

empty_no_token : token_of [] ≡ no_token
unfolding token_of is_word parts_at symbol_in
empty_no_token = refl

-- a field that is no term, whatever the room holds
pub no_term_read : (field : Bytes) → false ≡ is_term field → (room : TokenRoom) → TokensRead field None room
no_term_read field none_there room = record { fine = none_there; stand = λ read e. let never : ◌≡◌ {A = ℕ} 0 1 = cc in absurd (omega arith) }

module _ (field : Bytes) (room : TokenRoom) (wanted symbols variables from : ℕ) (reading : Reading field room.arities room.places wanted symbols variables from) where
  abbrev arities : List ℕ
  arities = room.arities

  abbrev places : List ℕ
  places = room.places

  module _ (more : from ≤ length field) where
    -- with the next token in front
    reading_at : (end : ℕ) → Finds field 32 from end → scan wanted (part field from end ∷ parts_from 32 field (end + 1)) ≡ is_term field
    reading_at end found = ap (scan wanted) (sym (parts_step 32 field from end more found)) ∙ reading.rest

    no_term_here : NoToken field from → false ≡ is_term field
    no_term_here nothing =
        let next = token_end field from more in
        sym (scan_no_token _ _ wanted (nothing.none next.0 next.1)) ∙ reading_at next.0 next.1

  module _ (more : from < length field) where
    near : from ≤ length field
    near = omega arith

    pub read_unwanted : wanted ≡ 0 → (left : TokenRoom) → TokensRead field None left
    read_unwanted e = let next = token_end field from (omega arith) in no_term_read field (sym (rw e (scan_unwanted _ _)) ∙ reading_at near next.0 next.1)

    pub read_no_token : NoToken field from → (left : TokenRoom) → TokensRead field None left
    read_no_token nothing = no_term_read field (no_term_here near nothing)

    module _ (short : length field ≤ 1024) (any : wanted ≡ 0 → ⊥) (e : ℕ) where
      pub reading_symbol : (arity wide : ℕ) → SymbolFound field from e arity → wide ≡ arity → Reading field (set arities symbols arity) places (wanted - 1 + wide) (symbols + 1) variables (e + 3)
      reading_symbol arity wide symbol same =
          let w : Bytes = part field from (e + 2) in
          let later : List Bytes = parts_from 32 field (e + 3) in
          let end : e + 2 + 1 ≡ e + 3 = omega arith in
          let step : parts_from 32 field from ≡ w ∷ later = parts_step 32 field from (e + 2) near symbol.found ∙ ap (λ (n : ℕ). w ∷ parts_from 32 field n) end in
          let fits : symbols < 512 = omega (arith, reading.room) in
          let here : get_or (set arities symbols arity) symbols 0 ≡ arity = get_or-set_same arities symbols arity 0 (omega (arith, reading.arity_size)) in
          let done : List ℕ = take symbols arities in
          let longer : take (symbols + 1) (set arities symbols arity) ≡ done ++ (arity ∷ []) = rw (add-one symbols) (take-suc-set arities symbols arity (omega (arith, reading.arity_size))) in
          record {
            rest = rw same (sym (scan_takes_symbol w later wanted symbol.name arity (omega arith) symbol.read) ∙ ap (scan wanted) (sym step) ∙ reading.rest);
            numbers = ap (λ (l : List ℕ). l ++ token_arities later) longer ∙ append_assoc done (arity ∷ []) (token_arities later) ∙ ap (λ (l : List ℕ). done ++ l) (sym (arities_symbol w later symbol.name arity symbol.read) ∙ ap token_arities (sym step)) ∙ reading.numbers;
            all = ap (λ (l : List Bytes). map (standing_at field) (take variables places) ++ l) (sym (other_first w later (symbol_token_lem w symbol.name arity symbol.read)) ∙ ap variable_tokens (sym step)) ∙ reading.all;
            digits = below_more (λ (i : ℕ). get_or (set arities symbols arity) i 0 ≤ 9) symbols (λ i h. rw (get_or-set_other arities symbols i arity 0 (λ e. omega arith)) (reading.digits i h)) (omega (arith, symbol.few));
            each = reading.each;
            arity_size = length-set arities symbols arity ∙ reading.arity_size;
            place_size = reading.place_size;
            room = omega (arith, reading.room);
            small = omega (arith, reading.small, symbol.few);
            high = omega (arith, symbol.found.high);
          }

      pub reading_variable : (place : ℕ) → VariableFound field from e place → Reading field arities (set places variables place) (wanted - 1) symbols (variables + 1) (e + 1)
      reading_variable place variable =
          let w : Bytes = part field from e in
          let later : List Bytes = parts_from 32 field (e + 1) in
          let step : parts_from 32 field from ≡ w ∷ later = parts_step 32 field from e near variable.found in
          let fits : variables < 512 = omega (arith, reading.room) in
          let proper = ap is_variable (sym variable.same) ∙ variable.stands.proper in
          let done : List Bytes = map (standing_at field) (take variables places) in
          let longer : map (standing_at field) (take (variables + 1) (set places variables place)) ≡ done ++ (w ∷ []) =
          rw (add-one variables, take-suc-set places variables place (omega (arith, reading.place_size)), map-append, variable.same) in
          record {
            rest = sym (scan_takes_variable w later wanted (omega arith) (token_of_variable w proper)) ∙ ap (scan wanted) (sym step) ∙ reading.rest;
            numbers = ap (λ (l : List ℕ). take symbols arities ++ l) (sym (arities_variable w later (token_of_variable w proper)) ∙ ap token_arities (sym step)) ∙ reading.numbers;
            all = ap (λ (l : List Bytes). l ++ variable_tokens later) longer ∙ append_assoc done (w ∷ []) (variable_tokens later) ∙ ap (λ (l : List Bytes). done ++ l) (sym (variable_first w later proper) ∙ ap variable_tokens (sym step)) ∙ reading.all;
            digits = reading.digits;
            each =
                below_more (λ (i : ℕ). VariableAt field (get_or (set places variables place) i 0)) variables
                (λ i h. rw (get_or-set_other places variables i place 0 (λ e. omega arith)) (reading.each i h))
                (rw (get_or-set_same places variables place 0 (omega (arith, reading.place_size))) variable.stands);
            arity_size = reading.arity_size;
            place_size = length-set places variables place ∙ reading.place_size;
            room = omega (arith, reading.room);
            small = omega (arith, reading.small);
            high = omega (arith, variable.found.high);
          }

  -- ---- after the last token

  module _ (past : length field < from) where
    none_after : parts_from 32 field from ≡ []
    none_after = parts_done 32 field from past

    all_read : eqb wanted 0 ≡ is_term field
    all_read = sym (scan_end wanted) ∙ rw (← none_after) reading.rest

    wanting_past : (wanted ≡ 0 → ⊥) → (left : TokenRoom) → TokensRead field None left
    wanting_past more = no_term_read field (sym (eqb-different wanted 0 more) ∙ all_read)

    pub read_all : length field ≤ 1024 → wanted ≡ 0 → TokensRead field (Some record { symbols = symbols; variables = variables }) room
    unfolding variable_tokens token_arities
    read_all short e =
        let few : symbols + variables ≤ 512 = omega (arith, reading.room, reading.high) in
        let found : map (standing_at field) (take variables places) ≡ variable_tokens (parts_at 32 field) = sym (append-nil _) ∙ rw none_after at reading.all in
        let many : length (variable_tokens (parts_at 32 field)) ≡ variables = ap length (sym found) ∙ length-map (take variables places) (standing_at field) ∙ length-take-le variables places (omega (arith, reading.place_size)) in
        let stand : TokensStand field record { symbols = symbols; variables = variables } room = record {
          symbols = record { digits = record { few = omega arith; small = reading.digits }; all = λ t e. sym (term_tokens field t e).numbers ∙ sym (sym (append-nil _) ∙ rw none_after at reading.numbers) };
          places = record { few = omega arith; wide = omega (arith, reading.place_size); each = reading.each; all = λ t e. sym (found ∙ (term_tokens field t e).names) };
          many = λ t e. sym (ap length (sym (term_tokens field t e).names) ∙ many);
        } in
        record { fine = sym (equal-eqb wanted 0 e) ∙ all_read; stand = λ read is. let same : record { symbols = symbols; variables = variables } ≡ read = cc in subst (λ (r : Tokens). TokensStand field r room) same stand }

  -- the last token is empty
  pub read_open : length field ≤ from → from ≤ length field → (left : TokenRoom) → TokensRead field None left
  read_open past ahead =
      no_term_read field
      (no_term_here ahead (record { none = λ end found. let nothing : end - from ≡ 0 = omega (arith, found.high) in ap (λ (n : ℕ). token_of (take n (drop from field))) nothing ∙ empty_no_token }))

  -- terms are wanted yet
  pub read_wanting : length field ≤ from → (wanted ≡ 0 → ⊥) → (left : TokenRoom) → TokensRead field None left
  read_wanting past more = by (dec_lt (length field) from)
    where
      by : Dec (length field < from) → (left : TokenRoom) → TokensRead field None left
      by (yes beyond) = wanting_past beyond more
      by (no ahead) = read_open past (omega arith)
