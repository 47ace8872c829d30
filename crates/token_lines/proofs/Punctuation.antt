-- What the writers cite of parentheses, commas and the ends of lines.
use mathlib.Core.Path.{◌≡◌, refl, sym, ◌∙◌, ap, subst}
use mathlib.Core.Bool.{Bool, true, false}
use mathlib.Core.List.{List, [], ◌∷◌, ◌++◌, append_assoc}
use mathlib.Core.Option.{Option, some}
use Prim.Native.Nat.{ℕ, ◌+◌, ◌-◌, ◌*◌, ◌≤◌, ◌<◌}
use native.Mathlib.Omega.{arith}
use lib.ListN.{length, get_or, set, length-append, length-set}
use lib.Seq.{get_or-set_same, get_or-set_other}
use Rattle.std.specs.Prelude.{Some, None}
use Rattle.std.specs.Prelude as Rust
use Rattle.std.proofs.lemmas.Option.{none-some}
use Rattle.groundwork.proofs.Lists.{length_end}
use Rattle.theory.specs.Text.{Bytes, is_name}
use Rattle.theory.specs.Terms.{Term, symbol, nil, arity}
use Rattle.clause_theory.specs.ClauseTokens as T
use Rattle.clause_theory.specs.Clauses.{Clause, Open, ending_term, Last, due, read, State, state, atom_of, added}
use Rattle.clause_theory.specs.Import.{term_fits}
use Rattle.pages.specs.Pages.{Puts, PutAt}
use Rattle.pages.proofs.Puts.{puts_more, puts_change}
use Rattle.clause_tokens.specs.NextTokens.{sign_opens, sign_closes, sign_comma, sign_neck, sign_stop}
use Rattle.clause_tokens.specs.declared.Mark.{Mark}
use Rattle.clause_tokens.specs.declared.Mark.TheVariants.{Opens, Closes, Comma}
use Rattle.term_lines.specs.declared.OpenCompounds.{OpenCompounds}
use Rattle.term_lines.specs.declared.Pen.{Pen}
use Rattle.term_lines.specs.Texts.{open_text, last_text, drawn_text, Moves, opens_atom, opens_symbol, closes_one, ends_line, next_argument, next_term, atoms_of, OpenFits, OpenedFit, LastFits, current, PartsFit, StateFits}
use Rattle.term_lines.specs.Drawings.{DigitsStand, ArgumentsBegun, Drawing, DrawnNext, drawn_on, Shows, shows_sign, Drawable, Draws, RoomTold, Separated, separated, no_separator}
use Rattle.token_lines.specs.LineEnds.{EndsLine, comma_ends, neck_ends, stop_ends, LineEnded}
use Rattle.term_lines.proofs.DrawnTexts.{arity_more, drawn_atom_opens, drawn_symbol_opens, drawn_symbol_digit, drawn_closes, drawn_line, drawn_argument}
use Rattle.term_lines.proofs.DrawnLimits.{drawn_length, no_line, line_atom_opens, line_symbol_opens, line_closes, line_argument, atom_named, symbol_named, atom_fits_lem, symbol_fits, terms_fit_more, atoms_added, line_fits_lem, deep_line}
use Rattle.term_lines.proofs.Drawing.{page_size, to_is, to_within, no_room, draws_none, separator_refused, in_line}

-- ---- `(` after the name of a head or a subgoal

by_opens_atom : (P : State → State → Type 0) {x : Bytes} {s next : State} {m : T.Mark} → Shows x 0 Opens m → Moves s m next → length s.opened ≡ 0
    → ((before : Option Clause) (f : Bytes) → P (state before [] (read (symbol f nil))) (state before (record { name = f; before = nil } ∷ []) due)) → P s next
by_opens_atom P (shows_sign sign_opens) (opens_atom {before = before} {f = f}) zero p = p before f
by_opens_atom P (shows_sign sign_opens) opens_symbol zero p = absurd (omega arith)
by_opens_atom P (shows_sign sign_opens) (ends_line e) zero p = elim e [ ]

-- a compound that has just opened
bare_opens : (limit : ℕ) (f : Bytes) → 1 ≤ limit → is_name f ≡ true → OpenFits limit (record { name = f; before = nil })
unfolding arity term_fits
bare_opens limit f h named = record { named = named; few = omega arith; formed = refl }

module _ {d : Pen} {page : Bytes} (shut : d.compounds.depth ≡ 0) where
  pub opens_no_room : (lacks : Bool) → RoomTold (length page - d.to) (d.to - d.line) 1 lacks → lacks ≡ true → Draws [] Opens 0 d page None d page
  opens_no_room lacks told is = draws_none (λ w. by_opens_atom (λ s next. Drawing s d w.page₀ page → StateFits next → length w.page₀ < length (drawn_text next)) w.shows w.moves (omega (arith, w.drawing.depth, shut))
      (λ before f g. no_room w (d.to - d.line) 1 (state before (record { name = f; before = nil } ∷ []) due) lacks told is
      (omega (arith, ap length (drawn_atom_opens before f), length_end (drawn_text (state before [] (read (symbol f nil)))) 44, g.puts.many)) (omega (arith, line_atom_opens before f, to_is g))) w.drawing)

  pub opens_put : {after : Bytes} {q : ℕ} {k : OpenCompounds} (lacks : Bool) (place : ℕ) → RoomTold (length page - d.to) (d.to - d.line) 1 lacks → lacks ≡ false → k ≡ record { digits = set d.compounds.digits d.compounds.depth place; depth = d.compounds.depth + 1 }
      → PutAt (44 ∷ []) 1 page after d.to q → Draws [] Opens 0 d page (Some tt) (record { to = q; line = d.line; atoms = d.atoms; arguments = 1; compounds = k }) after
  unfolding current arity atom_of
  opens_put {after} {q} {k} lacks place told is pushed copied = record {
    size = copied.size;
    drawn = λ w. by_opens_atom (λ s next. Drawing s d w.page₀ page → DrawnNext next (record { to = q; line = d.line; atoms = d.atoms; arguments = 1; compounds = k }) w.page₀ after (Some tt)) w.shows w.moves
        (omega (arith, w.drawing.depth, shut))
        (λ before f g. drawn_on (in_line (44 ∷ []) lacks told is copied refl [] (record { name = f; before = nil } ∷ []) (read (symbol f nil)) due g _ refl refl (omega (arith, ap (λ (c : OpenCompounds). c.depth) pushed, shut)) refl refl tt
        (drawn_atom_opens before f) (line_atom_opens before f) refl (bare_opens 8 f (omega arith) (atom_named f nil g.fits.last_fits)) tt)) w.drawing;
  }

  pub opens_refused : {e : Pen} {after : Bytes} {r a : Rust.Option (Unit {0})} → Separated 44 d page r e after → r ≡ None → a ≡ None → Draws [] Opens 0 d page a e after
  opens_refused = separator_refused (λ told. opens_no_room true told refl)

  pub opens_accepted : {e : Pen} {after : Bytes} {r : Rust.Option (Unit {0})} {u : Unit {0}} {k : OpenCompounds} (place : ℕ) → Separated 44 d page r e after → r ≡ Some u → k ≡ record { digits = set e.compounds.digits e.compounds.depth place; depth = e.compounds.depth + 1 }
      → Draws [] Opens 0 d page (Some tt) (record { to = e.to; line = e.line; atoms = e.atoms; arguments = 1; compounds = k }) after
  opens_accepted place (separated told copied) is pushed = opens_put false place told refl pushed copied
  opens_accepted place (no_separator told) is pushed = absurd (none-some tt is)

  pub opens_depth : {e : Pen} {after : Bytes} {r : Rust.Option (Unit {0})} {u : Unit {0}} → Separated 44 d page r e after → r ≡ Some u → e.compounds.depth < 256
  opens_depth (separated told copied) is = omega (arith, shut)
  opens_depth (no_separator told) is = absurd (none-some tt is)

-- ---- a comma after an argument of a head or a subgoal

by_argument : (P : State → State → Type 0) {x : Bytes} {s next : State} {m : T.Mark} → Shows x 0 Comma m → Moves s m next → length s.opened ≡ 1
    → ((before : Option Clause) (o : Open) (t : Term) → P (state before (o ∷ []) (read t)) (state before (record { name = o.name; before = ending_term t o.before } ∷ []) due)) → P s next
by_argument P (shows_sign sign_comma) (ends_line e) one p = absurd (omega arith)
by_argument P (shows_sign sign_comma) (next_argument {before = before} {o = o} {t = t}) one p = p before o t
by_argument P (shows_sign sign_comma) next_term one p = absurd (omega arith)

module _ {d : Pen} {page : Bytes} (single : d.compounds.depth ≡ 1) where
  pub arguments_many : 7 < d.arguments → Draws [] Comma 0 d page None d page
  arguments_many many = draws_none (λ w. by_argument (λ s next. Drawing s d w.page₀ page → StateFits next → length w.page₀ < length (drawn_text next)) w.shows w.moves (omega (arith, w.drawing.depth, single))
      (λ before o t g fits. absurd (omega (arith, g.arguments, fits.opens_fit.few, arity_more t o.before))) w.drawing)

  pub argument_no_room : (lacks : Bool) → RoomTold (length page - d.to) (d.to - d.line) 1 lacks → lacks ≡ true → Draws [] Comma 0 d page None d page
  argument_no_room lacks told is = draws_none (λ w. by_argument (λ s next. Drawing s d w.page₀ page → StateFits next → length w.page₀ < length (drawn_text next)) w.shows w.moves (omega (arith, w.drawing.depth, single))
      (λ before o t g. no_room w (d.to - d.line) 1 (state before (record { name = o.name; before = ending_term t o.before } ∷ []) due) lacks told is
      (omega (arith, ap length (drawn_argument before o t), length_end (drawn_text (state before (o ∷ []) (read t))) 44, g.puts.many)) (omega (arith, line_argument before o t, to_is g))) w.drawing)

  pub argument_put : {after : Bytes} {q : ℕ} (lacks : Bool) → d.arguments ≤ 7 → RoomTold (length page - d.to) (d.to - d.line) 1 lacks → lacks ≡ false → PutAt (44 ∷ []) 1 page after d.to q
      → Draws [] Comma 0 d page (Some tt) (record { to = q; line = d.line; atoms = d.atoms; arguments = d.arguments + 1; compounds = d.compounds }) after
  unfolding current
  argument_put {after} {q} lacks few told is copied = record {
    size = copied.size;
    drawn = λ w. by_argument (λ s next. Drawing s d w.page₀ page → DrawnNext next (record { to = q; line = d.line; atoms = d.atoms; arguments = d.arguments + 1; compounds = d.compounds }) w.page₀ after (Some tt)) w.shows w.moves
        (omega (arith, w.drawing.depth, single))
        (λ before o t g. drawn_on (in_line (44 ∷ []) lacks told is copied refl (o ∷ []) (record { name = o.name; before = ending_term t o.before } ∷ []) (read t) due g _ refl refl g.depth refl
        (omega (arith, g.arguments, arity_more t o.before)) tt (drawn_argument before o t) (line_argument before o t) refl
        (record { named = g.fits.opens_fit.named; few = omega (arith, g.arguments, arity_more t o.before); formed = terms_fit_more t o.before g.fits.opens_fit.formed g.fits.last_fits }) tt)) w.drawing;
  }

  pub argument_refused : {e : Pen} {after : Bytes} {r a : Rust.Option (Unit {0})} → Separated 44 d page r e after → r ≡ None → a ≡ None → Draws [] Comma 0 d page a e after
  argument_refused = separator_refused (λ told. argument_no_room true told refl)

  pub argument_accepted : {e : Pen} {after : Bytes} {r : Rust.Option (Unit {0})} {u : Unit {0}} → d.arguments ≤ 7 → Separated 44 d page r e after → r ≡ Some u
      → Draws [] Comma 0 d page (Some tt) (record { to = e.to; line = e.line; atoms = e.atoms; arguments = e.arguments + 1; compounds = e.compounds }) after
  argument_accepted few (separated told copied) is = argument_put false few told refl copied
  argument_accepted few (no_separator told) is = absurd (none-some tt is)

-- ---- `)`

by_closes : (P : State → State → Type 0) {x : Bytes} {s next : State} {m : T.Mark} → Shows x 0 Closes m → Moves s m next
    → ((before : Option Clause) (o : Open) (opened : List Open) (t : Term) → P (state before (o ∷ opened) (read t)) (state before opened (read (symbol o.name (ending_term t o.before))))) → P s next
by_closes P (shows_sign sign_closes) (closes_one {before = before} {o = o} {opened = opened} {t = t}) p = p before o opened t
by_closes P (shows_sign sign_closes) (ends_line e) p = elim e [ ]

-- one compound fewer is open
begun_before : (o : Open) (opened : List Open) (n : ℕ) → ArgumentsBegun (o ∷ opened) n → ArgumentsBegun opened n
begun_before o [] n h = tt
begun_before o (p ∷ opened) n h = h

stand_before : (before : Option Clause) (o : Open) (opened : List Open) (digits : List ℕ) → DigitsStand before (o ∷ opened) digits → DigitsStand before opened digits
stand_before before o [] digits h = tt
stand_before before o (p ∷ opened) digits h = h.1

opened_before : (o : Open) (opened : List Open) → OpenedFit (o ∷ opened) → OpenedFit opened
opened_before o [] fits = tt
opened_before o (p ∷ opened) fits = fits.1

closed_fits : (o : Open) (opened : List Open) (t : Term) → OpenedFit (o ∷ opened) → term_fits t ≡ true → LastFits opened (read (symbol o.name (ending_term t o.before)))
unfolding atom_of
closed_fits o [] t fits h = atom_fits_lem o.name (ending_term t o.before) fits.named (omega (arith, fits.few, arity_more t o.before)) (terms_fit_more t o.before fits.formed h)
closed_fits o (p ∷ opened) t fits h = symbol_fits o.name (ending_term t o.before) fits.0.named (omega (arith, fits.0.few, arity_more t o.before)) (terms_fit_more t o.before fits.0.formed h)

-- an atom is being read still
still_one : (opened : List Open) (t : Term) → current opened (read t) ≡ 1
unfolding current
still_one [] t = refl
still_one (o ∷ opened) t = refl

module _ {d : Pen} {page : Bytes} where
  pub closes_deep : Drawable [] Closes 0 d page → 1 ≤ d.compounds.depth
  closes_deep w = by_closes (λ s next. d.compounds.depth ≡ length s.opened → 1 ≤ d.compounds.depth) w.shows w.moves (λ before o opened t e. omega arith) w.drawing.depth

  pub closes_put : {k : OpenCompounds} → k ≡ record { digits = d.compounds.digits; depth = d.compounds.depth - 1 } → Draws [] Closes 0 d page (Some tt) (record { to = d.to; line = d.line; atoms = d.atoms; arguments = d.arguments; compounds = k }) page
  closes_put {k} popped = record {
    size = refl;
    drawn = λ w. by_closes (λ s next. Drawing s d w.page₀ page → DrawnNext next (record { to = d.to; line = d.line; atoms = d.atoms; arguments = d.arguments; compounds = k }) w.page₀ page (Some tt)) w.shows w.moves
        (λ before o opened t g. drawn_on (record {
          puts = subst (λ bs. Puts bs w.page₀ page d.to) (sym (drawn_closes before o opened t)) g.puts;
          room = g.room;
          line = g.line;
          depth = omega (arith, ap (λ (c : OpenCompounds). c.depth) popped, g.depth);
          atoms = g.atoms;
          arguments = begun_before o opened d.arguments g.arguments;
          stand = subst (DigitsStand before opened) (sym (ap (λ (c : OpenCompounds). c.digits) popped)) (stand_before before o opened d.compounds.digits g.stand);
          fits = record {
            atoms = g.fits.atoms;
            lines = g.fits.lines;
            count = omega (arith, g.fits.count, still_one opened (symbol o.name (ending_term t o.before)), still_one (o ∷ opened) t);
            opens_fit = opened_before o opened g.fits.opens_fit;
            last_fits = closed_fits o opened t g.fits.opens_fit g.fits.last_fits;
            line = omega (arith, line_closes before o opened t, g.fits.line);
          };
        })) w.drawing;
  }

-- ---- the end of a line

by_ends : (P : State → State → Type 0) {x : Bytes} {k : Mark} {s next : State} {m : T.Mark} → EndsLine k → Shows x 0 k m → Moves s m next → length s.opened ≡ 0
    → ((before : Option Clause) (t : Term) → P (state before [] (read t)) (state (some (added before (atom_of t))) [] due)) → P s next
by_ends P comma_ends (shows_sign sign_comma) (ends_line {before = before} {t = t} e) zero p = p before t
by_ends P comma_ends (shows_sign sign_comma) next_argument zero p = absurd (omega arith)
by_ends P comma_ends (shows_sign sign_comma) next_term zero p = absurd (omega arith)
by_ends P neck_ends (shows_sign sign_neck) (ends_line {before = before} {t = t} e) zero p = p before t
by_ends P stop_ends (shows_sign sign_stop) (ends_line {before = before} {t = t} e) zero p = p before t

module _ {mark : Mark} {d : Pen} {page : Bytes} (shut : d.compounds.depth ≡ 0) (ends : EndsLine mark) where
  pub end_no_room : length page ≤ d.to → Draws [] mark 0 d page None d page
  end_no_room full = draws_none (λ w. by_ends (λ s next. Drawing s d w.page₀ page → StateFits next → length w.page₀ < length (drawn_text next)) ends w.shows w.moves (omega (arith, w.drawing.depth, shut))
      (λ before t g fits. omega (arith, ap length (drawn_line before t), length_end (drawn_text (state before [] (read t))) 10, g.puts.many, page_size g)) w.drawing)

  pub end_put : {after : Bytes} {q : ℕ} → d.to < length page → PutAt (10 ∷ []) 1 page after d.to q
      → Draws [] mark 0 d page (Some tt) (record { to = q; line = q; atoms = d.atoms + 1; arguments = 0; compounds = d.compounds }) after
  end_put {after} {q} room copied = record {
    size = copied.size;
    drawn = λ w. by_ends (λ s next. Drawing s d w.page₀ page → DrawnNext next (record { to = q; line = q; atoms = d.atoms + 1; arguments = 0; compounds = d.compounds }) w.page₀ after (Some tt)) ends w.shows w.moves
        (omega (arith, w.drawing.depth, shut))
        (λ before t g.
        let put : Puts (drawn_text (state (some (added before (atom_of t))) [] due)) w.page₀ after q = subst (λ bs. Puts bs w.page₀ after q) (sym (drawn_line before t)) (puts_more g.puts (10 ∷ []) copied.puts) in
        drawn_on (record {
          puts = put;
          room = omega (arith, copied.after, page_size g);
          line = omega (arith, put.many, drawn_length (some (added before (atom_of t))) [] due, no_line (some (added before (atom_of t))));
          depth = shut;
          atoms = omega (arith, g.atoms, ap length (atoms_added before (atom_of t)), length_end (atoms_of before) (atom_of t));
          arguments = tt;
          stand = tt;
          fits = line_fits_lem before t g.fits;
        })) w.drawing;
  }

module _ {d : Pen} {page : Bytes} (shut : d.compounds.depth ≡ 0) where
  pub ended_no_room : length page ≤ d.to → LineEnded d page None d page
  ended_no_room full = record { by = λ mark ends. end_no_room shut ends full }

  pub ended_put : {after : Bytes} {q : ℕ} → d.to < length page → PutAt (10 ∷ []) 1 page after d.to q
      → LineEnded d page (Some tt) (record { to = q; line = q; atoms = d.atoms + 1; arguments = 0; compounds = d.compounds }) after
  ended_put room copied = record { by = λ mark ends. end_put shut ends room copied }

-- ---- `(` after the name of a symbol

by_opens_symbol : (P : State → State → Type 0) {x : Bytes} {s next : State} {m : T.Mark} → Shows x 0 Opens m → Moves s m next → (length s.opened ≡ 0 → ⊥)
    → ((before : Option Clause) (o : Open) (opened : List Open) (f : Bytes) → P (state before (o ∷ opened) (read (symbol f nil))) (state before (record { name = f; before = nil } ∷ o ∷ opened) due)) → P s next
by_opens_symbol P (shows_sign sign_opens) opens_atom inside p = absurd (inside refl)
by_opens_symbol P (shows_sign sign_opens) (opens_symbol {before = before} {o = o} {opened = opened} {f = f}) inside p = p before o opened f
by_opens_symbol P (shows_sign sign_opens) (ends_line e) inside p = elim e [ ]

-- places kept for the compounds further out stay
stand_kept : (before : Option Clause) (opened : List Open) (digits : List ℕ) (k v : ℕ) → length opened ≤ k → DigitsStand before opened digits → DigitsStand before opened (set digits k v)
stand_kept before [] digits k v h stand = tt
stand_kept before (o ∷ []) digits k v h stand = tt
stand_kept before (o ∷ p ∷ opened) digits k v h stand = (get_or-set_other digits k (length (p ∷ opened)) v 0 (λ e. omega arith) ∙ stand.0, stand_kept before (p ∷ opened) digits k v (omega arith) stand.1)

-- what a line has, with what is read last
line_deep : (before : Option Clause) (opened : List Open) (last : Last) → PartsFit before opened last → 4 * length opened ≤ 1024
line_deep before opened last fits = omega (arith, deep_line before opened fits.opens_fit, fits.line, length-append (open_text before opened) (last_text before opened last))

pub depth_small : {x : Bytes} {mark : Mark} {number : ℕ} {d : Pen} {page : Bytes} → Drawable x mark number d page → d.compounds.depth ≤ 256
depth_small w = omega (arith, line_deep w.state.before w.state.opened w.state.last w.drawing.fits, w.drawing.depth)

module _ {d : Pen} {page : Bytes} (inside : d.compounds.depth ≡ 0 → ⊥) where
  pub too_deep : 255 < d.compounds.depth → Draws [] Opens 0 d page None d page
  too_deep deep = draws_none (λ w. by_opens_symbol (λ s next. Drawing s d w.page₀ page → StateFits next → length w.page₀ < length (drawn_text next)) w.shows w.moves (λ e. inside (w.drawing.depth ∙ e))
      (λ before o opened f g fits. absurd (omega (arith, line_deep before (record { name = f; before = nil } ∷ o ∷ opened) due fits, g.depth))) w.drawing)

  pub symbol_opens_no_room : (lacks : Bool) → RoomTold (length page - d.to) (d.to - d.line) 1 lacks → lacks ≡ true → Draws [] Opens 0 d page None d page
  symbol_opens_no_room lacks told is = draws_none (λ w. by_opens_symbol (λ s next. Drawing s d w.page₀ page → StateFits next → length w.page₀ < length (drawn_text next)) w.shows w.moves (λ e. inside (w.drawing.depth ∙ e))
      (λ before o opened f g. no_room w (d.to - d.line) 1 (state before (record { name = f; before = nil } ∷ o ∷ opened) due) lacks told is
      (omega (arith, line_symbol_opens before o opened f, drawn_length before (o ∷ opened) (read (symbol f nil)), drawn_length before (record { name = f; before = nil } ∷ o ∷ opened) due, g.puts.many)) (omega (arith, line_symbol_opens before o opened f, to_is g))) w.drawing)

  -- the last byte written is the symbol's digit
  pub digit_written : Drawable [] Opens 0 d page → 1 ≤ d.to
  digit_written w = by_opens_symbol (λ s next. Drawing s d w.page₀ page → 1 ≤ d.to) w.shows w.moves (λ e. inside (w.drawing.depth ∙ e))
      (λ before o opened f g. omega (arith, g.puts.many, ap length (drawn_symbol_digit before o opened f), length_end (drawn_text (state before (o ∷ opened) due) ++ (f ++ (47 ∷ []))) 48)) w.drawing

  pub digit_in_page : {e : Pen} {after : Bytes} {r : Rust.Option (Unit {0})} {u : Unit {0}} → Drawable [] Opens 0 d page → Separated 32 d page r e after → r ≡ Some u → d.to - 1 < length after
  digit_in_page w (separated told copied) is = omega (arith, digit_written w, to_within w, copied.size)
  digit_in_page w (no_separator told) is = absurd (none-some tt is)

  pub depth_left : {e : Pen} {after : Bytes} {r : Rust.Option (Unit {0})} {u : Unit {0}} → d.compounds.depth ≤ 255 → Separated 32 d page r e after → r ≡ Some u → e.compounds.depth < 256
  depth_left shallow (separated told copied) is = omega (arith, shallow)
  depth_left shallow (no_separator told) is = absurd (none-some tt is)

  pub symbol_opens_put : {after : Bytes} {q : ℕ} {k : OpenCompounds} (lacks : Bool) → d.compounds.depth ≤ 255 → RoomTold (length page - d.to) (d.to - d.line) 1 lacks → lacks ≡ false
      → (k ≡ record { digits = set d.compounds.digits d.compounds.depth (d.to - 1); depth = d.compounds.depth + 1 }) × (length k.digits ≡ 256) → PutAt (32 ∷ []) 1 page after d.to q
      → Draws [] Opens 0 d page (Some tt) (record { to = q; line = d.line; atoms = d.atoms; arguments = d.arguments; compounds = k }) (set after (d.to - 1) 49)
  unfolding current atom_of arity
  symbol_opens_put {after} {q} {k} lacks shallow told is (pushed, full) copied = record {
    size = length-set after (d.to - 1) 49 ∙ copied.size;
    drawn = λ w. by_opens_symbol (λ s next. Drawing s d w.page₀ page → DrawnNext next (record { to = q; line = d.line; atoms = d.atoms; arguments = d.arguments; compounds = k }) w.page₀ (set after (d.to - 1) 49) (Some tt))
        w.shows w.moves (λ e. inside (w.drawing.depth ∙ e)) (λ before o opened f g. drawn_on (drawing before o opened f g)) w.drawing;
  }
    where
      drawing : {page₀ : Bytes} (before : Option Clause) (o : Open) (opened : List Open) (f : Bytes) → Drawing (state before (o ∷ opened) (read (symbol f nil))) d page₀ page
          → Drawing (state before (record { name = f; before = nil } ∷ o ∷ opened) due) (record { to = q; line = d.line; atoms = d.atoms; arguments = d.arguments; compounds = k }) page₀ (set after (d.to - 1) 49)
      drawing {page₀} before o opened f g =
          let front = drawn_text (state before (o ∷ opened) due) ++ (f ++ (47 ∷ [])) in
          let place : d.to - 1 ≡ length front = omega (arith, g.puts.many, ap length (drawn_symbol_digit before o opened f), length_end front 48) in
          let spaced : Puts (front ++ (48 ∷ 32 ∷ [])) page₀ after q = subst (λ bs. Puts bs page₀ after q) (ap (λ bs. bs ++ (32 ∷ [])) (drawn_symbol_digit before o opened f) ∙ append_assoc front (48 ∷ []) (32 ∷ [])) (puts_more g.puts (32 ∷ []) copied.puts) in
          let size : length front ≡ length (drawn_text (state before (o ∷ opened) due)) + length f + 1 = omega (arith, length-append (drawn_text (state before (o ∷ opened) due)) (f ++ (47 ∷ [])), length_end f 47) in
          record {
            puts = subst (λ bs. Puts bs page₀ (set after (d.to - 1) 49) q) (sym (drawn_symbol_opens before o opened f)) (puts_change front 48 (32 ∷ []) 49 (d.to - 1) spaced place);
            room = omega (arith, copied.after, (told.enough is).0, page_size g, g.room);
            line = g.line;
            depth = omega (arith, ap (λ (c : OpenCompounds). c.depth) pushed, g.depth);
            atoms = g.atoms;
            arguments = g.arguments;
            stand = subst (DigitsStand before (record { name = f; before = nil } ∷ o ∷ opened)) (sym (ap (λ (c : OpenCompounds). c.digits) pushed)) (
              ap (λ i. get_or (set d.compounds.digits i (d.to - 1)) (length (o ∷ opened)) 0) g.depth ∙ get_or-set_same d.compounds.digits (length (o ∷ opened)) (d.to - 1) 0 (omega (arith, g.depth, ap (λ (c : OpenCompounds). length c.digits) pushed, length-set d.compounds.digits d.compounds.depth (d.to - 1))) ∙ place ∙ size,
              stand_kept before (o ∷ opened) d.compounds.digits d.compounds.depth (d.to - 1) (omega (arith, g.depth)) g.stand,
            );
            fits = record {
              atoms = g.fits.atoms;
              lines = g.fits.lines;
              count = g.fits.count;
              opens_fit = (bare_opens 9 f (omega arith) (symbol_named f nil g.fits.last_fits), g.fits.opens_fit);
              last_fits = tt;
              line = omega (arith, line_symbol_opens before o opened f, to_is g, (told.enough is).1);
            };
          }

  pub symbol_opens_refused : {e : Pen} {after : Bytes} {r a : Rust.Option (Unit {0})} → Separated 32 d page r e after → r ≡ None → a ≡ None → Draws [] Opens 0 d page a e after
  symbol_opens_refused = separator_refused (λ told. symbol_opens_no_room true told refl)

  pub symbol_opens_accepted : {e : Pen} {after : Bytes} {r : Rust.Option (Unit {0})} {u : Unit {0}} {k : OpenCompounds} → d.compounds.depth ≤ 255 → Separated 32 d page r e after → r ≡ Some u
      → (k ≡ record { digits = set e.compounds.digits e.compounds.depth (d.to - 1); depth = e.compounds.depth + 1 }) × (length k.digits ≡ 256)
      → Draws [] Opens 0 d page (Some tt) (record { to = e.to; line = e.line; atoms = e.atoms; arguments = e.arguments; compounds = k }) (set after (d.to - 1) 49)
  symbol_opens_accepted shallow (separated told copied) is pushed = symbol_opens_put false shallow told refl pushed copied
  symbol_opens_accepted shallow (no_separator told) is pushed = absurd (none-some tt is)
