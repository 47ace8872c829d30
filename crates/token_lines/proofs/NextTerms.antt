-- What the writers cite of a comma after an argument of a symbol: the symbol's digit is one more.
use mathlib.Core.Path.{◌≡◌, refl, sym, ◌∙◌, ap, subst}
use mathlib.Core.Bool.{Bool, true, false}
use mathlib.Core.List.{List, [], ◌∷◌, ◌++◌, append_assoc}
use mathlib.Core.Option.{Option}
use Prim.Native.Nat.{ℕ, suc, ◌+◌, ◌-◌, ◌≤◌, ◌<◌}
use native.Mathlib.Omega.{arith}
use lib.ListN.{length, get_or, set, drop, length-append, length-set}
use lib.Seq.{get_or-append_seam}
use Rattle.std.specs.Prelude.{Some, None}
use Rattle.std.specs.Prelude as Rust
use Rattle.std.proofs.lemmas.Option.{none-some}
use Rattle.groundwork.proofs.Lists.{length_end}
use Rattle.theory.specs.Text.{Bytes}
use Rattle.theory.specs.Terms.{Term, arity, written_term}
use Rattle.clause_theory.specs.ClauseTokens as T
use Rattle.clause_theory.specs.Clauses.{Clause, Open, ending_term, due, read, State, state}
use Rattle.theory.proofs.Reading.Decimals.{decimal_one}
use Rattle.pages.specs.Pages.{Puts, PutAt}
use Rattle.pages.proofs.Puts.{puts_more, puts_change}
use Rattle.clause_tokens.specs.NextTokens.{sign_comma}
use Rattle.clause_tokens.specs.declared.Mark.TheVariants.{Comma}
use Rattle.term_lines.specs.declared.Pen.{Pen}
use Rattle.term_lines.specs.Texts.{after_each, drawn_text, Moves, ends_line, next_argument, next_term, current, StateFits}
use Rattle.term_lines.specs.Drawings.{Drawing, DrawnNext, drawn_on, Shows, shows_sign, Drawable, Draws, RoomTold, Separated, separated, no_separator}
use Rattle.term_lines.proofs.DrawnTexts.{arity_more, drawn_digit, drawn_next}
use Rattle.term_lines.proofs.DrawnLimits.{drawn_length, line_next, terms_fit_more}
use Rattle.term_lines.proofs.Drawing.{page_size, to_is, no_room, draws_none, separator_refused}

by_term : (P : State → State → Type 0) {x : Bytes} {s next : State} {m : T.Mark} → Shows x 0 Comma m → Moves s m next → 1 < length s.opened
    → ((before : Option Clause) (o p : Open) (opened : List Open) (t : Term) → P (state before (o ∷ p ∷ opened) (read t)) (state before (record { name = o.name; before = ending_term t o.before } ∷ p ∷ opened) due)) → P s next
by_term P (shows_sign sign_comma) (ends_line e) deep p = absurd (omega arith)
by_term P (shows_sign sign_comma) next_argument deep p = absurd (omega arith)
by_term P (shows_sign sign_comma) (next_term {before = before} {o = o} {p = q} {opened = opened} {t = t}) deep p = p before o q opened t

module _ {d : Pen} {page₀ page : Bytes} {before : Option Clause} {o p : Open} {opened : List Open} {t : Term} (g : Drawing (state before (o ∷ p ∷ opened) (read t)) d page₀ page) where
  -- what stands before the digit, and after it
  front : Bytes
  front = drawn_text (state before (p ∷ opened) due) ++ (o.name ++ (47 ∷ []))

  rest : Bytes
  rest = after_each 32 o.before ++ (32 ∷ written_term t)

  few : suc (arity o.before) ≤ 9
  few = g.fits.opens_fit.0.few

  digit_text : drawn_text (state before (o ∷ p ∷ opened) (read t)) ≡ front ++ ((48 + suc (arity o.before)) ∷ rest)
  unfolding front rest
  digit_text = drawn_digit before o p opened t ∙ ap (λ bs. front ++ (bs ++ rest)) (decimal_one (suc (arity o.before)) (omega (arith, few)))

  digit_place : get_or d.compounds.digits (d.compounds.depth - 1) 0 ≡ length front
  unfolding front
  digit_place =
      ap (λ i. get_or d.compounds.digits i 0) (omega (arith, g.depth)) ∙ g.stand.0
      ∙ omega (arith, length-append (drawn_text (state before (p ∷ opened) due)) (o.name ++ (47 ∷ [])), length_end o.name 47)

  digit_before : length front < d.to
  digit_before = omega (arith, g.puts.many, ap length digit_text, length-append front ((48 + suc (arity o.before)) ∷ rest))

  digit_is : get_or page (get_or d.compounds.digits (d.compounds.depth - 1) 0) 0 ≡ 48 + suc (arity o.before)
  digit_is =
      ap (λ i. get_or page i 0) digit_place
      ∙ ap (λ bs. get_or bs (length front) 0) (g.puts.is ∙ ap (λ bs. bs ++ drop d.to page₀) digit_text ∙ append_assoc front ((48 + suc (arity o.before)) ∷ rest) (drop d.to page₀))
      ∙ get_or-append_seam front (48 + suc (arity o.before)) (rest ++ drop d.to page₀) 0

  -- with one argument more
  next_text : suc (suc (arity o.before)) ≤ 9 → drawn_text (state before (record { name = o.name; before = ending_term t o.before } ∷ p ∷ opened) due) ≡ front ++ ((48 + suc (suc (arity o.before))) ∷ (rest ++ (32 ∷ [])))
  unfolding front rest
  next_text fewer = drawn_next before o p opened t ∙ ap (λ bs. front ++ (bs ++ (rest ++ (32 ∷ [])))) (decimal_one (suc (suc (arity o.before))) (omega arith))

module _ {d : Pen} {page : Bytes} (deep : 1 < d.compounds.depth) {digit : ℕ} (place : digit ≡ get_or d.compounds.digits (d.compounds.depth - 1) 0) where
  deep_state : (w : Drawable [] Comma 0 d page) → 1 < length w.state.opened
  deep_state w = omega (arith, w.drawing.depth)

  pub digit_inside : Drawable [] Comma 0 d page → digit < length page
  digit_inside w = by_term (λ s next. Drawing s d w.page₀ page → digit < length page) w.shows w.moves (deep_state w)
      (λ before o p opened t g. omega (arith, place, digit_place g, digit_before g, page_size g, g.room)) w.drawing

  pub arity_full : 56 < get_or page digit 0 → Draws [] Comma 0 d page None d page
  arity_full full = draws_none (λ w. by_term (λ s next. Drawing s d w.page₀ page → StateFits next → length w.page₀ < length (drawn_text next)) w.shows w.moves (deep_state w)
      (λ before o p opened t g fits. absurd (omega (arith, ap (λ i. get_or page i 0) place, digit_is g, fits.opens_fit.0.few, arity_more t o.before))) w.drawing)

  pub term_no_room : (lacks : Bool) → get_or page digit 0 ≤ 56 → RoomTold (length page - d.to) (d.to - d.line) 1 lacks → lacks ≡ true → Draws [] Comma 0 d page None d page
  term_no_room lacks low told is = draws_none (λ w. by_term (λ s next. Drawing s d w.page₀ page → StateFits next → length w.page₀ < length (drawn_text next)) w.shows w.moves (deep_state w)
      (λ before o p opened t g.
      let next = state before (record { name = o.name; before = ending_term t o.before } ∷ p ∷ opened) due in
      let grown = line_next before o p opened t (omega (arith, ap (λ i. get_or page i 0) place, digit_is g)) in
      no_room w (d.to - d.line) 1 next lacks told is
      (omega (arith, grown, drawn_length before (o ∷ p ∷ opened) (read t), drawn_length before (record { name = o.name; before = ending_term t o.before } ∷ p ∷ opened) due, g.puts.many)) (omega (arith, grown, to_is g))) w.drawing)

  pub term_put : {after : Bytes} {q : ℕ} (lacks : Bool) → get_or page digit 0 ≤ 56 → RoomTold (length page - d.to) (d.to - d.line) 1 lacks → lacks ≡ false → PutAt (32 ∷ []) 1 page after d.to q
      → Draws [] Comma 0 d page (Some tt) (record { to = q; line = d.line; atoms = d.atoms; arguments = d.arguments; compounds = d.compounds }) (set after digit (get_or page digit 0 + 1))
  unfolding current
  term_put {after} {q} lacks low told is copied = record {
    size = length-set after digit (get_or page digit 0 + 1) ∙ copied.size;
    drawn = λ w. by_term (λ s next. Drawing s d w.page₀ page → DrawnNext next (record { to = q; line = d.line; atoms = d.atoms; arguments = d.arguments; compounds = d.compounds }) w.page₀ (set after digit (get_or page digit 0 + 1)) (Some tt))
        w.shows w.moves (deep_state w) (λ before o p opened t g. drawn_on (drawing before o p opened t g)) w.drawing;
  }
    where
      drawing : {page₀ : Bytes} (before : Option Clause) (o p : Open) (opened : List Open) (t : Term) → Drawing (state before (o ∷ p ∷ opened) (read t)) d page₀ page
          → Drawing (state before (record { name = o.name; before = ending_term t o.before } ∷ p ∷ opened) due) (record { to = q; line = d.line; atoms = d.atoms; arguments = d.arguments; compounds = d.compounds }) page₀ (set after digit (get_or page digit 0 + 1))
      drawing {page₀} before o p opened t g =
          let k = arity o.before in
          let now-is : get_or page digit 0 ≡ 48 + suc k = ap (λ i. get_or page i 0) place ∙ digit_is g in
          let byte : get_or page digit 0 + 1 ≡ 48 + suc (suc k) = omega (arith, now-is) in
          let fewer : suc (suc k) ≤ 9 = omega (arith, now-is) in
          let spaced : Puts (front g ++ ((48 + suc k) ∷ (rest g ++ (32 ∷ [])))) page₀ after q =
          subst (λ bs. Puts bs page₀ after q) (ap (λ bs. bs ++ (32 ∷ [])) (digit_text g) ∙ append_assoc (front g) ((48 + suc k) ∷ rest g) (32 ∷ [])) (puts_more g.puts (32 ∷ []) copied.puts) in
          let changed : Puts (front g ++ ((get_or page digit 0 + 1) ∷ (rest g ++ (32 ∷ [])))) page₀ (set after digit (get_or page digit 0 + 1)) q =
          puts_change (front g) (48 + suc k) (rest g ++ (32 ∷ [])) (get_or page digit 0 + 1) digit spaced (place ∙ digit_place g) in
          let put : Puts (front g ++ ((48 + suc (suc k)) ∷ (rest g ++ (32 ∷ [])))) page₀ (set after digit (get_or page digit 0 + 1)) q =
          subst (λ b. Puts (front g ++ (b ∷ (rest g ++ (32 ∷ [])))) page₀ (set after digit (get_or page digit 0 + 1)) q) byte changed in
          record {
            puts = subst (λ bs. Puts bs page₀ (set after digit (get_or page digit 0 + 1)) q) (sym (next_text g fewer)) put;
            room = omega (arith, copied.after, (told.enough is).0, page_size g, g.room);
            line = g.line;
            depth = g.depth;
            atoms = g.atoms;
            arguments = g.arguments;
            stand = g.stand;
            fits = record {
              atoms = g.fits.atoms;
              lines = g.fits.lines;
              count = g.fits.count;
              opens_fit = (record { named = g.fits.opens_fit.0.named; few = omega (arith, fewer, arity_more t o.before); formed = terms_fit_more t o.before g.fits.opens_fit.0.formed g.fits.last_fits }, g.fits.opens_fit.1);
              last_fits = tt;
              line = omega (arith, line_next before o p opened t fewer, to_is g, (told.enough is).1);
            };
          }

  pub term_refused : {e : Pen} {after : Bytes} {r a : Rust.Option (Unit {0})} → get_or page digit 0 ≤ 56 → Separated 32 d page r e after → r ≡ None → a ≡ None → Draws [] Comma 0 d page a e after
  term_refused low = separator_refused (λ told. term_no_room true low told refl)

  pub term_accepted : {e : Pen} {after : Bytes} {r : Rust.Option (Unit {0})} {u : Unit {0}} → get_or page digit 0 ≤ 56 → Separated 32 d page r e after → r ≡ Some u
      → Draws [] Comma 0 d page (Some tt) (record { to = e.to; line = e.line; atoms = e.atoms; arguments = e.arguments; compounds = e.compounds }) (set after digit (get_or page digit 0 + 1))
  term_accepted low (separated told copied) is = term_put false low told refl copied
  term_accepted low (no_separator told) is = absurd (none-some tt is)

  -- the digit lies on the page after the space too
  pub digit_kept : {e : Pen} {after : Bytes} {r : Rust.Option (Unit {0})} {u : Unit {0}} → Drawable [] Comma 0 d page → Separated 32 d page r e after → r ≡ Some u → digit < length after
  digit_kept w (separated told copied) is = omega (arith, digit_inside w, copied.size)
  digit_kept w (no_separator told) is = absurd (none-some tt is)
