-- What the writers of a clause's lines cite: what is known before a token, and what each token leaves.
use mathlib.Core.Path.{◌≡◌, refl, sym, ◌∙◌, ap, subst}
use mathlib.Core.Bool.{Bool, true, false, ◌||◌}
use mathlib.Core.List.{List, [], ◌∷◌, ◌++◌}
use mathlib.Core.Option.{Option, some, none}
use Prim.Native.Nat.{ℕ, ◌+◌, ◌-◌, ◌≤◌, ◌<◌}
use native.Mathlib.Omega.{arith}
use lib.Dec.{leb, ltb}
use lib.ListN.{length, length-append}
use Rattle.std.specs.Prelude.{Some, None}
use Rattle.std.specs.Prelude as Rust
use Rattle.std.proofs.lemmas.Option.{none-some}
use Rattle.groundwork.proofs.Truth.{by_truth, or_not_left, or_not_right, ltb-lt, ltb-ge, ge-ltb, gt-leb, le-leb, leb-le, leb-gt, never_both}
use Rattle.theory.specs.Text.{Bytes, bytes, is_name, is_variable, decimal}
use Rattle.theory.specs.Terms.{Term, Terms, symbol, nil}
use Rattle.theory.specs.Terms as Terms
use Rattle.clause_theory.specs.ClauseTokens as T
use Rattle.clause_theory.specs.Clauses.{Clause, Open, Last, due, read, State, state, atom_of}
use Rattle.clause_theory.specs.Import.{numbered_variable, term_fits}
use Rattle.pages.specs.Pages.{Puts, PutAt}
use Rattle.pages.proofs.Puts.{puts_size, puts_more}
use Rattle.clause_tokens.specs.declared.Mark.{Mark}
use Rattle.clause_tokens.specs.declared.Mark.TheVariants.{Name, Variable, Lone}
use Rattle.clause_variables.proofs.FreshSearch.{numbered_variable_lem}
use Rattle.term_lines.specs.declared.Pen.{Pen}
use Rattle.term_lines.specs.Texts.{line_front, line_text, drawn_text, Moves, names_atom, names_symbol, reads_variable, ends_line, atoms_of, OpenedFit, LastFits, current, StateFits}
use Rattle.term_lines.specs.Drawings.{DigitsStand, ArgumentsBegun, Drawing, DrawnNext, drawn_on, passes, Shows, shows_name, shows_variable, shows_lone, shows_sign, Drawable, Draws, RoomTold, InLine, Separated, separated, no_separator, LetterIs}
use Rattle.term_lines.proofs.DrawnTexts.{drawn_atom_name, drawn_symbol, drawn_variable}
use Rattle.term_lines.proofs.DrawnLimits.{drawn_length, no_line, line_atom_name, atom_named, symbol_named, bare_atom_fits, bare_symbol_fits}

-- ---- room and letters

pub room_told : (left used count : ℕ) → used ≤ 1024 → RoomTold left used count (ltb left count || ltb (1024 - used) count)
room_told left used count h = record {
  enough = λ e. (omega (arith, ltb-ge left count (or_not_left (ltb left count) (ltb (1024 - used) count) e)), omega (arith, ltb-ge (1024 - used) count (or_not_right (ltb left count) (ltb (1024 - used) count) e)));
  lacking = λ e within. omega (arith, ltb-lt (1024 - used) count (second e within));
}
  where
    second : (ltb left count || ltb (1024 - used) count) ≡ true → count ≤ left → ltb (1024 - used) count ≡ true
    second e within = sym (ap (λ b. b || ltb (1024 - used) count) (ge-ltb left count within)) ∙ e

pub letter_head : {atoms : ℕ} → atoms ≡ 0 → LetterIs atoms 72
unfolding line_front atoms_of bytes
letter_head {atoms} zero = record { front = go }
  where
    go : (before : Option Clause) → atoms ≡ length (atoms_of before) → line_front before ≡ 72 ∷ 44 ∷ []
    go none e = refl
    go (some c) e = absurd (omega arith)

pub letter_subgoal : {atoms : ℕ} → (atoms ≡ 0 → ⊥) → LetterIs atoms 66
unfolding line_front atoms_of bytes
letter_subgoal {atoms} many = record { front = go }
  where
    go : (before : Option Clause) → atoms ≡ length (atoms_of before) → line_front before ≡ 66 ∷ 44 ∷ []
    go none e = absurd (many e)
    go (some c) e = refl

-- ---- what is known before a token

module _ {s : State} {d : Pen} {page₀ page : Bytes} (g : Drawing s d page₀ page) where
  pub page_size : length page ≡ length page₀
  page_size = puts_size g.puts g.room

  -- what is written: complete lines, and this one
  pub to_is : d.to ≡ d.line + length (line_text s.before s.opened s.last)
  to_is = g.puts.many ∙ drawn_length s.before s.opened s.last ∙ ap (λ n. n + length (line_text s.before s.opened s.last)) (sym g.line)

module _ {x : Bytes} {mark : Mark} {number : ℕ} {d : Pen} {page : Bytes} (w : Drawable x mark number d page) where
  pub to_within : d.to ≤ length page
  to_within = omega (arith, page_size w.drawing, w.drawing.room)

  pub drawn_in_line : InLine d page
  drawn_in_line = record { to = to_within; line = omega (arith, to_is w.drawing); used = omega (arith, to_is w.drawing, w.drawing.fits.line) }

  -- where a line begins
  pub fresh_in_line : InLine (record { to = d.to; line = d.to; atoms = d.atoms; arguments = d.arguments; compounds = d.compounds }) page
  fresh_in_line = record { to = to_within; line = omega arith; used = omega arith }

  -- where the bytes that a token adds have no room, the next state passes a limit or is longer than the page
  pub no_room : (used count : ℕ) (next : State) (r : Bool) → RoomTold (length page - d.to) used count r → r ≡ true
      → length (drawn_text next) ≡ d.to + count → length (line_text next.before next.opened next.last) ≡ used + count → StateFits next → length w.page₀ < length (drawn_text next)
  no_room used count next r told lacks drawn line fits =
      by_truth (λ _. length w.page₀ < length (drawn_text next)) (leb count (length page - d.to))
      (λ e. absurd (omega (arith, told.lacking lacks (leb-le count (length page - d.to) e), line, fits.line)))
      (λ e. omega (arith, leb-gt count (length page - d.to) e, drawn, page_size w.drawing, w.drawing.room))

-- a limit is passed: the page does not change
module _ {x : Bytes} {mark : Mark} {number : ℕ} {d : Pen} {page : Bytes} where
  pub draws_none : {e : Pen} → ((w : Drawable x mark number d page) → StateFits w.next → length w.page₀ < length (drawn_text w.next)) → Draws x mark number d page None e page
  draws_none over = record { size = refl; drawn = λ w. passes (over w) }

-- a separator, or no room for it
pub separator_put : {separator q : ℕ} {d : Pen} {page after : Bytes} {lacks : Bool} → RoomTold (length page - d.to) (d.to - d.line) 1 lacks → lacks ≡ false → PutAt (separator ∷ []) 1 page after d.to q
    → Separated separator d page (Some tt) (record { to = q; line = d.line; atoms = d.atoms; arguments = d.arguments; compounds = d.compounds }) after
separator_put {d = d} {page = page} told is copied = separated (subst (RoomTold (length page - d.to) (d.to - d.line) 1) is told) copied

pub separator_none : {separator : ℕ} {d : Pen} {page : Bytes} {lacks : Bool} → RoomTold (length page - d.to) (d.to - d.line) 1 lacks → lacks ≡ true → Separated separator d page None d page
separator_none {d = d} {page = page} told is = no_separator (subst (RoomTold (length page - d.to) (d.to - d.line) 1) is told)

-- where it has none, and the token needs it, nothing is drawn
pub separator_refused : {separator number : ℕ} {x : Bytes} {mark : Mark} {d e : Pen} {page after : Bytes} {r a : Rust.Option (Unit {0})} → (RoomTold (length page - d.to) (d.to - d.line) 1 true → Draws x mark number d page None d page)
    → Separated separator d page r e after → r ≡ None → a ≡ None → Draws x mark number d page a e after
separator_refused {number = number} {x = x} {mark = mark} {d = d} {page = page} nothing (no_separator told) refused is = subst (λ (a : Rust.Option (Unit {0})). Draws x mark number d page a d page) (sym is) (nothing told)
separator_refused nothing (separated told copied) refused is = absurd (none-some tt (sym refused))

-- ---- names

front_length : (before : Option Clause) → length (line_front before) ≡ 2
unfolding line_front bytes
front_length none = refl
front_length (some c) = refl

too_long : (isWordOf : Bytes → Bool) (x : Bytes) → isWordOf x ≡ leb (length x) 16 → 16 < length x → isWordOf x ≡ true → ⊥
too_long isWordOf x told long is = never_both is (told ∙ gt-leb (length x) 16 long)

short_enough : (isWordOf : Bytes → Bool) (x : Bytes) → isWordOf x ≡ leb (length x) 16 → length x ≤ 16 → isWordOf x ≡ true
short_enough isWordOf x told short = told ∙ le-leb (length x) 16 short

long_name : (x : Bytes) {s next : State} {m : T.Mark} → Shows x 0 Name m → Moves s m next → 16 < length x → StateFits next → ⊥
unfolding atom_of
long_name x (shows_name told) names_atom long fits = too_long is_name x told long (atom_named x nil fits.last_fits)
long_name x (shows_name told) names_symbol long fits = too_long is_name x told long (symbol_named x nil fits.last_fits)
long_name x (shows_name told) (ends_line e) long fits = elim e [ ]
long_name x (shows_sign s) _ long fits = elim s [ ]

-- where nothing is open, a name begins a line
by_atom : (P : State → State → Type 0) (x : Bytes) {s next : State} {m : T.Mark} → Shows x 0 Name m → Moves s m next → length s.opened ≡ 0
    → ((before : Option Clause) → is_name x ≡ leb (length x) 16 → P (state before [] due) (state before [] (read (symbol x nil)))) → P s next
by_atom P x (shows_name told) (names_atom {before = before}) zero p = p before told
by_atom P x (shows_name told) names_symbol zero p = absurd (omega arith)
by_atom P x (shows_name told) (ends_line e) zero p = elim e [ ]
by_atom P x (shows_sign s) _ zero p = elim s [ ]

by_symbol : (P : State → State → Type 0) (x : Bytes) {s next : State} {m : T.Mark} → Shows x 0 Name m → Moves s m next → (length s.opened ≡ 0 → ⊥)
    → ((before : Option Clause) (o : Open) (opened : List Open) → is_name x ≡ leb (length x) 16 → P (state before (o ∷ opened) due) (state before (o ∷ opened) (read (symbol x nil)))) → P s next
by_symbol P x (shows_name told) names_atom inside p = absurd (inside refl)
by_symbol P x (shows_name told) (names_symbol {before = before} {o = o} {opened = opened}) inside p = p before o opened told
by_symbol P x (shows_name told) (ends_line e) inside p = elim e [ ]
by_symbol P x (shows_sign s) _ inside p = elim s [ ]

module _ {x : Bytes} {d : Pen} {page : Bytes} where
  pub name_long : 16 < length x → Draws x Name 0 d page None d page
  name_long long = draws_none (λ w fits. absurd (long_name x w.shows w.moves (omega arith) fits))

  module _ (shut : d.compounds.depth ≡ 0) where
    pub atoms_many : 8 < d.atoms → Draws x Name 0 d page None d page
    unfolding current
    atoms_many many = draws_none (λ w. by_atom (λ s next. Drawing s d w.page₀ page → StateFits next → length w.page₀ < length (drawn_text next)) x w.shows w.moves
        (omega (arith, w.drawing.depth, shut)) (λ before told g fits. absurd (omega (arith, g.atoms, fits.count))) w.drawing)

    pub atom_no_room : (lacks : Bool) → RoomTold (length page - d.to) (d.to - d.to) (length x + 2) lacks → lacks ≡ true → Draws x Name 0 d page None (record { to = d.to; line = d.to; atoms = d.atoms; arguments = d.arguments; compounds = d.compounds }) page
    atom_no_room lacks told is = draws_none (λ w. by_atom (λ s next. Drawing s d w.page₀ page → StateFits next → length w.page₀ < length (drawn_text next)) x w.shows w.moves
        (omega (arith, w.drawing.depth, shut))
        (λ before word g. no_room w (d.to - d.to) (length x + 2) (state before [] (read (symbol x nil))) lacks told is
        (omega (arith, ap length (drawn_atom_name before x), length-append (drawn_text (state before [] due)) (line_front before ++ x), length-append (line_front before) x, front_length before, g.puts.many))
        (omega (arith, line_atom_name before x, no_line before, length-append (line_front before) x, front_length before)))
        w.drawing)

    pub atom_put : {after : Bytes} {q l : ℕ} (lacks : Bool) → length x ≤ 16 → d.atoms ≤ 8 → RoomTold (length page - d.to) (d.to - d.to) (length x + 2) lacks → lacks ≡ false → LetterIs d.atoms l
        → PutAt (l ∷ 44 ∷ x) (length x + 2) page after d.to q
        → Draws x Name 0 d page (Some tt) (record { to = q; line = d.to; atoms = d.atoms; arguments = 0; compounds = d.compounds }) after
    unfolding current atom_of
    atom_put {after} {q} {l} lacks short few told is front copied =
        record {
          size = copied.size;
          drawn = λ w. by_atom (λ s next. Drawing s d w.page₀ page → DrawnNext next (record { to = q; line = d.to; atoms = d.atoms; arguments = 0; compounds = d.compounds }) w.page₀ after (Some tt)) x w.shows w.moves
              (omega (arith, w.drawing.depth, shut)) (λ before word g. drawn_on (drawing before word g)) w.drawing;
        }
      where
        text_is : (before : Option Clause) → d.atoms ≡ length (atoms_of before) → drawn_text (state before [] due) ++ (l ∷ 44 ∷ x) ≡ drawn_text (state before [] (read (symbol x nil)))
        text_is before e = sym (drawn_atom_name before x ∙ rw (front.front before e) refl)

        drawing : {page₀ : Bytes} (before : Option Clause) → is_name x ≡ leb (length x) 16 → Drawing (state before [] due) d page₀ page
            → Drawing (state before [] (read (symbol x nil))) (record { to = q; line = d.to; atoms = d.atoms; arguments = 0; compounds = d.compounds }) page₀ after
        drawing {page₀} before word g =
            let put : Puts (drawn_text (state before [] (read (symbol x nil)))) page₀ after q = subst (λ bs. Puts bs page₀ after q) (text_is before g.atoms) (puts_more g.puts (l ∷ 44 ∷ x) copied.puts) in
            record {
              puts = put;
              room = omega (arith, put.many, ap length (text_is before g.atoms), length-append (drawn_text (state before [] due)) (l ∷ 44 ∷ x), g.puts.many, (told.enough is).0, page_size g, g.room);
              line = g.puts.many ∙ omega (arith, drawn_length before [] due, no_line before);
              depth = shut;
              atoms = g.atoms;
              arguments = tt;
              stand = tt;
              fits = record {
                atoms = g.fits.atoms;
                lines = g.fits.lines;
                count = omega (arith, g.atoms);
                opens_fit = tt;
                last_fits = bare_atom_fits x (short_enough is_name x word (omega arith));
                line = omega (arith, line_atom_name before x, no_line before, length-append (line_front before) x, front_length before, (told.enough is).1);
              };
            }

-- one more token in the line: what is added, the line's length and the limits
module _ {d : Pen} {page after : Bytes} {used count q : ℕ} (more : Bytes) (lacks : Bool) (told : RoomTold (length page - d.to) used count lacks) (is : lacks ≡ false) (copied : PutAt more count page after d.to q) (same : used ≡ d.to - d.line) where
  pub in_line : {page₀ : Bytes} {before : Option Clause} (opened next : List Open) (last since : Last) → Drawing (state before opened last) d page₀ page
      → (r : Pen) → r.to ≡ q → r.line ≡ d.line → r.compounds.depth ≡ length next → r.atoms ≡ d.atoms → ArgumentsBegun next r.arguments → DigitsStand before next r.compounds.digits
      → drawn_text (state before next since) ≡ drawn_text (state before opened last) ++ more → length (line_text before next since) ≡ length (line_text before opened last) + count
      → current next since ≡ current opened last → OpenedFit next → LastFits next since → Drawing (state before next since) r page₀ after
  in_line {page₀} {before} opened next last since g r to line depth atoms begun stand text_is grown as_many isOpen is_last =
      let put : Puts (drawn_text (state before next since)) page₀ after q = subst (λ bs. Puts bs page₀ after q) (sym text_is) (puts_more g.puts more copied.puts) in
      record {
        puts = subst (λ i. Puts (drawn_text (state before next since)) page₀ after i) (sym to) put;
        room = omega (arith, to, copied.after, (told.enough is).0, page_size g, g.room);
        line = line ∙ g.line;
        depth = depth;
        atoms = atoms ∙ g.atoms;
        arguments = begun;
        stand = stand;
        fits = record {
          atoms = g.fits.atoms;
          lines = g.fits.lines;
          count = omega (arith, g.fits.count);
          opens_fit = isOpen;
          last_fits = is_last;
          line = omega (arith, grown, (told.enough is).1, to_is g);
        };
      }

-- the same compounds are open, and a term is read
in_compound : {d : Pen} {page after page₀ : Bytes} {count q : ℕ} {before : Option Clause} {o : Open} {opened : List Open} (more : Bytes) (t : Term) (lacks : Bool) → RoomTold (length page - d.to) (d.to - d.line) count lacks → lacks ≡ false
    → PutAt more count page after d.to q
    → drawn_text (state before (o ∷ opened) (read t)) ≡ drawn_text (state before (o ∷ opened) due) ++ more → length more ≡ count → term_fits t ≡ true → Drawing (state before (o ∷ opened) due) d page₀ page → DrawnNext (state before (o ∷ opened) (read t)) (record { to = q; line = d.line; atoms = d.atoms; arguments = d.arguments; compounds = d.compounds }) page₀ after (Some tt)
unfolding current
in_compound {d} {page} {after} {page₀} {count} {q} {before} {o} {opened} more t lacks told is copied text_is size fits g =
    let grown : length (line_text before (o ∷ opened) (read t)) ≡ length (line_text before (o ∷ opened) due) + count =
    omega (arith, ap length text_is, length-append (drawn_text (state before (o ∷ opened) due)) more, drawn_length before (o ∷ opened) (read t), drawn_length before (o ∷ opened) due) in
    drawn_on (in_line more lacks told is copied refl (o ∷ opened) (o ∷ opened) due (read t) g _ refl refl g.depth refl g.arguments g.stand text_is grown refl g.fits.opens_fit fits)

no_room_in_compound : {x : Bytes} {mark : Mark} {number : ℕ} {d : Pen} {page : Bytes} (w : Drawable x mark number d page) {before : Option Clause} {o : Open} {opened : List Open} {count : ℕ} (more : Bytes) (t : Term) (lacks : Bool)
    → RoomTold (length page - d.to) (d.to - d.line) count lacks → lacks ≡ true → drawn_text (state before (o ∷ opened) (read t)) ≡ drawn_text (state before (o ∷ opened) due) ++ more → length more ≡ count → Drawing (state before (o ∷ opened) due) d w.page₀ page
    → StateFits (state before (o ∷ opened) (read t)) → length w.page₀ < length (drawn_text (state before (o ∷ opened) (read t)))
no_room_in_compound {d = d} w {before} {o} {opened} {count} more t lacks told is text_is size g =
    let grown = length-append (drawn_text (state before (o ∷ opened) due)) more in
    no_room w (d.to - d.line) count (state before (o ∷ opened) (read t)) lacks told is (omega (arith, ap length text_is, grown, g.puts.many))
    (omega (arith, ap length text_is, grown, drawn_length before (o ∷ opened) (read t), drawn_length before (o ∷ opened) due, to_is g))

-- ---- symbols

bare_length : (x : Bytes) (n : ℕ) → length x ≡ n → length (x ++ (47 ∷ 48 ∷ [])) ≡ n + 2
bare_length x n e = omega (arith, length-append x (47 ∷ 48 ∷ []))

module _ {x : Bytes} {d : Pen} {page : Bytes} (inside : d.compounds.depth ≡ 0 → ⊥) where
  pub symbol_no_room : (lacks : Bool) → RoomTold (length page - d.to) (d.to - d.line) (length x + 2) lacks → lacks ≡ true → Draws x Name 0 d page None d page
  symbol_no_room lacks told is = draws_none (λ w. by_symbol (λ s next. Drawing s d w.page₀ page → StateFits next → length w.page₀ < length (drawn_text next)) x w.shows w.moves
      (λ e. inside (w.drawing.depth ∙ e))
      (λ before o opened word. no_room_in_compound w (x ++ (47 ∷ 48 ∷ [])) (symbol x nil) lacks told is (drawn_symbol before o opened x) (bare_length x (length x) (refl)))
      w.drawing)

  pub symbol_put : {after : Bytes} {q : ℕ} (lacks : Bool) → length x ≤ 16 → RoomTold (length page - d.to) (d.to - d.line) (length x + 2) lacks → lacks ≡ false → PutAt (x ++ (47 ∷ 48 ∷ [])) (length x + 2) page after d.to q
      → Draws x Name 0 d page (Some tt) (record { to = q; line = d.line; atoms = d.atoms; arguments = d.arguments; compounds = d.compounds }) after
  symbol_put {after} {q} lacks short told is copied = record {
    size = copied.size;
    drawn = λ w. by_symbol (λ s next. Drawing s d w.page₀ page → DrawnNext next (record { to = q; line = d.line; atoms = d.atoms; arguments = d.arguments; compounds = d.compounds }) w.page₀ after (Some tt)) x w.shows w.moves (λ e. inside (w.drawing.depth ∙ e))
        (λ before o opened word. in_compound (x ++ (47 ∷ 48 ∷ [])) (symbol x nil) lacks told is copied (drawn_symbol before o opened x) (bare_length x (length x) (refl))
        (bare_symbol_fits x (short_enough is_name x word (omega arith))))
        w.drawing;
  }

-- ---- variables

numbered_length : (number many : ℕ) → many ≡ length (decimal number) → length (numbered_variable number) ≡ many + 1
unfolding numbered_variable
numbered_length number many size = omega (arith, size)

by_variable : (P : State → State → Type 0) (x : Bytes) {s next : State} {m : T.Mark} → Shows x 0 Variable m → Moves s m next
    → ((before : Option Clause) (o : Open) (opened : List Open) → is_variable x ≡ leb (length x) 16 → P (state before (o ∷ opened) due) (state before (o ∷ opened) (read (Terms.variable x)))) → P s next
by_variable P x (shows_variable told) (reads_variable {before = before} {o = o} {opened = opened}) p = p before o opened told
by_variable P x (shows_variable told) (ends_line e) p = elim e [ ]
by_variable P x (shows_sign s) _ p = elim s [ ]

by_lone : (P : State → State → Type 0) (x : Bytes) (number : ℕ) {s next : State} {m : T.Mark} → Shows x number Lone m → Moves s m next
    → ((before : Option Clause) (o : Open) (opened : List Open) → number < 100 → P (state before (o ∷ opened) due) (state before (o ∷ opened) (read (Terms.variable (numbered_variable number))))) → P s next
by_lone P x number (shows_lone small) (reads_variable {before = before} {o = o} {opened = opened}) p = p before o opened small
by_lone P x number (shows_lone small) (ends_line e) p = elim e [ ]
by_lone P x number (shows_sign s) _ p = elim s [ ]

variable_fits : (x : Bytes) → is_variable x ≡ true → term_fits (Terms.variable x) ≡ true
unfolding term_fits
variable_fits x h = h

fits_variable : (x : Bytes) → term_fits (Terms.variable x) ≡ true → is_variable x ≡ true
unfolding term_fits
fits_variable x h = h

module _ {x : Bytes} {d : Pen} {page : Bytes} where
  pub variable_long : 16 < length x → Draws x Variable 0 d page None d page
  variable_long long = draws_none (λ w. by_variable (λ s next. StateFits next → length w.page₀ < length (drawn_text next)) x w.shows w.moves
      (λ before o opened told fits. absurd (too_long is_variable x told (omega arith) (fits_variable x fits.last_fits))))

  pub variable_no_room : (lacks : Bool) → RoomTold (length page - d.to) (d.to - d.line) (length x) lacks → lacks ≡ true → Draws x Variable 0 d page None d page
  variable_no_room lacks told is = draws_none (λ w. by_variable (λ s next. Drawing s d w.page₀ page → StateFits next → length w.page₀ < length (drawn_text next)) x w.shows w.moves
      (λ before o opened word. no_room_in_compound w x (Terms.variable x) lacks told is (drawn_variable before o opened x) (refl)) w.drawing)

  pub variable_put : {after : Bytes} {q : ℕ} (lacks : Bool) → length x ≤ 16 → RoomTold (length page - d.to) (d.to - d.line) (length x) lacks → lacks ≡ false → PutAt x (length x) page after d.to q
      → Draws x Variable 0 d page (Some tt) (record { to = q; line = d.line; atoms = d.atoms; arguments = d.arguments; compounds = d.compounds }) after
  variable_put {after} {q} lacks short told is copied = record {
    size = copied.size;
    drawn = λ w. by_variable (λ s next. Drawing s d w.page₀ page → DrawnNext next (record { to = q; line = d.line; atoms = d.atoms; arguments = d.arguments; compounds = d.compounds }) w.page₀ after (Some tt)) x w.shows w.moves
        (λ before o opened word. in_compound x (Terms.variable x) lacks told is copied (drawn_variable before o opened x) (refl)
        (variable_fits x (short_enough is_variable x word (omega arith)))) w.drawing;
  }

module _ {x : Bytes} {number : ℕ} {d : Pen} {page : Bytes} {many : ℕ} (size : many ≡ length (decimal number)) where
  pub lone_no_room : (lacks : Bool) → RoomTold (length page - d.to) (d.to - d.line) (many + 1) lacks → lacks ≡ true → Draws x Lone number d page None d page
  lone_no_room lacks told is = draws_none (λ w. by_lone (λ s next. Drawing s d w.page₀ page → StateFits next → length w.page₀ < length (drawn_text next)) x number w.shows w.moves
      (λ before o opened small. no_room_in_compound w (numbered_variable number) (Terms.variable (numbered_variable number)) lacks told is (drawn_variable before o opened (numbered_variable number)) (numbered_length number many size)) w.drawing)

  pub lone_put : {after : Bytes} {q : ℕ} (lacks : Bool) → RoomTold (length page - d.to) (d.to - d.line) (many + 1) lacks → lacks ≡ false → PutAt (numbered_variable number) (length (decimal number) + 1) page after d.to q
      → Draws x Lone number d page (Some tt) (record { to = q; line = d.line; atoms = d.atoms; arguments = d.arguments; compounds = d.compounds }) after
  lone_put {after} {q} lacks told is copied = record {
    size = copied.size;
    drawn = λ w. by_lone (λ s next. Drawing s d w.page₀ page → DrawnNext next (record { to = q; line = d.line; atoms = d.atoms; arguments = d.arguments; compounds = d.compounds }) w.page₀ after (Some tt)) x number w.shows w.moves
        (λ before o opened small. in_compound (numbered_variable number) (Terms.variable (numbered_variable number)) lacks told is (subst (λ k. PutAt (numbered_variable number) (k + 1) page after d.to q) (sym size) copied)
        (drawn_variable before o opened (numbered_variable number)) (numbered_length number many size) (variable_fits (numbered_variable number) (numbered_variable_lem number small))) w.drawing;
  }
