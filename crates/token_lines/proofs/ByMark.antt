-- The writers by the kind of token, as their dispatchers cite them.
use mathlib.Core.Path.{◌≡◌, refl, ◌∙◌, subst}
use mathlib.Core.List.{[], ◌∷◌}
use Prim.Native.Nat.{ℕ}
use Rattle.std.specs.Prelude.{None}
use Rattle.std.specs.Prelude as Rust
use types.Run.{OneOf, miss}
use denote.Enum.Declared.{tag_of}
use lib.ListN.{length}
use Rattle.theory.specs.Text.{Bytes}
use Rattle.clause_theory.specs.ClauseTokens as T
use Rattle.clause_theory.specs.Clauses.{State}
use Rattle.clause_tokens.specs.contracts.Mark.{the_type}
use Rattle.clause_tokens.specs.NextTokens.{sign_opens, sign_closes, sign_comma, sign_neck, sign_stop, sign_stray}
use Rattle.clause_tokens.specs.declared.Mark.{Mark}
use Rattle.clause_tokens.specs.declared.Mark.TheVariants.{Name, Variable, Lone, Opens, Closes, Comma, Neck, Stop, Stray}
use Rattle.term_lines.specs.declared.Pen.{Pen}
use Rattle.term_lines.specs.Texts.{EndsAtom, Moves, ends_line}
use Rattle.term_lines.specs.Drawings.{Shows, shows_name, shows_variable, shows_lone, shows_sign, Drawable, Draws, passes}
use Rattle.token_lines.specs.LineEnds.{EndsLine, comma_ends, neck_ends, stop_ends, EndComes, LineEnded}

-- a stray token leads nowhere
no_stray : {s : Bytes} → EndsAtom (T.stray s) → ⊥
no_stray = elim [ ]

never_shown : {x : Bytes} {i : ℕ} {s next : State} {m : T.Mark} → Shows x i Stray m → Moves s m next → ⊥
never_shown (shows_sign sign_stray) (ends_line e) = no_stray e

-- what of a token the writer of its kind is given, its bytes or its number: the rest does not matter
pub data Given (x : Bytes) (number : ℕ) : Mark → Bytes → ℕ → Type 0 where
  given_name : Given x number Name x 0
  given_variable : Given x number Variable x 0
  given_lone : Given x number Lone [] number
  given_opens : Given x number Opens [] 0
  given_closes : Given x number Closes [] 0
  given_comma : Given x number Comma [] 0
  given_neck : Given x number Neck [] 0
  given_stop : Given x number Stop [] 0

pub shows_given : {x y : Bytes} {i j : ℕ} {k : Mark} {m : T.Mark} → Given x i k y j → Shows x i k m → Shows y j k m
shows_given given_name (shows_name told) = shows_name told
shows_given given_name (shows_sign sign) = shows_sign sign
shows_given given_variable (shows_variable told) = shows_variable told
shows_given given_variable (shows_sign sign) = shows_sign sign
shows_given given_lone (shows_lone small) = shows_lone small
shows_given given_lone (shows_sign sign) = shows_sign sign
shows_given given_opens (shows_sign sign) = shows_sign sign
shows_given given_closes (shows_sign sign) = shows_sign sign
shows_given given_comma (shows_sign sign) = shows_sign sign
shows_given given_neck (shows_sign sign) = shows_sign sign
shows_given given_stop (shows_sign sign) = shows_sign sign

module _ {x : Bytes} {mark : Mark} {number : ℕ} {d : Pen} {page : Bytes} where
  abbrev pub drawable_as : {k : Mark} {y : Bytes} {j : ℕ} → Given x number k y j → mark ≡ k → Drawable x mark number d page → Drawable y k j d page
  drawable_as given is w = record {
    page₀ = w.page₀;
    state = w.state;
    next = w.next;
    token = w.token;
    drawing = w.drawing;
    shows = shows_given given (subst (λ j. Shows x number j w.token) is w.shows);
    moves = w.moves;
  }

  pub draws_as : {k : Mark} {y : Bytes} {j : ℕ} {r : Rust.Option (Unit {0})} {e : Pen} {after : Bytes} → Given x number k y j → mark ≡ k → Draws y k j d page r e after → Draws x mark number d page r e after
  draws_as given is draws = record { size = draws.size; drawn = λ w. draws.drawn (drawable_as given is w) }

  -- no move is by another token
  pub draws_other : mark ≡ Stray → Draws x mark number d page None d page
  draws_other is = record { size = refl; drawn = λ w. passes (λ fits. absurd (never_shown (subst (λ (k : Mark). Shows x number k w.token) is w.shows) w.moves)) }

-- ---- the ends of lines

pub ends_by_tag : (k : Mark) → OneOf (6 ∷ 7 ∷ []) (tag_of the_type k) → EndsLine k
ends_by_tag Name way = absurd (miss (6 ∷ 7 ∷ []) 0 tt way)
ends_by_tag Variable way = absurd (miss (6 ∷ 7 ∷ []) 1 tt way)
ends_by_tag Lone way = absurd (miss (6 ∷ 7 ∷ []) 2 tt way)
ends_by_tag Opens way = absurd (miss (6 ∷ 7 ∷ []) 3 tt way)
ends_by_tag Closes way = absurd (miss (6 ∷ 7 ∷ []) 4 tt way)
ends_by_tag Comma way = absurd (miss (6 ∷ 7 ∷ []) 5 tt way)
ends_by_tag Neck way = neck_ends
ends_by_tag Stop way = stop_ends
ends_by_tag Stray way = absurd (miss (6 ∷ 7 ∷ []) 8 tt way)

ends_given : {x : Bytes} {number : ℕ} {k : Mark} → EndsLine k → Given x number k [] 0
ends_given comma_ends = given_comma
ends_given neck_ends = given_neck
ends_given stop_ends = given_stop

-- nothing is open where a neck or a stop stands
shut_there : {x : Bytes} {i : ℕ} {k : Mark} {s next : State} {m : T.Mark} → Shows x i k m → Moves s m next → OneOf (6 ∷ 7 ∷ []) (tag_of the_type k) → length s.opened ≡ 0
shut_there (shows_name told) moves way = absurd (miss (6 ∷ 7 ∷ []) 0 tt way)
shut_there (shows_variable told) moves way = absurd (miss (6 ∷ 7 ∷ []) 1 tt way)
shut_there (shows_lone small) moves way = absurd (miss (6 ∷ 7 ∷ []) 2 tt way)
shut_there (shows_sign sign_opens) moves way = absurd (miss (6 ∷ 7 ∷ []) 3 tt way)
shut_there (shows_sign sign_closes) moves way = absurd (miss (6 ∷ 7 ∷ []) 4 tt way)
shut_there (shows_sign sign_comma) moves way = absurd (miss (6 ∷ 7 ∷ []) 5 tt way)
shut_there (shows_sign sign_neck) (ends_line e) way = refl
shut_there (shows_sign sign_stop) (ends_line e) way = refl
shut_there (shows_sign sign_stray) moves way = absurd (miss (6 ∷ 7 ∷ []) 8 tt way)

module _ {x : Bytes} {mark : Mark} {number : ℕ} {d : Pen} {page : Bytes} (way : OneOf (6 ∷ 7 ∷ []) (tag_of the_type mark)) where
  pub ends_shut : Drawable x mark number d page → d.compounds.depth ≡ 0
  ends_shut w = w.drawing.depth ∙ shut_there w.shows w.moves way

  pub end_comes : Drawable x mark number d page → EndComes d page
  end_comes w = record { mark = mark; ends = ends_by_tag mark way; drawable = drawable_as (ends_given (ends_by_tag mark way)) refl w }

  pub draws_ends : {r : Rust.Option (Unit {0})} {e : Pen} {after : Bytes} → LineEnded d page r e after → Draws x mark number d page r e after
  draws_ends ended = draws_as (ends_given (ends_by_tag mark way)) refl (ended.by mark (ends_by_tag mark way))
