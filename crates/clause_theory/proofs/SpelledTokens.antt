-- However a text is cut, its names and variables are spelled as those of the subset.
use mathlib.Core.Path.{◌≡◌, refl, sym, subst}
use mathlib.Core.Bool.{Bool, true}
use mathlib.Core.List.Memᴰ
use mathlib.Core.List.{List, ◌++◌}
use Prim.Native.Nat.{ℕ}
use Rattle.groundwork.proofs.Truth.{or_left, or_right}
use Rattle.theory.specs.Lists.{◌∈◌, every}
use Rattle.theory.specs.Text.{Bytes, bytes, same, is_upper}
use Rattle.clause_theory.specs.ClauseTokens.{Mark, Token}
use Rattle.clause_theory.specs.Cutting.{is_run, Known, a_name, a_variable, the_lone, an_opening, a_closing, a_comma, a_neck, a_stop, last_stop, Marked, known, unknown, CutFrom, nothing_left, layout_first, token_first, Cut}
use Rattle.clause_theory.specs.Import.{is_lone}
use Rattle.clause_theory.specs.Imported.{marks}
use Rattle.theory.proofs.Reading.Every.{every_cons, every_member}
use Rattle.clause_theory.proofs.SpelledMarks.{is_spelled, AllSpelled}

known_spelled : {apart : Bool} {s after : Bytes} {m : Mark} → Known apart s after m → is_spelled m ≡ true
unfolding is_spelled bytes same
known_spelled (a_name is) = is
known_spelled {s = s} (a_variable is) = or_left (is_run is_upper s) (is_lone s) is
known_spelled {s = s} (the_lone is) = or_right (is_run is_upper s) (is_lone s) (rw is refl)
known_spelled (an_opening is tight) = refl
known_spelled (a_closing is) = refl
known_spelled (a_comma is) = refl
known_spelled (a_neck is) = refl
known_spelled (a_stop c rest is follows layout) = refl
known_spelled (last_stop is none) = refl

mark_spelled : {apart : Bool} {s after : Bytes} {m : Mark} → Marked apart s after m → is_spelled m ≡ true
unfolding is_spelled
mark_spelled (known is) = known_spelled is
mark_spelled (unknown none) = refl

cut_spelled : {apart : Bool} {place : ℕ} {text : Bytes} {ts : List Token} → CutFrom apart place text ts → every is_spelled (marks ts) ≡ true
unfolding every
cut_spelled nothing_left = refl
cut_spelled (layout_first layout later) = cut_spelled later
cut_spelled (token_first {m = m} {ts = ts} piece marked later) = every_cons is_spelled m (marks ts) (mark_spelled marked) (cut_spelled later)

-- so are those at the front
pub front_spelled : {text : Bytes} {tokens : List Token} → Cut text tokens → (front rest : List Mark) → marks tokens ≡ front ++ rest → AllSpelled front
front_spelled cut front rest is m n = every_member is_spelled (cut_spelled cut) (subst (λ (ms : List Mark). m ∈ ms) (sym is) (Memᴰ.append_left rest n))
