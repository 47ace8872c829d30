-- A line that is refused, and a line that passes: what is to be shown of each.
use mathlib.Core.Path.{◌≡◌, sym, ◌∙◌, ap, subst}
use mathlib.Core.Bool.{true, false}
use mathlib.Core.List.{List}
use Prim.Native.Nat.{ℕ, ◌+◌, ◌≤◌, ◌<◌}
use native.Mathlib.Omega.{arith}
use lib.ListN.{length, drop, length-drop}
use Rattle.std.specs.Prelude.{Result, Ok, Err}
use Rattle.theory.specs.declared.Letter.{Letter}
use Rattle.theory.specs.declared.Letter.TheVariants.{P, M}
use Rattle.theory.specs.Text.{Bytes, fields_of}
use Rattle.theory.specs.Written.{line_letter, Written}
use Rattle.theory.specs.Faults.{Manner, first_given, is_unfit, may_stand, tests, fault}
use Rattle.text.specs.Scans.{parts_from}
use Rattle.tables.specs.declared.Signature.{Signature}
use Rattle.tables.specs.declared.State.{State}
use Rattle.tables.specs.declared.Opened.{Opened}
use Rattle.tables.specs.declared.Fault.{Fault}
use Rattle.tables.specs.Faults.{number_of}
use Rattle.tables.specs.Tables.{no_signature, Outline}
use Rattle.tables.specs.Sorts.{sort_of}
use Rattle.tables.specs.Lines.{skipped, opening_tests, most, NamedFor, Passed, SafeOpened}
use Rattle.tables.proofs.Outcomes.{ok_never_err, same_ok, same_err}
use Rattle.opening.specs.Opening.{OpenedFor, Opens, OpensLetter}
use Rattle.opening.proofs.LineTests.{past_five}

-- ---- refused

refused_other : (f : Fault) → (number_of f ≡ 13 → ⊥) → (g : Fault) → ◌≡◌ {A = Result Opened Fault} (Err f) (Err g) → number_of g ≡ 13 → ⊥
refused_other f other g e = subst (λ (h : Fault). number_of h ≡ 13 → ⊥) (same_err e) other

module _ (f : Fault) {line : Bytes} {s : State} where
  refused_safe : (o : Opened) → Err f ≡ Ok o → SafeOpened line s o
  refused_safe o e = absurd (ok_never_err (sym e))

  refused_for : {manner : Manner} (w : Written) → fault manner w line ≡ number_of f → OpenedFor manner line s w (Err f)
  refused_for w found = record { refused = λ g e. found ∙ ap number_of (same_err e); passed = λ o e. absurd (ok_never_err (sym e)) }

  pub refuses_line : (number_of f ≡ 13 → ⊥) → {signatures : List Signature} → ((manner : Manner) → manner.allows ≡ may_stand → (w : Written) → Outline signatures s w → fault manner w line ≡ number_of f) → Opens line signatures s (Err f)
  refuses_line other finds = record { safe = refused_safe; other = refused_other f other; tells = λ manner same w outline. refused_for w (finds manner same w outline) }

-- ---- passed

-- what a passed line needs whatever the lines before it write
pub record Keeps (line : Bytes) (s : State) (o : Opened) : Type 0 where
  pub rest : parts_from 44 line o.from ≡ drop (skipped (sort_of o.letter)) (fields_of line)
  pub few : length (fields_of line) ≤ skipped (sort_of o.letter) + most (sort_of o.letter) s
  pub place : (o.letter ≡ P → ⊥) → o.predicate < 32
  pub due : o.letter ≡ M → s.multipliers < 16
  pub low : o.signature.arity ≤ 8
  pub claimless : o.signature.claims ≡ 0

-- and what it needs of those
pub record Clears (manner : Manner) (line : Bytes) (s : State) (w : Written) (o : Opened) : Type 0 where
  pub left : first_given (tests manner o.letter (fields_of line) w.pack) ≡ first_given (drop (opening_tests o.letter) (tests manner o.letter (fields_of line) w.pack))
  pub named : NamedFor (sort_of o.letter) line s w o

-- a line that declares nothing
abbrev pub opened : Letter → ℕ → ℕ → Opened
opened l predicate from = record { letter = l; predicate = predicate; signature = no_signature; from = from }

-- the letter's own tests decide
own_tests : (manner : Manner) (l : Letter) (line : Bytes) (w : Written) → is_unfit line ≡ false → w.ended ≡ false → manner.allows w.pack l ≡ true → line_letter line ≡ l → fault manner w line ≡ first_given (tests manner l (fields_of line) w.pack)
own_tests manner l line w fit unended allowed is =
    past_five manner w line fit unended (ap (manner.allows w.pack) is ∙ allowed) ∙ ap (λ (k : Letter). first_given (tests manner k (fields_of line) w.pack)) is

module _ {line : Bytes} {signatures : List Signature} {s : State} where
  pub refuses : (l : Letter) (f : Fault) → (number_of f ≡ 13 → ⊥) → ((manner : Manner) (w : Written) → Outline signatures s w → may_stand w.pack l ≡ true → first_given (tests manner l (fields_of line) w.pack) ≡ number_of f)
      → OpensLetter l line signatures s (Err f)
  refuses l f other finds = record {
    safe = refused_safe f;
    other = refused_other f other;
    tells = λ manner w outline fit unended allowed stands is. refused_for f w (own_tests manner l line w fit unended allowed is ∙ finds manner w outline stands);
  }

  pub passes : (o : Opened) → length line ≤ 1024 → Keeps line s o → ((manner : Manner) (w : Written) → Outline signatures s w → may_stand w.pack o.letter ≡ true → Clears manner line s w o) → OpensLetter o.letter line signatures s (Ok o)
  passes o short k clears = record {
    safe = λ p e. subst (SafeOpened line s) (same_ok e) (record {
      short = short;
      few = omega (arith, ap length k.rest, length-drop (skipped (sort_of o.letter)) (fields_of line));
      place = k.place;
      due = k.due;
      low = k.low;
      claimless = k.claimless;
    });
    other = λ f e. absurd (ok_never_err e);
    tells = λ manner w outline fit unended allowed stands is.
        let clear = clears manner w outline stands in
        record {
          refused = λ f e. absurd (ok_never_err e);
          passed = λ p e. subst (λ (q : Opened). Passed manner q.letter line s w q) (same_ok e) (record {
            first = is;
            short = short;
            unended = unended;
            stands = stands;
            left = own_tests manner o.letter line w fit unended allowed is ∙ clear.left;
            rest = k.rest;
            named = clear.named;
          });
        };
  }
