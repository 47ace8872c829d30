-- What the opening of a line answers before its letter's own tests: what `open` cites.
use mathlib.Core.Path.{◌≡◌, sym, ◌∙◌}
use Rattle.std.specs.Prelude.{Result, Err}
use mathlib.Core.Bool.{Bool, true, false, not, ◌&&◌}
use mathlib.Core.List.{List}
use Prim.Native.Nat.{◌≤◌}
use native.Mathlib.Omega.{arith}
use lib.ListN.{length}
use Rattle.groundwork.proofs.Truth.{and_left, and_right, not-true}
use Rattle.theory.specs.declared.Letter.{Letter}
use Rattle.theory.specs.Text.{Bytes}
use Rattle.theory.specs.Written.{line_letter, Written}
use Rattle.theory.specs.Faults.{is_unfit, may_stand}
use Rattle.tables.specs.declared.Signature.{Signature}
use Rattle.tables.specs.declared.State.{State}
use Rattle.tables.specs.declared.Opened.{Opened}
use Rattle.tables.specs.declared.Fault.{Fault}
use Rattle.tables.specs.declared.Fault.TheVariants.{UnfitLine, Letter as Misplaced}
use Rattle.tables.specs.Tables.{Outline}
use Rattle.opening.specs.Opening.{LetterRead, Opens, OpensLetter, Stands}
use Rattle.opening.proofs.LineTests.{fit_short, fault_four, fault_five}
use Rattle.opening.proofs.Outcomes.{refuses_line}

module _ (signatures : List Signature) (s : State) (line : Bytes) (unfit : Bool) (scanned : unfit ≡ is_unfit line) where
  pub opens_unfit : unfit ≡ true → Opens line signatures s (Err UnfitLine)
  opens_unfit e = refuses_line UnfitLine (λ e. omega arith) (λ manner same w outline. fault_four manner w line (sym scanned ∙ e))

  module _ (fit : unfit ≡ false) (l : Letter) (read : LetterRead line l) (r : Bool) (stands : Stands l signatures s r) where
    stands_first : (w : Written) → Outline signatures s w → (not w.ended && may_stand w.pack (line_letter line)) ≡ r
    stands_first w outline = rw (← read.is) (sym (stands.tells w outline))

    pub opens_misplaced : r ≡ false → Opens line signatures s (Err Misplaced)
    opens_misplaced e = refuses_line Misplaced (λ e. omega arith) (λ manner same w outline. fault_five manner w line (sym scanned ∙ fit) (rw same (stands_first w outline ∙ e)))

    pub opens_letter : r ≡ true → (o : Result Opened Fault) → OpensLetter l line signatures s o → Opens line signatures s o
    opens_letter e o opens = record {
      safe = opens.safe;
      other = opens.other;
      tells = λ manner same w outline.
          let both : (not w.ended && may_stand w.pack l) ≡ true = sym (stands.tells w outline) ∙ e in
          let stand = and_right (not w.ended) _ both in
          opens.tells manner w outline (sym scanned ∙ fit) (not-true _ (and_left (not w.ended) _ both)) (rw same stand) stand (sym read.is);
    }

-- ---- what the letters' own functions require

pub fits_short : (line : Bytes) (unfit : Bool) → unfit ≡ is_unfit line → unfit ≡ false → length line ≤ 1024
fits_short line unfit scanned fit = fit_short line (sym scanned ∙ fit)
