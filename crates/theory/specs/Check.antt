-- Document 01, "What check returns": the four numbers and the residual area, for every text and every area.
use Rattle.std.specs.Prelude.{Bool, false, cond, List, [], ◌∷◌, ℕ, ◌+◌, eqb, ltb, ℤ, length}
use Rattle.std.proofs.Math.Option.{Option, some, none}
use Rattle.theory.specs.Lists.{over}
use Rattle.theory.specs.Text.{Bytes, fields_of, lines_of}
use Rattle.theory.specs.Packs.{Rule, text_limit}
use Rattle.theory.specs.Written.{Written, nothing, write, multipliers_from}
use Rattle.theory.specs.Faults.{Manner, whole, fault, last_rule, residual_due}
use Rattle.theory.specs.Residuals.{area_needed}

-- the four numbers that check returns
pub record Numbers : Type 0 where
  pub number : ℕ
  pub line : ℕ
  pub rule : ℕ
  pub claim : ℕ

abbrev pub numbers : ℕ → ℕ → ℕ → ℕ → Numbers
numbers a b c d = record { number = a; line = b; rule = c; claim = d }

-- check's numbers, and the residual that it leaves: empty but for 13
pub record Judgement : Type 0 where
  pub returned : Numbers
  pub residue : List ℤ

abbrev pub plain : Numbers → Judgement
plain n = record { returned = n; residue = [] }

unfoldable pub multiplier_lines : List Rule → ℕ
multiplier_lines [] = 0
multiplier_lines (r ∷ rs) = length r.multipliers + multiplier_lines rs

-- Of line k, with fault n, after lines that write w.
unfoldable pub refused : Written → ℕ → Bytes → ℕ → Judgement
refused w k l n = cond (eqb n 13)
    (record { returned = numbers 13 k (length w.pack.rules) (length (last_rule w.pack).multipliers + 1); residue = residual_due w.pack (multipliers_from (fields_of l)) })
    (plain (numbers n k 0 0))

-- The judgement of lines in some manner, after k lines that write w: the first that has a fault decides. Accepted: lines, rules, `M` lines.
unfoldable pub judge : Manner → Written → ℕ → List Bytes → Judgement
judge m w k [] = cond w.ended (plain (numbers 0 k (length w.pack.rules) (multiplier_lines w.pack.rules))) (plain (numbers 6 0 0 0))
judge m w k (l ∷ ls) = cond (eqb (fault m w l) 0) (judge m (write w l) (k + 1) ls) (refused w (k + 1) l (fault m w l))

-- the last byte is 10
unfoldable pub is_finished : Bytes → Bool
is_finished [] = false
is_finished (b ∷ []) = eqb b 10
is_finished (b ∷ c ∷ bs) = is_finished (c ∷ bs)

-- the judgement of a text in some manner
unfoldable pub judgement_of : Manner → Bytes → Judgement
judgement_of m text =
    cond (ltb text_limit (length text)) (plain (numbers 2 0 0 0))
    (cond (is_finished text) (judge m nothing 0 (lines_of text)) (plain (numbers 3 0 0 0)))

-- the verdict on a pack, whatever the area
abbrev pub verdict_of : Bytes → Judgement
verdict_of text = judgement_of whole text

-- check's refusal of a text, which the other calls over packs pass on with all its numbers; none where it is accepted
unfoldable pub refusal_of : Bytes → Option Numbers
refusal_of text = cond (eqb (verdict_of text).returned.number 0) none (some (verdict_of text).returned)

-- What check returns, and the area at exit.
pub record Checked : Type 0 where
  pub returned : Numbers
  pub area : List ℤ

abbrev pub checked : Numbers → List ℤ → Checked
checked n area = record { returned = n; area = area }

-- the residual lies over the area's first numbers
unfoldable pub check_of : Bytes → List ℤ → Checked
check_of text area = cond (ltb (length area) area_needed) (checked (numbers 1 0 0 0) area)
    (checked (verdict_of text).returned (over (verdict_of text).residue area))
