-- Every number and name of an accepted pack fits its columns.
use mathlib.Core.Path.{◌≡◌}
use mathlib.Core.List.{List, ◌∷◌, ◌++◌}
use Prim.Native.Nat.{◌+◌}
use native.Mathlib.Omega.{arith}
use lib.ListN.{length}
use Rattle.groundwork.proofs.Lists.{split_member, split_shorter}
use Rattle.theory.specs.Packs.{Rule, Pack, atom_key}
use Rattle.theory.specs.Limits.{Fits}
use Rattle.theory.specs.Sheet.{rule_entry}
use Rattle.theory.proofs.Reading.Alignment.{FitsColumns}
use Rattle.theory.proofs.Reading.Digits.{digits_few}
use Rattle.theory.proofs.Reading.Spelling.{name_length}

pub rule_fits_columns : (p : Pack) → Fits p → (before after : List Rule) (r : Rule) → p.rules ≡ before ++ r ∷ after
    → FitsColumns (length before + 1) (rule_entry r)
rule_fits_columns p fits before after r split =
    let rule = fits.formed.rules r (split_member before after r split) in
    record {
      four_digits = digits_few 3 (length before + 1) (omega (arith, split_shorter before after r split, fits.counts.rules));
      sixteen_bytes = name_length r.head.name rule.head.named;
      two_digits = digits_few 1 (length r.subgoals) (omega (arith, rule.few_subgoals));
      three_digits = digits_few 2 (length r.multipliers) (omega (arith, rule.every_claim, fits.counts.claims (atom_key r.head)));
    }
