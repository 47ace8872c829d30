-- Rules' lines in a row: after the lines of one rule comes a line that begins with `H` or `E`.
use mathlib.Core.Path.{◌≡◌, refl, ◌∙◌, ap}
use mathlib.Core.Bool.{true}
use mathlib.Core.List.{List, [], ◌∷◌, ◌++◌, map, flat_map, map-append, append_assoc}
use Prim.Native.Nat.{ℕ}
use lib.ListN.{drop}
use Rattle.theory.specs.Text.{Bytes, is_name, lines_of}
use Rattle.theory.specs.Packs.{Rule, line, rule_lines, end_line}
use Rattle.sections.specs.Sections.{leading, StandsRule}
use Rattle.sections.proofs.SectionLines.{rules_none}

pub stands_rule : (text : Bytes) (at : ℕ) (r : Rule) (rs : List Rule) → lines_of (drop at text) ≡ map line (flat_map rule_lines (r ∷ rs) ++ (end_line ∷ [])) → is_name r.head.name ≡ true
    → StandsRule text at r (map line (flat_map rule_lines rs ++ (end_line ∷ [])))
unfolding flat_map
stands_rule text at r rs stand named =
    let after = flat_map rule_lines rs in
    let apart = map-append line after (end_line ∷ []) in
    record {
      stands = stand ∙ ap (map line) (append_assoc (rule_lines r) after (end_line ∷ [])) ∙ map-append line (rule_lines r) (after ++ (end_line ∷ []));
      named = named;
      no_subgoal = ap (leading 66) apart ∙ rules_none 66 refl refl rs;
      no_multipliers = ap (leading 77) apart ∙ rules_none 77 refl refl rs;
    }
