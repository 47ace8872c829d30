-- A pack that lines can write, one step after another, is a pack within the limits, its claims justified, and the lines are its lines.
use mathlib.Core.Path.{◌≡◌, sym, subst}
use mathlib.Core.Bool.{true}
use mathlib.Core.List.Memᴰ
use mathlib.Core.List.{List, [], flat_map}
use native.Mathlib.Nat.{le_of_eq, le_antisymm, le_trans}
use native.Mathlib.Omega.{arith}
use Rattle.theory.specs.Text.{Bytes}
use Rattle.theory.specs.Packs.{Rule, Pack, claims_on, open_lines, opening, empty_pack, from_rules, from_facts, from_claims, from_predicates}
use Rattle.theory.specs.Faults.{is_complete}
use Rattle.theory.specs.Limits.{RuleFits, Fits, Justified, ShortLines, ShortText}
use Rattle.groundwork.proofs.Lists.{split_member}
use Rattle.theory.proofs.Judging.Completeness.{IsWhole, complete_from_whole}
use Rattle.theory.proofs.Judging.OpenLines.{run_adds}
use Rattle.theory.proofs.Judging.Begun.{Begun}
use Rattle.theory.proofs.Judging.Reached.{Reached, run_reaches, all_whole}
use Rattle.theory.proofs.Judging.Built.{Built, pack_built}
use Rattle.theory.proofs.Judging.Steps.{Run, stay}

-- ---- what a run writes

pub run_lines : (ls : List (List Bytes)) (p : Pack) → Run empty_pack ls p → ls ≡ open_lines p
unfolding from_predicates from_claims from_facts from_rules flat_map
run_lines ls p run = sym (run_adds run)

pub empty_reached : Reached empty_pack
unfolding claims_on
empty_reached = record {
  predicates = λ x m. absurd (Memᴰ.not-nil m);
  distinct = λ before after x e. absurd (Memᴰ.not-nil (split_member before after x e));
  few_predicates = omega arith;
  claims = λ c m. absurd (Memᴰ.not-nil m);
  few_claims = λ k. omega arith;
  facts = λ f m. absurd (Memᴰ.not-nil m);
  met = λ f m. absurd (Memᴰ.not-nil m);
  rules = λ r m. absurd (Memᴰ.not-nil m);
  earlier = λ r m. absurd (Memᴰ.not-nil m);
  few_rules = omega arith;
}

-- a rule with all of its multiplier lists
whole_fits : (p : Pack) (r : Rule) → Begun (opening p) r → IsWhole p.claims r → RuleFits (opening p) r
whole_fits p r begun whole = record {
  head = begun.head;
  is_ruled = begun.is_ruled;
  subgoals = begun.subgoals;
  few_subgoals = begun.few_subgoals;
  few_variables = begun.few_variables;
  every_claim = le_antisymm begun.no_more whole;
  multipliers = begun.multipliers;
}

pub run_fits : (ls : List (List Bytes)) (p : Pack) → Run empty_pack ls p → is_complete p ≡ true → ShortLines p → ShortText p → Fits p
run_fits ls p run complete short-lines short-text =
    let reached = run_reaches run empty_reached in
    record {
      formed = record {
        predicates = reached.predicates;
        distinct = reached.distinct;
        claims = reached.claims;
        facts = reached.facts;
        rules = λ r m. whole_fits p r (reached.rules r m) (all_whole p reached complete r m);
      };
      counts = record { predicates = reached.few_predicates; claims = reached.few_claims; rules = reached.few_rules };
      short_lines = short-lines;
      short_text = short-text;
    }

pub run_justified : (ls : List (List Bytes)) (p : Pack) → Run empty_pack ls p → is_complete p ≡ true → Justified p
run_justified ls p run complete =
    let reached = run_reaches run empty_reached in
    record {
      facts = λ f m. record { meets = reached.met f m };
      rules = λ r m. record { every = λ i h. (reached.rules r m).justified i (le_trans h (all_whole p reached complete r m)) };
    }

-- ---- a run that writes a pack

pub fits_run : (p : Pack) → Fits p → Justified p → Run empty_pack (open_lines p) p
fits_run p fits justified =
    let built : Built empty_pack p = pack_built empty_pack p fits justified ([], stay) in
    subst (λ (ls : List (List Bytes)). Run empty_pack ls p) (run_lines built.0 p built.1) built.1

pub fits_complete : (p : Pack) → Fits p → is_complete p ≡ true
fits_complete p fits = complete_from_whole p (λ r m. le_of_eq (sym (fits.formed.rules r m).every_claim))
