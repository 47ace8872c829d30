-- `facts::is_met` meets its contract: what `all` says of the claims' values.
use Rattle.std.proofs.Common.{rules, pos, ◌≤ℤ◌, ◌<ℤ◌, ℕ}
use mathlib.Core.Path.{refl}
use native.Mathlib.Omega.{arith}
use borrow.Author.Tests.{tests}
use Rattle.std.proofs.lemmas.Iterator.{cases_from_all, YieldsList-from_range}
use Rattle.tables.specs.Tables.{claim_place}
use Rattle.facts.specs.Ends.{value_to}
use Rattle.facts.proofs.Values.{met_told}
use Rattle.facts.proofs.is_met.Goals as goal

pub returns : goal.returns
returns c =
    let each = cases_from_all _ _ _ (λ (j : ℕ). pos 0 ≤ℤ value_to c.args.claims.now (claim_place c.args.predicate j) c.args.rows.now c.args.arity) (λ (j : ℕ). value_to c.args.claims.now (claim_place c.args.predicate j) c.args.rows.now c.args.arity <ℤ pos 0) c.all.ensures.ran (YieldsList-from_range 0 c.args.count c.args.count refl (omega arith)) (λ x q k. search (rules, tests)) (λ x q k. search (rules, tests)) in
    met_told _ _ _ _ c.args.count each
