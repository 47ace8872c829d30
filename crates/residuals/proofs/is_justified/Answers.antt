-- `residuals::is_justified` meets its contract: what `all` says of the coefficients.
use Rattle.std.proofs.Common.{rules, pos, ◌≤ℤ◌, ◌<ℤ◌}
use borrow.Author.Tests.{tests}
use Rattle.std.proofs.lemmas.Iterator.{cases_from_all, YieldsList-from_slice}
use Rattle.residuals.proofs.Signs.{judged}
use Rattle.residuals.proofs.is_justified.Goals as goal

pub returns-then-form-ge0 : goal.returns-then-form-ge0
returns-then-form-ge0 c =
    let each = cases_from_all _ _ _ (λ z. pos 0 ≤ℤ z) (λ z. z <ℤ pos 0) c.all.ensures.ran (YieldsList-from_slice c.args.form.coefficients cc) (λ x q k. search (rules, tests)) (λ x q k. search (rules, tests)) in
    judged (search (rules, tests)) (search rules) each
