-- The loop of `sum_of_arities`: the arities passed are summed. Of a row that was read from a term it is the term's sum.
use mathlib.Core.Path.{◌≡◌, refl, sym, ◌∙◌, ap}
use mathlib.Core.List.{List}
use mathlib.Core.Option.{some}
use Prim.Native.Nat.{ℕ, ◌+◌, ◌*◌, ◌≤◌, ◌<◌}
use native.Mathlib.Omega.{arith}
use lib.ListN.{length, get_or, take}
use lib.Seq.{take_all}
use Rattle.theory.specs.Lists.{total}
use Rattle.theory.specs.Text.{Bytes}
use Rattle.theory.specs.Terms.{Term, read_term}
use Rattle.theory.specs.Sizes.{sum_of_arities}
use Rattle.tokens.specs.TokenRows.{SmallArities, SymbolsStand}
use Rattle.terms.proofs.Totals.{total_more}
use Rattle.terms.specs.Constants.{AritiesSummed}

pub record Summing (arities : List ℕ) (sum i : ℕ) : Type 0 where
  pub small : sum ≤ 9 * i
  pub is : sum ≡ total (take i arities)

pub summing_none : (arities : List ℕ) → Summing arities 0 0
unfolding total
summing_none arities = record { small = omega arith; is = refl }

module _ (arities : List ℕ) (digits : SmallArities arities (length arities)) (sum i : ℕ) (summing : Summing arities sum i) where
  module _ (inside : i < length arities) where
    pub summing_more : Summing arities (sum + get_or arities i 0) (i + 1)
    summing_more = record { small = omega (arith, summing.small, digits.small i inside); is = omega (arith, summing.is, total_more arities i) }

  pub summing_all : length arities ≤ i → i ≤ length arities → AritiesSummed arities sum
  summing_all past few = record { is = summing.is ∙ ap total (take_all i arities past); small = omega (arith, summing.small, digits.few) }

-- where the arities are those of a term's symbols, their sum is the constant of its form
pub term_summed : {arities : List ℕ} {symbols r : ℕ} {field : Bytes} → AritiesSummed (take symbols arities) r → SymbolsStand field arities symbols → (t : Term) → read_term field ≡ some t → r ≡ sum_of_arities t
unfolding sum_of_arities
term_summed summed stand t e = summed.is ∙ ap total (sym (stand.all t e))
