-- `pages::put_decimal` meets its contract: from the last place to the first, each is given the last digit of what is left.
use native.Mathlib.Omega.{arith}
use borrow.Author.Rules.{rules}
use Rattle.pages.proofs.Writing.{turns_begin, turns_more}
use Rattle.pages.proofs.put_decimal.Goals as goal

pub loop-at-init : goal.loop-at-init
loop-at-init c = search (rules, turns_begin)

pub loop-at-preserved : goal.loop-at-preserved
loop-at-preserved c = search (rules, turns_more)

pub returns : goal.returns
returns c = c.loop-at.invariant.done (omega arith)
