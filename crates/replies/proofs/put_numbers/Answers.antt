-- The four numbers have at most sixteen digits together.
use Rattle.std.proofs.Common.{arith}
use Rattle.replies.proofs.PrintedLines.{numbers_short, numbers_put}
use Rattle.replies.proofs.put_numbers.Goals as goal

pub put_field-first-requires : goal.put_field-first-requires
put_field-first-requires c =
    let few = numbers_short c.four.inside.number c.four.inside.line c.four.inside.rule c.four.inside.claim (omega arith) (omega arith) (omega arith) (omega arith) in
    omega (arith, few)

pub put_field-second-requires : goal.put_field-second-requires
put_field-second-requires c =
    let few = numbers_short c.four.inside.number c.four.inside.line c.four.inside.rule c.four.inside.claim (omega arith) (omega arith) (omega arith) (omega arith) in
    omega (arith, few)

pub put_field-third-requires : goal.put_field-third-requires
put_field-third-requires c =
    let few = numbers_short c.four.inside.number c.four.inside.line c.four.inside.rule c.four.inside.claim (omega arith) (omega arith) (omega arith) (omega arith) in
    omega (arith, few)

pub put_field-requires : goal.put_field-requires
put_field-requires c =
    let few = numbers_short c.four.inside.number c.four.inside.line c.four.inside.rule c.four.inside.claim (omega arith) (omega arith) (omega arith) (omega arith) in
    omega (arith, few)

pub returns : goal.returns
returns c =
    let few = numbers_short c.four.inside.number c.four.inside.line c.four.inside.rule c.four.inside.claim (omega arith) (omega arith) (omega arith) (omega arith) in
    rw (← c.four.view_is) (numbers_put _ _ _ _ c.put_field-first.ensures.puts c.put_field-second.ensures.puts c.put_field-third.ensures.puts c.put_field.ensures.puts, omega (arith, few))
