-- The two numbers have at most twenty-three digits.
use Rattle.std.proofs.Common.{arith}
use Rattle.replies.proofs.PrintedLines.{fields_put}
use Rattle.theory.proofs.Reading.Digits.{digits_few}
use Rattle.replies.proofs.put_fields.Goals as goal

pub put_field-second-requires : goal.put_field-second-requires
put_field-second-requires c = omega (arith, digits_few 19 c.three.inside.middle (omega arith))

pub put_field-requires : goal.put_field-requires
put_field-requires c = omega (arith, digits_few 19 c.three.inside.middle (omega arith), digits_few 2 c.three.inside.claim (omega arith))

pub returns : goal.returns
returns c =
    let many = digits_few 19 c.three.inside.middle (omega arith) in
    let few = digits_few 2 c.three.inside.claim (omega arith) in
    rw (← c.three.view_is)
    (fields_put _ _ _ c.put_byte-first.ensures.puts c.put_byte-comma.ensures.puts c.put_field-second.ensures.puts c.put_field.ensures.puts, omega (arith, many, few))
