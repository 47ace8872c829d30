-- `words::few::word_at` meets its contract. Assumes nothing.
use Prim.Native.Nat.{◌-◌}
use native.Mathlib.Omega.{arith}
use Rattle.words.proofs.WordBytes.{first_bytes, last_bytes}
use Rattle.words.proofs.few.word_at.Goals as goal

pub returns-then-bytes-from-ge8 : goal.returns-then-bytes-from-ge8
returns-then-bytes-from-ge8 c =
    let start = c.before.before.before.before.before in
    first_bytes start.args.bytes.now c.shared_slice_known-1.given start.args.from (start.args.end - start.args.from) start.args.end (omega arith) (omega arith) (omega arith) _ _
    c.eight_bytes-then-bytes-from-ge8.ensures
    c.lowest_bytes.ensures

pub returns-then-end-ge8 : goal.returns-then-end-ge8
returns-then-end-ge8 c =
    let start = c.before.before.before.before.before.before in
    last_bytes start.args.bytes.now c.shared_slice_known-1.given (start.args.end - 8) (start.args.end - start.args.from) start.args.from start.args.end (omega arith) (omega arith) (omega arith) (omega arith) _ _
    c.eight_bytes-then-end-ge8.ensures
    c.highest_bytes.ensures
