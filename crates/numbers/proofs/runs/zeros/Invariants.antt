use Rattle.std.proofs.Common.{◌≡◌, ◌+◌, ◌*◌, drop}
use Rattle.std.specs.Slice.Iter.{chunks_exact_rest, chunks_exact_size}
use Rattle.numbers.specs.Zeros.{Zeros}
use Rattle.numbers.proofs.runs.zeros.Given as goal

-- the fields passed, and the blocks to come
abbrev pub invariant-loop-eight : goal.invariant-loop-eight
invariant-loop-eight l =
    Zeros l.bytes l.from l.count × (chunks_exact_size l.eight-iterator ≡ 8) × (drop (l.from + 2 * l.count) l.bytes ≡ chunks_exact_rest l.eight-iterator)
