use Rattle.std.proofs.Common.{◌≡◌, ◌+◌, ◌==◌, count_by}
use Rattle.std.specs.Slice.Iter.{chunks_rest, chunks_size}
use Rattle.text.proofs.counts.count.Given as goal

-- what was counted, and how often the byte stands in the blocks to come, make how often it stands
abbrev pub invariant-loop-block : goal.invariant-loop-block
invariant-loop-block l =
    (chunks_size l.block-iterator ≡ 128) × (l.n + count_by (λ b. b == l.wanted) (chunks_rest l.block-iterator) ≡ count_by (λ b. b == l.wanted) l.bytes)
