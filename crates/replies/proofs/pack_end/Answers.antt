-- No line before the place ends the pack, and the pack ends after the first line that does.
use borrow.Author.Rules.{rules}
use Rattle.replies.proofs.PackSearch.{seeking_begin, seeking_more, seeking_found, seeking_last, seeking_end}
use Rattle.replies.proofs.pack_end.Goals as goal
use Rattle.replies.proofs.pack_end.Goals.{else-end-at-eq1-via-then-end-at-eq1+else-input-at-eq69, else-end-at-eq1-via-else-end-at-eq1}

pub loop-at-init : goal.loop-at-init
loop-at-init c = search (rules, seeking_begin)

pub returns-then-end-len : goal.returns-then-end-len
returns-then-end-len c = search (rules, seeking_last)

pub returns-then-input-at-eq69 : goal.returns-then-input-at-eq69
returns-then-input-at-eq69 c = seeking_found c.loop-at.invariant c.find-end.ensures (search rules) c.if-end-at-eq1.true c.if-input-at-eq69.true

pub loop-at-preserved : goal.loop-at-preserved
loop-at-preserved c =
    seeking_more c.loop-at.invariant c.find-end.ensures (search rules)
    (elim c.else-end-at-eq1.branch [ else-end-at-eq1-via-then-end-at-eq1+else-input-at-eq69 w ↦ (λ one. w.if-input-at-eq69.false) | else-end-at-eq1-via-else-end-at-eq1 w ↦ (λ one is. w.if-end-at-eq1.false one) ])

pub returns : goal.returns
returns c = search (rules, seeking_end)
