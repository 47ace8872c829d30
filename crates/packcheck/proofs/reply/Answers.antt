-- `packcheck::reply` meets its contract. Assumes nothing.
use mathlib.Core.Path.{ap}
use native.Mathlib.Omega.{arith}
use borrow.Author.Rules.{rules}
use lib.ListN.{length, length-drop}
use Rattle.text.proofs.Parts.{part_rest}
use Rattle.packs.proofs.FreshTables.{fresh_made}
use Rattle.reservation.proofs.QueryAnswers.{pack_ready, pack_held}
use Rattle.packcheck.proofs.ReplyLines.{long_reply, whole_reply}
use Rattle.packcheck.proofs.reply.Goals as goal

pub returns-then-input-gt65536 : goal.returns-then-input-gt65536
returns-then-input-gt65536 c =
    long_reply _ c.if-input-gt65536.true c.from.ensures c.put_numbers-length.ensures.0 c.put_numbers-length.ensures.1 (search rules)

pub load-loaded-requires : goal.load-loaded-requires
load-loaded-requires c = search (rules, fresh_made)

pub put_queries-length-requires : goal.put_queries-length-requires
put_queries-length-requires c = (
  omega (arith, ap length (part_rest c.args.input.now c.pack_end-end.result), length-drop c.pack_end-end.result c.args.input.now),
  c.put_numbers-written.ensures.1,
  search rules,
  pack_ready c.load-loaded.ensures,
  (_, pack_held c.load-loaded.ensures),
)

pub returns : goal.returns
returns c =
    whole_reply _ (omega arith) c.pack_end-end.ensures (pack_held c.load-loaded.ensures) c.from-2.ensures c.put_numbers-written.ensures.0 (rw (part_rest c.args.input.now c.pack_end-end.result) at c.put_queries-length.ensures) (search rules)
