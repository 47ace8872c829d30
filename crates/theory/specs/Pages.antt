-- Document 02: what the calls return that write on a lent page. A refusal leaves the page as it is.
use Rattle.std.specs.Prelude.{cond, eqb}
use Rattle.theory.specs.Text.{Bytes}
use Rattle.theory.specs.Check.{Numbers, verdict_of}

-- the four numbers, and the page at exit
pub record Paged : Type 0 where
  pub returned : Numbers
  pub page : Bytes

abbrev pub paged : Numbers → Bytes → Paged
paged n page = record { returned = n; page = page }

-- what a call makes of an accepted pack; of a refused one check's numbers, the page as it is
unfoldable pub after_verdict : Bytes → Bytes → Paged → Paged
after_verdict text page answer = cond (eqb (verdict_of text).returned.number 0) answer (paged (verdict_of text).returned page)
