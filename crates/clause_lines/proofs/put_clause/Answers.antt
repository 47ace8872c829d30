-- `clause_lines::put_clause` meets its contract. Assumes nothing.
use Rattle.clause_tokens.proofs.TokenLaws.{token_less}
use Rattle.clause_lines.proofs.ClauseDrawing.{progress_none, progress_all, progress_tabled, progress_low, progress_drawable, progress_size, progress_over, progress_whole, progress_more}
use borrow.Author.Rules.{rules}
use Rattle.clause_lines.proofs.put_clause.Goals as goal

pub loop-token-init : goal.loop-token-init
loop-token-init c = search (rules, progress_none)

pub number_after-number-requires : goal.number_after-number-requires
number_after-number-requires c = search (rules, progress_tabled, progress_low)

pub put_token-requires : goal.put_token-requires
put_token-requires c = search (rules, progress_drawable, c.in-Some.ensures)

pub shape_of-page-in_err-put_token : goal.shape_of-page-in_err-put_token
shape_of-page-in_err-put_token c = search (rules, progress_size, c.in-Some.ensures)

pub returns-in_err-put_token : goal.returns-in_err-put_token
returns-in_err-put_token c = search (rules, progress_over, c.in-Some.ensures, c.in_err-put_token.was)

pub shape_of-page-then-eq : goal.shape_of-page-then-eq
shape_of-page-then-eq c = search (rules, progress_size, c.in-Some.ensures)

pub returns-then-eq : goal.returns-then-eq
returns-then-eq c = search (rules, progress_whole, c.in-Some.ensures, c.in_ok-put_token.was)

pub loop-token-smaller : goal.loop-token-smaller
loop-token-smaller c = search (rules, token_less, c.in-Some.ensures)

pub loop-token-preserved : goal.loop-token-preserved
loop-token-preserved c = search (rules, progress_more, c.in-Some.ensures, c.in_ok-put_token.was)

pub returns : goal.returns
returns c = search (rules, progress_all, c.in_default.ensures)
