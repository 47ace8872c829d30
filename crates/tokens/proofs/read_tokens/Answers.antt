-- `tokens::read_tokens` meets its contract: the rows hold the arities and places of the tokens before the place, and those from it on, with so many terms wanted, decide whether the field is a term. Assumes nothing.
use Rattle.groundwork.proofs.Truth.{not-true}
use Rattle.tokens.proofs.NextTokens.{long_refused, letter_refused, arity_refused, symbol_found, variable_refused, variable_found}
use Rattle.tokens.proofs.TokenLoop.{reading_none, read_unwanted, read_no_token, reading_symbol, reading_variable, read_all, read_wanting, read_open}
use borrow.Author.Rules.{rules}
use Rattle.tokens.proofs.read_tokens.Goals as goal
use Rattle.tokens.proofs.read_tokens.Goals.{then-end-from-gt16-via-then-end-from-gt16, then-end-from-gt16-via-else-end-from-gt16+then-not-has_arity}
use Rattle.tokens.proofs.read_tokens.Goals.{then-end-from-gt16-2-via-then-end-from-gt16-2, then-end-from-gt16-2-via-else-end-from-gt16-2+then-not-is_end}
use Rattle.tokens.proofs.read_tokens.Goals.{else-wanted-eq0-2-via-then-wanted-eq0-2+else-field-from, else-wanted-eq0-2-via-else-wanted-eq0-2}

pub loop-from-init : goal.loop-from-init
loop-from-init c = search (rules, reading_none)

pub returns-then-wanted-eq0 : goal.returns-then-wanted-eq0
returns-then-wanted-eq0 c = search (rules, read_unwanted)

pub returns-then-end-from-gt16 : goal.returns-then-end-from-gt16
returns-then-end-from-gt16 c = elim c.then-end-from-gt16.branch [
  | then-end-from-gt16-via-then-end-from-gt16 w ↦ search (rules, read_no_token, long_refused)
  | then-end-from-gt16-via-else-end-from-gt16+then-not-has_arity w ↦ search (rules, read_no_token, arity_refused, not-true)
]

pub loop-from-preserved-in-Small : goal.loop-from-preserved-in-Small
loop-from-preserved-in-Small c =
    let found = symbol_found _ _ c.loop-from-test.true _ c.word_end-end.ensures c.if-end-from-gt16.false (search rules) _ c.has_arity.ensures c.if-not-has_arity.false _ c.digit_of-arity.ensures in
    search (rules, reading_symbol)

pub returns-then-end-from-gt16-2 : goal.returns-then-end-from-gt16-2
returns-then-end-from-gt16-2 c = elim c.then-end-from-gt16-2.branch [
  | then-end-from-gt16-2-via-then-end-from-gt16-2 w ↦ search (rules, read_no_token, long_refused)
  | then-end-from-gt16-2-via-else-end-from-gt16-2+then-not-is_end w ↦ search (rules, read_no_token, variable_refused, not-true)
]

pub loop-from-preserved : goal.loop-from-preserved
loop-from-preserved c =
    let found = variable_found _ _ c.loop-from-test.true _ c.word_end-end-in-Capital.ensures c.if-end-from-gt16-2.false (search rules) _ c.is_end.ensures c.if-not-is_end.false _ c.place_of.ensures in
    search (rules, reading_variable)

pub returns-in-Inner : goal.returns-in-Inner
returns-in-Inner c = search (rules, read_no_token, letter_refused)

pub returns-then-field-from : goal.returns-then-field-from
returns-then-field-from c = search (rules, read_all)

pub returns-else-wanted-eq0-2 : goal.returns-else-wanted-eq0-2
returns-else-wanted-eq0-2 c = elim c.else-wanted-eq0-2.branch [
  | else-wanted-eq0-2-via-then-wanted-eq0-2+else-field-from w ↦ search (rules, read_open)
  | else-wanted-eq0-2-via-else-wanted-eq0-2 w ↦ search (rules, read_wanting)
]
