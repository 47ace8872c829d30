-- `sheets::put_sheet` meets its contract. Assumes nothing.
use borrow.Author.Rules.{rules}
use Rattle.sheets.proofs.SheetWriting.{listing_begin, page_size, rule_stands, line_start, line_lent, found_fits, place_fits, listing_more, listing_end}
use Rattle.sheets.proofs.put_sheet.Goals as goal

pub loop-number-init : goal.loop-number-init
loop-number-init c = search (rules, listing_begin)

pub rule_at-rule-requires : goal.rule_at-rule-requires
rule_at-rule-requires c = search (rules, rule_stands)

pub slice_bounds-put_line-count : goal.slice_bounds-put_line-count
slice_bounds-put_line-count c = search (rules, line_start)

pub slice_bounds-put_line-start : goal.slice_bounds-put_line-start
slice_bounds-put_line-start c = search (rules, line_start)

pub put_line-at-requires : goal.put_line-at-requires
put_line-at-requires c = (search (rules, line_lent), search (rules, found_fits))

pub overflow_add-at : goal.overflow_add-at
overflow_add-at c = search (rules, place_fits)

pub loop-number-preserved : goal.loop-number-preserved
loop-number-preserved c = search (rules, listing_more)

pub shape_of-page : goal.shape_of-page
shape_of-page c = search (rules, page_size)

pub returns : goal.returns
returns c = search (rules, listing_end)
