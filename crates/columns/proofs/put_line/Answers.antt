-- `columns::put_line` meets its contract. Assumes nothing.
use Rattle.columns.proofs.Line.{second_start, second_lent, third_fits, third_start, third_lent, fourth_fits, fourth_start, fourth_lent, last_fits_lem, last_left, last_start, last_lent, line_fits_lem, line_put}
use Rattle.columns.proofs.put_line.Goals as goal

pub slice_bounds-put_name-count : goal.slice_bounds-put_name-count
slice_bounds-put_name-count c = second_start c.args.page.now c.requires c.put_number-second.ensures

pub slice_bounds-put_name-start : goal.slice_bounds-put_name-start
slice_bounds-put_name-start c = second_start c.args.page.now c.requires c.put_number-second.ensures

pub put_name-requires : goal.put_name-requires
put_name-requires c = second_lent c.args.page.now c.requires c.put_number-second.ensures

pub overflow_add-third : goal.overflow_add-third
overflow_add-third c = third_fits c.args.page.now c.requires c.put_number-second.ensures c.put_name.ensures

pub slice_bounds-put_number-count : goal.slice_bounds-put_number-count
slice_bounds-put_number-count c = third_start c.args.page.now c.requires c.put_number-second.ensures c.put_name.ensures

pub slice_bounds-put_number-start : goal.slice_bounds-put_number-start
slice_bounds-put_number-start c = third_start c.args.page.now c.requires c.put_number-second.ensures c.put_name.ensures

pub put_number-requires : goal.put_number-requires
put_number-requires c = third_lent c.args.page.now c.requires c.put_number-second.ensures c.put_name.ensures

pub overflow_add-fourth : goal.overflow_add-fourth
overflow_add-fourth c = fourth_fits c.args.page.now c.requires c.put_number-second.ensures c.put_name.ensures c.put_number.ensures

pub slice_bounds-put_number-count-2 : goal.slice_bounds-put_number-count-2
slice_bounds-put_number-count-2 c = fourth_start c.args.page.now c.requires c.put_number-second.ensures c.put_name.ensures c.put_number.ensures

pub slice_bounds-put_number-start-2 : goal.slice_bounds-put_number-start-2
slice_bounds-put_number-start-2 c = fourth_start c.args.page.now c.requires c.put_number-second.ensures c.put_name.ensures c.put_number.ensures

pub put_number-requires-2 : goal.put_number-requires-2
put_number-requires-2 c = fourth_lent c.args.page.now c.requires c.put_number-second.ensures c.put_name.ensures c.put_number.ensures

pub overflow_add-last : goal.overflow_add-last
overflow_add-last c = last_fits_lem c.args.page.now c.requires c.put_number-second.ensures c.put_name.ensures c.put_number.ensures c.put_number-2.ensures

pub slice_bounds-put_end-count : goal.slice_bounds-put_end-count
slice_bounds-put_end-count c = last_start c.args.page.now c.requires c.put_number-second.ensures c.put_name.ensures c.put_number.ensures c.put_number-2.ensures

pub slice_bounds-put_end-start : goal.slice_bounds-put_end-start
slice_bounds-put_end-start c = last_start c.args.page.now c.requires c.put_number-second.ensures c.put_name.ensures c.put_number.ensures c.put_number-2.ensures

pub overflow_sub-last : goal.overflow_sub-last
overflow_sub-last c = last_left c.args.page.now c.requires c.put_number-second.ensures c.put_name.ensures c.put_number.ensures c.put_number-2.ensures

pub put_end-requires : goal.put_end-requires
put_end-requires c = last_lent c.args.page.now c.requires c.put_number-second.ensures c.put_name.ensures c.put_number.ensures c.put_number-2.ensures

pub overflow_add-result : goal.overflow_add-result
overflow_add-result c = line_fits_lem c.args.page.now c.requires c.put_number-second.ensures c.put_name.ensures c.put_number.ensures c.put_number-2.ensures c.put_end.ensures

pub returns : goal.returns
returns c = line_put c.args.page.now c.requires c.put_number-second.ensures c.put_name.ensures c.put_number.ensures c.put_number-2.ensures c.put_end.ensures
