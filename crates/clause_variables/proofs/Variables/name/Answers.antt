-- `Variables::name` meets its contract: the variable's length is that of the part of the text. Assumes nothing.
use mathlib.Core.Path.{refl}
use Rattle.text.proofs.Parts.{part_length}
use Rattle.clause_variables.proofs.Gathering.{name_long, name_known, name_full, name_new}
use borrow.Author.Rules.{rules}
use Rattle.clause_variables.proofs.Variables.name.Goals as goal

pub returns-then-end-start-gt16 : goal.returns-then-end-start-gt16
returns-then-end-start-gt16 c =
    let wide = part_length c.args.text.now c.args.start _ c.args.end refl c.requires.1 in
    search (rules, name_long, wide)

pub returns-then-place-self : goal.returns-then-place-self
returns-then-place-self c =
    let wide = part_length c.args.text.now c.args.start _ c.args.end refl c.requires.1 in
    search (rules, name_known, wide)

pub returns-then-self-ge16 : goal.returns-then-self-ge16
returns-then-self-ge16 c =
    let wide = part_length c.args.text.now c.args.start _ c.args.end refl c.requires.1 in
    search (rules, name_full, wide)

pub returns : goal.returns
returns c =
    let wide = part_length c.args.text.now c.args.start _ c.args.end refl c.requires.1 in
    search (rules, name_new, wide)
