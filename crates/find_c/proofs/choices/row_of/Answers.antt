use Rattle.find_c.proofs.Prelude.{◌+◌, ◌||◌, ◌∙◌, get_or, [], arith, is_one-or, relations_on}
use Rattle.find_c.proofs.Outside.{holds_outside}
use Rattle.find_c.proofs.choices.row_of.Goals as goal

pub row-requires : goal.row-requires
row-requires c = let fits = c.requires.row in let size = c.table_on.ensures.size in let values = c.table_on.ensures.values in omega arith

pub returns : goal.returns
returns c = λ y low.
    is_one-or c.row.result c.args.outside y
    ∙ (λ i. c.row.ensures y (let values = c.table_on.ensures.values in omega arith) i || c.requires.outside y low i)
    ∙ holds_outside c.args.lang.now c.args.s (c.args.place + y) c.table_on.result.now.truth (get_or (relations_on c.args.lang.now c.args.s) c.args.r []) c.table_on.ensures.size
    (let fits = c.requires.row in omega arith) c.table_on.ensures.widened
