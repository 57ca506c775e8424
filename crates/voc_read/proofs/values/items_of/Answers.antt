use Rattle.voc_read.proofs.Prelude.{◌≤◌, List, length, sym, subst, view, items_view, Value, widest, items_widest}
use Rattle.voc_read.proofs.Widths.{widest-as_array, length-as_array}
use Rattle.voc_read.proofs.values.items_of.Goals as goal

pub returns-in-Some-clause-few : goal.returns-in-Some-clause-few
returns-in-Some-clause-few c =
    let P : List Value → Type 0 = λ list. length list ≤ widest (view c.args.value.now) in
    subst P (sym c.as_slice.ensures.value) (length-as_array (view c.args.value.now) c.in-Some.list.now.items c.in-Some.ensures)

pub returns-in-Some-clause-parts : goal.returns-in-Some-clause-parts
returns-in-Some-clause-parts c =
    let P : List Value → Type 0 = λ list. items_widest (items_view list) ≤ widest (view c.args.value.now) in
    subst P (sym c.as_slice.ensures.value) (widest-as_array (view c.args.value.now) (items_view c.in-Some.list.now.items) (sym c.in-Some.ensures)).1
