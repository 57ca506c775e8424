use Rattle.query_gen.proofs.Prelude.{ℕ, List, ◌-◌, arith, subst, sym, slice_range, AreTrue, IsSearched}
use Rattle.query_gen.proofs.Parts.{part_range_true}
use Rattle.query_gen.proofs.screen.Screen.take_searched.Goals as goal

pub returns-clause-holds : goal.returns-clause-holds
returns-clause-holds c = λ l kept made holds part.
    c.keep_find.ensures.holds l kept c.args.budget (c.take_part.ensures.holds l made holds
    (subst (λ (bytes : List ℕ). AreTrue l c.args.net.now.list c.args.budget c.max-from.result c.min-to.result (slice_range bytes (c.max-from.result - c.args.first) (c.min-to.result - c.args.first))) (sym c.deref.ensures.value)
    (part_range_true l c.args.net.now.list kept c.args.budget c.args.first c.args.end c.max-from.result c.min-to.result c.args.place.now.marks.items c.args.place.now.answer (omega arith) (omega arith) part)))
    (subst (λ (bytes : List ℕ). IsSearched l c.args.net.now.list kept c.args.budget c.args.first c.args.end bytes c.args.place.now.answer) (sym c.deref-2.ensures.value) part)
