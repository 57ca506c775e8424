use Rattle.query_gen.proofs.Prelude.{sym, subst, AreTrue}
use Rattle.query_gen.proofs.Parts.{searched_true}
use Rattle.query_gen.proofs.screen.Screen.take_marks.Goals as goal

pub returns-clause-holds : goal.returns-clause-holds
returns-clause-holds c = λ l kept made holds part.
    c.take_part.ensures.holds l made holds
    (subst (λ bytes. AreTrue l c.args.net.now.list c.args.budget c.args.first c.args.end bytes) (sym c.deref.ensures.value)
    (searched_true l c.args.net.now.list kept c.args.budget c.args.first c.args.end c.args.place.now.marks.items c.args.place.now.answer part))
