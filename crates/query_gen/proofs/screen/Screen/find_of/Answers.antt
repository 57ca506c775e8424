use Rattle.query_gen.proofs.Prelude.{None, subst, sym, ◌∙◌, arith, get_or_read, MarksHold}
use Rattle.query_gen.proofs.screen.Screen.find_of.Goals as goal

pub returns-in-Some-clause-is : goal.returns-in-Some-clause-is
returns-in-Some-clause-is c = λ l network budget holds.
    let low = c.eighth_of.ensures in
    (subst (MarksHold l network budget) (sym c.self.view_is) holds).finds c.eighth_of.result None (omega arith) c.in-Some.find
    (sym (get_or_read c.self.inside.finds c.eighth_of.result c.index-self-eighth_of.result (omega arith) c.index-self-eighth_of.is None) ∙ c.index-self-eighth_of.is ∙ c.in-Some.is)
