use Rattle.find_c.proofs.Prelude.{◌∙◌, sym, beq, filter, is_accepting}
use Rattle.find_c.proofs.Marks.{agreeing_yes, agreeing_no}
use Rattle.find_c.proofs.choices.Choices.agreeing.Goals as goal

pub returns-then-yes : goal.returns-then-yes
returns-then-yes c =
    agreeing_yes c.self.inside.relations c.args.accepting c.self.inside.free
    ∙ (λ i. filter (λ x. beq (is_accepting c.args.accepting x) (sym c.if-yes.true i)) (c.self.view_is i))

pub returns-else-yes : goal.returns-else-yes
returns-else-yes c =
    agreeing_no c.self.inside.relations c.args.accepting c.self.inside.free c.ranges.accepting.fits
    ∙ (λ i. filter (λ x. beq (is_accepting c.args.accepting x) (sym c.if-yes.false i)) (c.self.view_is i))
