use Rattle.find_c.proofs.Prelude.{◌∙◌, false, sym, refl, ap, beq, filter, is_accepting}
use Rattle.find_c.proofs.Accepting.{kept_accepting}
use Rattle.find_c.proofs.Marks.{none_of_nothing}
use Rattle.find_c.proofs.Starting.{nothing_violated, violated_marked}
use Rattle.find_c.proofs.run.violated_choices.Goals as goal

pub returns-in-None : goal.returns-in-None
returns-in-None c = c.new.ensures ∙ none_of_nothing 0 refl ∙ sym (nothing_violated c.args.lang.now c.args.kept.now.members c.args.e.now c.args.s (sym c.place_on.ensures.is ∙ c.in-None.is))

pub returns-in-Some : goal.returns-in-Some
returns-in-Some c =
    c.agreeing.ensures ∙ ap (filter (λ x. beq (is_accepting c.accepting.result x) false)) c.new-in-Some.ensures
    ∙ violated_marked c.args.lang.now c.args.kept.now.members c.args.e.now c.args.s c.on_scope.result c.in-Some.place c.accepting.result c.on_scope.ensures (sym c.place_on.ensures.is ∙ c.in-Some.is)
    (kept_accepting c.args.lang.now c.args.s c.in-Some.place c.accepting.result c.accepting.type_inv (c.requires.made.accepting.few c.args.s c.requires.scope) c.accepting.ensures)
