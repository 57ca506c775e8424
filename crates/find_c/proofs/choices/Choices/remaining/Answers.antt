use Rattle.find_c.proofs.Prelude.{◌≡◌, ◌∙◌, ap, sym, true, false, eqb-true, remaining, ones_of, choices_of}
use Rattle.find_c.proofs.Marks.{remaining_free, remaining_first, none_of_nothing}
use Rattle.find_c.proofs.choices.Choices.remaining.Goals as goal
use Rattle.find_c.proofs.choices.Choices.remaining.Goals.{then-self, else-self}

pub returns-then-self-eq0 : goal.returns-then-self-eq0
returns-then-self-eq0 c = elim c.if-self.branch [
  | then-self w ↦ sym (remaining_free c.self.inside.relations) ∙ ap remaining (ap (choices_of c.self.inside.relations) (sym w.if-self.true) ∙ c.self.view_is)
  | else-self w ↦
      sym (ap remaining (none_of_nothing c.self.inside.relations (eqb-true _ _ (sym w.value-is ∙ c.if-self-eq0.true))))
      ∙ ap remaining (ap (choices_of c.self.inside.relations) (sym w.if-self.false) ∙ c.self.view_is)
]

pub returns-else-self-eq0 : goal.returns-else-self-eq0
returns-else-self-eq0 c = elim c.if-self.branch [
  | then-self w ↦ absurd (let both : true ≡ false = sym w.if-self.true ∙ sym w.value-is ∙ c.if-self-eq0.false in cc)
  | else-self w ↦
      sym (remaining_first c.self.inside.relations c.split_first.result.0 (ones_of c.split_first.result.1) c.split_first.ensures)
      ∙ ap remaining (ap (choices_of c.self.inside.relations) (sym w.if-self.false) ∙ c.self.view_is)
]
