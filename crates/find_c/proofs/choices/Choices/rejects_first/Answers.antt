use Rattle.find_c.proofs.Prelude.{◌∙◌, ap, sym, subst, All, scene_of, choices_of, differ_at, IsChoiceOn}
use Rattle.find_c.proofs.Differences.{differ_beside, known_of}
use Rattle.find_c.proofs.choices.Choices.rejects_first.Goals as goal

pub some_rejects-requires-clause-known : goal.some_rejects-requires-clause-known
some_rejects-requires-clause-known c = known_of c.args.lang.now c.args.s c.self.inside.relations c.self.inside.free (subst (λ cs. All (IsChoiceOn c.args.lang.now c.args.s) cs) (sym c.self.view_is) c.requires.known)

pub returns-then-self : goal.returns-then-self
returns-then-self c = λ some.
    ap (λ cs. differ_at (scene_of c.args.lang.now c.args.s) cs 0) (sym (ap (choices_of c.self.inside.relations) (sym c.if-self.true) ∙ c.self.view_is))
    ∙ differ_beside (scene_of c.args.lang.now c.args.s) 0 c.self.inside.relations (c.some_rejects.ensures some)
