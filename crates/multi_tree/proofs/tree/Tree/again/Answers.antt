use Rattle.multi_tree.proofs.Prelude.{◌≡◌, ℕ, List, ◌∷◌, None, refl, sym, ◌∙◌, ap, subst, Walk, Stage, Ready, asked_in, put_again, PutsAgain}
use Rattle.multi_tree.specs.declared.tree.Phase.{Phase}
use Rattle.multi_tree.specs.declared.tree.Phase.TheVariants as phases
use Rattle.multi_tree.specs.Inside.{stage_of}
use Rattle.multi_tree.proofs.Moves.{move_stands}
use Rattle.multi_tree.proofs.tree.Tree.again.Goals as goal

put_is : (phase : Phase) (asked : List ℕ) (walk : Walk) → (asked_in (stage_of phase asked walk) ≡ None → ⊥) → Ready (record walk { waiting = asked ∷ walk.waiting }) ≡ put_again (stage_of phase asked walk)
put_is phases.Ready asked walk h = absurd (h refl)
put_is phases.Asked asked walk h = refl
put_is phases.Ended asked walk h = absurd (h refl)
put_is phases.Capped asked walk h = absurd (h refl)

pub returns-clause-stands : goal.returns-clause-stands
returns-clause-stands c = λ l e moves.
    let a = c.self.inside in
    let walk : Walk = record { example = a.example; waiting = a.waiting; left = a.left } in
    let Some : Stage → Type 0 = λ stage. asked_in stage ≡ None → ⊥ in
    move_stands l e c.args.self.now (Ready (record { example = a.example; waiting = c.push.new.self; left = a.left })) moves PutsAgain
    (ap (λ (waiting : List (List ℕ)). Ready (record { example = a.example; waiting = waiting; left = a.left })) c.push.ensures
    ∙ put_is a.phase a.asked walk (subst Some (sym c.self.view_is) c.requires) ∙ ap put_again c.self.view_is)
