use Rattle.find_scope.proofs.Prelude.{◌≡◌, ℕ, List, ◌∷◌, sym, subst, ap, ◌∙◌, union, minus, first_half, second_half, ThenFirst, Run, meaning}
use Rattle.find_scope.proofs.Moves.{Holds, minus_first, second_first, split_holds, halves_two}
use Rattle.find_scope.proofs.run.split.Goals as goal

-- the run that is made
made : (c : goal.After-minus) → (let made : Run = record { base = c.union.result; set = c.minus.result; frames = c.push.new.self } in made) ≡ second_first c.args.frames c.args.base c.args.set
made c =
    let first : c.first_half-first.result ≡ first_half c.args.set = c.first_half-first.ensures in
    let base : c.union.result ≡ union c.args.base (first_half c.args.set) = c.union.ensures ∙ ap (union c.args.base) first in
    let rest : c.minus.result ≡ second_half c.args.set = c.minus.ensures ∙ ap (minus c.args.set) first ∙ minus_first c.args.set c.requires.rising in
    let pushed : c.push.new.self ≡ ThenFirst c.args.base (first_half c.args.set) ∷ c.args.frames = c.push.ensures ∙ ap (λ (x : List ℕ). ThenFirst c.args.base x ∷ c.args.frames) first in
    λ i. record { base = base i; set = rest i; frames = pushed i }

pub invariant_of-result : goal.invariant_of-result
invariant_of-result c =
    subst Holds (sym (made c)) (split_holds c.args.frames c.args.base c.args.set c.requires.known c.requires.rising c.requires.many c.requires.small c.requires.waiting)

pub returns : goal.returns
returns c = λ replies. ap (λ (r : Run). meaning r replies) (made c) ∙ halves_two c.args.frames c.args.base c.args.set replies c.requires.many
