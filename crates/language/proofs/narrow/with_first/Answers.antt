use Rattle.language.proofs.Prelude.{◌≡◌, ◌++◌, ◌∷◌, [], ◌&&◌, Bool, false, map, take, get_or, append_assoc, sym, ◌∙◌, ap, map_more, take_all}
use Rattle.language.proofs.Within.{one_first}
use Rattle.language.proofs.narrow.with_first.Goals as goal
use Rattle.language.proofs.narrow.with_first.Goals.{then-is_first, else-is_first}

pub loop-within-preserved : goal.loop-within-preserved
loop-within-preserved c =
    let f : Bool → Bool = λ within. c.is_in-is_first.result && within in
    let x : Bool = get_or c.args.rest.now c.loop-within.within-index false in
    let value : c.if-is_first.push ≡ f x = elim c.if-is_first.branch [
      | then-is_first w ↦ w.push-is ∙ ap (λ b. b && x) (sym w.if-is_first.true)
      | else-is_first w ↦ w.push-is ∙ w.if-is_first.false ∙ ap (λ b. b && x) (sym w.if-is_first.false)
    ] in
    c.in_ok-push.ensures.items
    ∙ (λ i. c.loop-within.invariant i ++ value i ∷ [])
    ∙ append_assoc c.loop-x.truth.items (map f (take c.loop-within.within-index c.args.rest.now)) (f x ∷ [])
    ∙ ap (λ more. c.loop-x.truth.items ++ more) (sym (map_more f c.args.rest.now c.loop-within.within-index false c.loop-within-test.true))

pub loop-x-preserved : goal.loop-x-preserved
loop-x-preserved c =
    one_first c.args.range c.loop-x.x c.args.rest.now c.loop-x.truth.items c.loop-within.truth.items c.loop-x.invariant
    (c.loop-within.invariant
    ∙ (λ i. c.loop-x.truth.items ++ map (λ within. c.is_in-is_first.ensures i && within) (take_all c.loop-within.within-index c.args.rest.now c.loop-within-test.false i)))
