use Rattle.language.proofs.Prelude.{◌≡◌, ◌+◌, ◌≤◌, false, [], slice_index_or, ap, ◌∙◌, arith, Language, relations_on}
use Rattle.language.proofs.ByNames.{no_mask, mask_more}
use Rattle.language.proofs.Fields.{lawful_here}
use Rattle.language.proofs.lang.Language.row_on.Goals as goal

pub loop-y-init : goal.loop-y-init
loop-y-init c = no_mask (λ y. slice_index_or (slice_index_or (relations_on c.args.self.now c.args.s) c.args.r []) (c.args.place + y) false)

pub loop-y-preserved : goal.loop-y-preserved
loop-y-preserved c =
    let few : c.args.self.now.value_count ≤ 64 = (lawful_here c.self.inside c.self.invariant c.args.self.now c.self.view_is).few_values in
    let values : c.self.inside.value_count ≡ c.args.self.now.value_count = ap (λ (l : Language). l.value_count) c.self.view_is in
    mask_more (λ y. slice_index_or (slice_index_or (relations_on c.args.self.now c.args.s) c.args.r []) (c.args.place + y) false) c.loop-y.y c.loop-y.row c.from-in-loop-y.result c.holds.result
    (omega (arith, few, values)) c.from-in-loop-y.ensures
    (c.holds.ensures ∙ ap (λ y. slice_index_or (slice_index_or (relations_on c.args.self.now c.args.s) c.args.r []) (c.args.place + y) false) c.from.ensures) c.loop-y.invariant

pub returns : goal.returns
returns c y low =
    let values : c.self.inside.value_count ≡ c.args.self.now.value_count = ap (λ (l : Language). l.value_count) c.self.view_is in
    c.loop-y.invariant.low y (omega (arith, low, values))
