use Rattle.cert_check.proofs.Prelude.{◌≡◌, ℕ, Bool, ◌+◌, ◌*◌, ◌^◌, ◌<◌, ◌≤◌, [], false, not, length, subst, sym, ◌∙◌, ap, arith, range_of, scope_at, slice_index_or}
use Rattle.language.specs.Language.{relation_of}
use Rattle.language.proofs.ByNames.{IsMaskOf, mask_more}
use Rattle.cert_check.proofs.Values.{passing, none_passing, passing_at}
use Rattle.cert_check.proofs.siblings.rejecting.Goals as goal

pub loop-x-init : goal.loop-x-init
loop-x-init c =
    let test : ℕ → Bool = λ x. not (slice_index_or (relation_of c.args.lang.now c.args.c) (c.args.line.place + x * c.args.line.stride) false) in
    let first = (range_of c.args.lang.now c.args.v).first in
    subst (λ n. IsMaskOf (passing first test) n 0) (sym c.range-first.ensures.first) (none_passing first test)

pub holds-held-requires-clause-place : goal.holds-held-requires-clause-place
holds-held-requires-clause-place c =
    let l = c.args.lang.now in
    let known = c.range-first.ensures.known in
    let test = c.loop-x-test.true in
    subst (λ x. c.args.line.place + x * c.args.line.stride < l.value_count ^ length (scope_at l c.args.c.scope)) (sym c.from.ensures) (c.requires.below c.loop-x.x (omega arith))

pub loop-x-preserved : goal.loop-x-preserved
loop-x-preserved c =
    let l = c.args.lang.now in
    let test : ℕ → Bool = λ x. not (slice_index_or (relation_of l c.args.c) (c.args.line.place + x * c.args.line.stride) false) in
    let first = (range_of l c.args.v).first in
    let known = c.range-first.ensures.known in
    let few = c.requires.lawful.few_values in
    let below = c.loop-x-test.true in
    let from = c.loop-x.auto.x in
    let is = c.range-first.ensures.first in
    mask_more (passing first test) c.loop-x.x c.loop-x.values _ (not c.holds-held.result) (omega arith) c.from-in-loop-x.ensures
    (ap not (c.holds-held.ensures ∙ ap (λ x. slice_index_or (relation_of l c.args.c) (c.args.line.place + x * c.args.line.stride) false) c.from.ensures) ∙ passing_at first test c.loop-x.x (omega arith))
    c.loop-x.invariant

pub returns : goal.returns
returns c = λ x at.
    let l = c.args.lang.now in
    let test : ℕ → Bool = λ y. not (slice_index_or (relation_of l c.args.c) (c.args.line.place + y * c.args.line.stride) false) in
    let end = c.loop-x-test.false in
    let last = c.range-first.ensures.last in
    let to = at.to in
    c.loop-x.invariant.low x (omega arith) ∙ sym (passing_at (range_of l c.args.v).first test x at.from)
