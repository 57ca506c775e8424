use Rattle.propagators.proofs.Prelude.{◌≡◌, ◌<◌, ◌+◌, ◌*◌, ◌∙◌, ℕ, length, min, ap, sym, subst, refl, arith, slice_index_or, get_or_read, mul-add-lt, and_parts, None, conditions, HasApart}
use Rattle.propagators.proofs.Rounds.{dead_before}
use Rattle.propagators.proofs.Conditions.{family_under}
use Rattle.propagators.proofs.Indexed.{arcs_narrow}
use Rattle.propagators.proofs.Neighbours.{with_word, part_begin, part_word, part_look, part_next, part_end}
use Rattle.propagators.proofs.differing.look_at_neighbours.Goals as goal

pub loop-h-init : goal.loop-h-init
loop-h-init c = record {
  parting = part_begin (conditions c.args.cons.now) c.args.plan.now c.args.v c.args.waiting.now c.args.doms.now None c.requires.doms.full;
}

pub loop-rest-init : goal.loop-rest-init
loop-rest-init c = record {
  parting = (let long = c.args.plan.now.aparts_long in
      let known = c.requires.known in
      let low = c.loop-h-test.true in
      let fits = mul-add-lt c.loop-h.h 128 c.args.v 2 low c.requires.known in
      part_word c.args.cons.now.lang.now (conditions c.args.cons.now) c.args.plan.now c.requires.plan c.args.v c.loop-h.h c.args.waiting.now c.args.doms.now None c.loop-h.waiting c.loop-h.doms c.index-beside.result.now c.struck.result c.passing-rest.result c.args.entailed.now
      (get_or_read c.args.plan.now.aparts.items (c.loop-h.h * 128 + c.from.result) c.index-beside.result.now (subst (λ (v : ℕ). c.loop-h.h * 128 + v < length c.args.plan.now.aparts.items) (sym c.from.ensures) (omega arith)) c.index-beside.ensures 0
      ∙ ap (λ v. slice_index_or c.args.plan.now.aparts.items (c.loop-h.h * 128 + v) 0) c.from.ensures)
      c.struck.ensures c.passing-rest.ensures c.requires.entailed c.loop-h.invariant.parting);
  among = λ y there. (and_parts _ _ (sym (c.passing-rest.ensures y) ∙ there)).0;
}

pub look_at_two-requires-clause-doms : goal.look_at_two-requires-clause-doms
look_at_two-requires-clause-doms c = record {
  family = family_under c.args.cons.now.lang.now (conditions c.args.cons.now) c.args.doms.now c.loop-rest.doms c.requires.doms.family c.loop-rest.invariant.parting.underway;
  full = c.loop-rest.invariant.parting.underway.full;
}

pub look_at_two-requires-clause-apart : goal.look_at_two-requires-clause-apart
look_at_two-requires-clause-apart c =
    (let long = c.args.plan.now.aparts_long in
    let low = c.loop-h-test.true in
    let fits = mul-add-lt c.loop-h.h 128 c.args.v 2 low c.requires.known in
    let beside : c.index-beside.result.now ≡ slice_index_or c.args.plan.now.aparts.items (c.loop-h.h * 128 + c.args.v) 0 =
    get_or_read c.args.plan.now.aparts.items (c.loop-h.h * 128 + c.from.result) c.index-beside.result.now (subst (λ (v : ℕ). c.loop-h.h * 128 + v < length c.args.plan.now.aparts.items) (sym c.from.ensures) (omega arith)) c.index-beside.ensures 0
    ∙ ap (λ v. slice_index_or c.args.plan.now.aparts.items (c.loop-h.h * 128 + v) 0) c.from.ensures in
    with_word c.args.plan.now.aparts.items c.args.v c.loop-h.h c.least_value-b.result c.index-beside.result.now c.loop-rest.rest c.least_value-b.ensures.low beside c.least_value-b.ensures.there c.loop-rest.invariant.among)

pub returns-in-No-clause-dead : goal.returns-in-No-clause-dead
returns-in-No-clause-dead c = λ e. dead_before (conditions c.args.cons.now) c.args.doms.now c.loop-rest.doms c.loop-rest.invariant.parting.underway (c.in-No.ensures.dead refl)

pub loop-rest-preserved : goal.loop-rest-preserved
loop-rest-preserved c =
    (let low = c.loop-h-test.true in
    let small = c.least_value-b.ensures.low in
    let few = c.requires.lawful.few_variables in
    let by : HasApart c.args.plan.now.briefs.items (min (length c.args.plan.now.briefs.items) (length (conditions c.args.cons.now))) c.args.v (c.loop-h.h * 64 + c.least_value-b.result) = c.requires.plan.plan.apart c.args.v (c.loop-h.h * 64 + c.least_value-b.result) c.requires.known (let long = c.args.plan.now.aparts_long in
    let fits = mul-add-lt c.loop-h.h 128 c.args.v 2 low c.requires.known in
    let beside : c.index-beside.result.now ≡ slice_index_or c.args.plan.now.aparts.items (c.loop-h.h * 128 + c.args.v) 0 =
    get_or_read c.args.plan.now.aparts.items (c.loop-h.h * 128 + c.from.result) c.index-beside.result.now (subst (λ (v : ℕ). c.loop-h.h * 128 + v < length c.args.plan.now.aparts.items) (sym c.from.ensures) (omega arith)) c.index-beside.ensures 0
    ∙ ap (λ v. slice_index_or c.args.plan.now.aparts.items (c.loop-h.h * 128 + v) 0) c.from.ensures in
    with_word c.args.plan.now.aparts.items c.args.v c.loop-h.h c.least_value-b.result c.index-beside.result.now c.loop-rest.rest c.least_value-b.ensures.low beside c.least_value-b.ensures.there c.loop-rest.invariant.among) in
    record {
      parting = part_look c.args.cons.now.lang.now (conditions c.args.cons.now) c.args.plan.now c.requires.plan c.args.v c.loop-h.h c.args.waiting.now c.args.doms.now None c.loop-rest.rest c.without_value-rest.result c.least_value-b.result c.loop-rest.waiting c.look_at_two.new.waiting c.loop-rest.doms c.look_at_two.new.doms by.place
          c.least_value-b.ensures.low c.without_value-rest.ensures.has (let at = by.low in omega arith) by.is (c.in-Yes.ensures.looked refl) tt c.loop-rest.invariant.parting;
      among = λ y there. c.loop-rest.invariant.among y (and_parts _ _ (sym (c.without_value-rest.ensures.has y) ∙ there)).0;
    })

pub loop-h-preserved : goal.loop-h-preserved
loop-h-preserved c = record {
  parting = part_next (conditions c.args.cons.now) c.args.plan.now c.args.v c.loop-h.h c.args.waiting.now c.args.doms.now None c.loop-rest.rest c.loop-rest.waiting c.loop-rest.doms c.loop-rest-test.false c.loop-rest.invariant.parting;
}

pub returns-clause-looked : goal.returns-clause-looked
returns-clause-looked c = λ e.
    part_end c.args.cons.now.lang.now (conditions c.args.cons.now) c.args.plan.now c.requires.plan (λ k u a low there. arcs_narrow c.args.cons.now.lang.now c.args.cons.now.list.now c.args.cons.now.against c.requires.lawful c.requires.constraints k u a low there) c.args.v c.args.waiting.now c.args.doms.now None c.loop-h.h c.loop-h.waiting c.loop-h.doms
    (let end = c.loop-h-test.false in omega arith) c.loop-h.invariant.parting
