use Rattle.propagators.proofs.Prelude.{◌<◌, ◌+◌, ◌*◌, ◌∙◌, ℕ, List, length, slice_index_or, sym, ap, subst, refl, arith, get_or_read, mul-add-lt, without, conditions}
use Rattle.propagators.proofs.Rounds.{dead_before}
use Rattle.propagators.proofs.Conditions.{arcs_small}
use Rattle.propagators.proofs.Single.{value_stays}
use Rattle.propagators.proofs.Visiting.{IsVisiting, Lacks, visit_begin, visit_apart, visit_word, visit_look, visit_next}
use Rattle.propagators.proofs.Neighbours.{struck_more}
use Rattle.propagators.proofs.visits.visit.Goals as goal

pub loop-w-init : goal.loop-w-init
loop-w-init c = record {
  visiting = visit_apart (conditions c.args.cons.now) c.args.plan.now c.args.v (without c.args.changed c.args.v) c.without-waiting.result c.look_apart.new.waiting c.args.doms.now c.args.doms.now c.look_apart.new.doms
      (subst (λ (xs : List ℕ). IsVisiting (conditions c.args.cons.now) (without c.args.changed c.args.v) c.args.doms.now (Lacks (conditions c.args.cons.now) c.args.v) xs c.args.doms.now) (sym c.without-waiting.ensures)
      (visit_begin (conditions c.args.cons.now) c.args.changed c.args.v c.args.doms.now
      (arcs_small c.args.cons.now.lang.now c.args.cons.now.list.now c.args.cons.now.against c.requires.lawful c.requires.constraints) c.requires.doms.full c.requires.doms.settled))
      (c.in-Yes.ensures.looked refl);
  value = value_stays (conditions c.args.cons.now) c.args.doms.now c.look_apart.new.doms c.args.v c.value_of-value.result (c.in-Yes.ensures.looked refl).underway c.value_of-value.ensures;
  entailed = struck_more (conditions c.args.cons.now) c.args.plan.now c.args.entailed.now c.note_struck.new.entailed c.args.v c.value_of-value.result c.args.doms.now c.look_apart.new.doms (c.in-Yes.ensures.looked refl).underway c.requires.entailed c.note_struck.ensures.noted c.note_struck.ensures.struck (c.in-Yes.ensures.entailed refl);
}

pub loop-rest-init : goal.loop-rest-init
loop-rest-init c = record {
  visiting = (let words = c.args.plan.now.room in
      let long = c.args.plan.now.long in
      let room = c.requires.plan.room in
      let count = c.requires.count in
      let end = c.div_ceil-w-end.ensures in
      let is = c.from.ensures in
      let known = c.requires.known in
      let word : c.loop-w.w < c.args.plan.now.words = omega arith in
      let fits = mul-add-lt c.loop-w.w 128 c.args.v c.args.plan.now.words word c.requires.known in
      visit_word (conditions c.args.cons.now) c.args.plan.now.briefs.items c.args.plan.now.words c.args.v c.loop-w.w c.args.plan.now.sets.items (without c.args.changed c.args.v) c.args.doms.now c.loop-w.waiting c.loop-w.doms c.index-noted.result.now c.word.result c.passing-rest.result c.args.plan.now c.loop-w.entailed
      c.requires.plan.plan.noted word
      (get_or_read c.args.plan.now.sets.items (c.loop-w.w * 128 + c.from.result) c.index-noted.result.now (subst (λ (v : ℕ). c.loop-w.w * 128 + v < length c.args.plan.now.sets.items) (sym c.from.ensures) (omega arith)) c.index-noted.ensures 0
      ∙ ap (λ v. slice_index_or c.args.plan.now.sets.items (c.loop-w.w * 128 + v) 0) c.from.ensures)
      c.word.ensures c.passing-rest.ensures c.loop-w.invariant.entailed c.loop-w.invariant.visiting);
  value = c.loop-w.invariant.value;
  entailed = c.loop-w.invariant.entailed;
}

pub loop-rest-preserved : goal.loop-rest-preserved
loop-rest-preserved c = record {
  visiting = (visit_look (conditions c.args.cons.now) c.args.plan.now.briefs.items c.args.v c.loop-w.w (without c.args.changed c.args.v) c.args.doms.now c.loop-rest.rest c.without_value-rest.result c.least_value-b.result
      (c.loop-w.w * 64 + c.from-in-loop-rest.result) c.loop-rest.waiting c.look_at.new.waiting c.loop-rest.doms c.look_at.new.doms
      c.least_value-b.ensures.low c.without_value-rest.ensures.has (ap (λ b. c.loop-w.w * 64 + b) c.from-in-loop-rest.ensures) c.loop-rest.invariant.visiting (c.in-Yes-look_at.ensures.looked refl));
  value = value_stays (conditions c.args.cons.now) c.loop-rest.doms c.look_at.new.doms c.args.v c.value_of-value.result (c.in-Yes-look_at.ensures.looked refl).underway c.loop-rest.invariant.value;
  entailed = c.in-Yes-look_at.ensures.entailed refl c.loop-rest.invariant.entailed;
}

pub returns-in-No-look_at-clause-dead : goal.returns-in-No-look_at-clause-dead
returns-in-No-look_at-clause-dead c = λ e. dead_before (conditions c.args.cons.now) c.args.doms.now c.loop-rest.doms c.loop-rest.invariant.visiting.underway (c.in-No-look_at.ensures.dead refl)

pub loop-w-preserved : goal.loop-w-preserved
loop-w-preserved c = record {
  visiting = (visit_next (conditions c.args.cons.now) c.args.plan.now.briefs.items c.args.v c.loop-w.w (without c.args.changed c.args.v) c.args.doms.now c.loop-rest.rest c.loop-rest.waiting c.loop-rest.doms c.loop-rest-test.false c.loop-rest.invariant.visiting);
  value = c.loop-rest.invariant.value;
  entailed = c.loop-rest.invariant.entailed;
}
