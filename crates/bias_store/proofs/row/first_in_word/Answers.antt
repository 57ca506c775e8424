use Rattle.bias_store.proofs.Prelude.{◌≡◌, ℕ, ◌==◌, sym, ap, subst, IsLeastOne}
use Rattle.bias_store.proofs.InRow.{others_less, others_within, none_but_others, first_at_least, none_at_all}
use Rattle.bias_store.proofs.row.first_in_word.Goals as goal

-- by the place as a size
least_at : (word at place others : ℕ) → place ≡ at → IsLeastOne word at others → IsLeastOne word place others
least_at word at place others same least = subst (λ (p : ℕ). IsLeastOne word p others) (sym same) least

pub violated_in_row-violated-requires-clause-asked : goal.violated_in_row-violated-requires-clause-asked
violated_in_row-violated-requires-clause-asked c =
    let least = least_at c.loop-others.others _ c.from.result c.take_least-j.result.1 c.from.ensures c.take_least-j.ensures in
    c.loop-others.invariant.asked c.from.result (ap (λ x. x == 1) least.one)

pub returns-then-violated-ne0-clause-found : goal.returns-then-violated-ne0-clause-found
returns-then-violated-ne0-clause-found c =
    let least = least_at c.loop-others.others _ c.from.result c.take_least-j.result.1 c.from.ensures c.take_least-j.ensures in
    first_at_least c.loop-others.others c.from.result c.take_least-j.result.1 least c.args.q.now c.args.relations.now c.args.accepting.now c.args.second c.args.from c.args.count c.violated_in_row-violated.result c.requires.few
    c.loop-others.invariant.none c.violated_in_row-violated.ensures (c.loop-others.invariant.within c.from.result (ap (λ x. x == 1) least.one)) c.requires.within (c.loop-others.invariant.asked c.from.result (ap (λ x. x == 1) least.one))
    c.if-violated-ne0.true c.violated_in_row-violated.type_inv

pub loop-others-smaller : goal.loop-others-smaller
loop-others-smaller c = others_less c.loop-others.others _ c.take_least-j.result.1 c.take_least-j.ensures

pub loop-others-preserved : goal.loop-others-preserved
loop-others-preserved c =
    let least = least_at c.loop-others.others _ c.from.result c.take_least-j.result.1 c.from.ensures c.take_least-j.ensures in
    record {
      within = λ j on. c.loop-others.invariant.within j (others_within c.loop-others.others c.from.result c.take_least-j.result.1 least j on);
      asked = λ j on. c.loop-others.invariant.asked j (others_within c.loop-others.others c.from.result c.take_least-j.result.1 least j on);
      none = none_but_others c.loop-others.others c.from.result c.take_least-j.result.1 least c.args.q.now c.args.relations.now c.args.accepting.now c.args.second c.args.from c.args.count c.violated_in_row-violated.result c.requires.few
          c.loop-others.invariant.none c.violated_in_row-violated.ensures c.if-violated-ne0.false;
    }

pub returns-clause-none : goal.returns-clause-none
returns-clause-none c = none_at_all c.args.q.now c.args.relations.now c.args.accepting.now c.args.second c.args.from c.args.count c.loop-others.others c.loop-others-test.false c.loop-others.invariant.none
