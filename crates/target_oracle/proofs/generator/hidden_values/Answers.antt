use Rattle.target_oracle.proofs.Prelude.{arith, ap, length, ◌∙◌, length-set}
use Rattle.target_oracle.proofs.Draws.{first_state, next_state, drawn_more, all_drawn}
use Rattle.target_oracle.proofs.generator.hidden_values.Goals as goal

pub loop-v-init : goal.loop-v-init
loop-v-init c = record { size = ap length c.blank-values.ensures; state = first_state c.args.number _ c.from-state.ensures; drawn = λ k low. absurd (omega arith) }

pub loop-v-preserved : goal.loop-v-preserved
loop-v-preserved c =
    let state = next_state c.args.number c.loop-v.v c.loop-v.state c.after-state.result c.loop-v.invariant.state c.after-state.ensures in
    record {
      size = ap length c.set.ensures ∙ length-set c.loop-v.values c.loop-v.v _ ∙ c.loop-v.invariant.size;
      state = state;
      drawn = drawn_more c.args.number c.loop-v.v c.after-state.result c.loop-v.values c.set.new.self c.loop-v.invariant.size c.loop-v-test.true state c.set.ensures c.loop-v.invariant.drawn;
    }

pub returns-clause-hidden : goal.returns-clause-hidden
returns-clause-hidden c = all_drawn c.args.number c.loop-v.v c.loop-v.values c.loop-v-test.false c.loop-v.invariant.size c.loop-v.invariant.drawn
