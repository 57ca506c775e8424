use Rattle.assign.proofs.Prelude.{ap, sym, ◌∙◌, ◌≡◌, arith, cond, Some, None, value_of, slice_index_or, seen, length-seen, value_of-seen, get_or_past}
use Rattle.assign.proofs.assignment.Partial.get.Goals.{else-v-self-via-then-v-self+else-has, else-v-self-via-else-v-self}
use Rattle.assign.proofs.assignment.Partial.get.Goals as goal

pub returns-then-has : goal.returns-then-has
returns-then-has c =
    let f = c.self.invariant.fits in
    let low = c.if-v-self.true in
    sym (ap (λ b. cond b (Some (slice_index_or c.self.inside.values c.args.v 0)) None) (sym c.has.ensures ∙ c.if-has.true))
    ∙ sym (value_of-seen c.self.inside c.self.invariant c.args.v (omega arith)) ∙ ap (λ e. value_of e c.args.v) c.self.view_is

pub returns-else-v-self : goal.returns-else-v-self
returns-else-v-self c =
    sym (elim c.else-v-self.branch as (λ _. value_of (seen c.self.inside) c.args.v ≡ None) [
      | else-v-self-via-then-v-self+else-has w ↦
          let f = c.self.invariant.fits in
          let low = w.if-v-self.true in
          value_of-seen c.self.inside c.self.invariant c.args.v (omega arith)
          ∙ ap (λ b. cond b (Some (slice_index_or c.self.inside.values c.args.v 0)) None) (sym w.has.ensures ∙ w.if-has.false)
      | else-v-self-via-else-v-self w ↦ let past = w.if-v-self.false in get_or_past (seen c.self.inside) c.args.v None (omega (arith, length-seen c.self.inside))
    ]) ∙ ap (λ e. value_of e c.args.v) c.self.view_is
