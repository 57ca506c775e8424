use Rattle.acq_said.proofs.Prelude.{◌+◌, ◌∙◌, sym, ap, arith, List, length, length-take-le, take, take_all, Event, is_back}
use Rattle.std.specs.Prelude.{filter}
use Rattle.assign.specs.declared.events.Event.TheVariants as event
use Rattle.acq_said.proofs.Showing.{backs_more, few_backs}
use Rattle.acq_said.proofs.shows.take_backs.Goals.{then-is_back, else-is_back}
use Rattle.acq_said.proofs.shows.take_backs.Goals as goal

pub loop-i-preserved : goal.loop-i-preserved
loop-i-preserved c =
    let events : List Event = c.args.events.now.items in
    let more = backs_more events c.loop-i.i event.Back (omega (arith, c.loop-i-test.true, c.len-i-end.ensures.len)) in
    elim c.if-is_back.branch [
      | then-is_back w ↦ w.backs-is ∙ ap (λ n. n + 1) c.loop-i.invariant ∙ sym (more.0 (sym c.is_back.ensures ∙ w.if-is_back.true))
      | else-is_back w ↦ w.backs-is ∙ c.loop-i.invariant ∙ sym (more.1 (sym c.is_back.ensures ∙ w.if-is_back.false))
    ]

pub overflow_add-backs : goal.overflow_add-backs
overflow_add-backs c =
    let events : List Event = c.args.events.now.items in
    let front = length-take-le c.loop-i.i events (omega (arith, c.loop-i-test.true, c.len-i-end.ensures.len)) in
    omega (arith, c.len-i-end.type_inv, front, few_backs (take c.loop-i.i events), c.loop-i.invariant, c.loop-i-test.true)

pub returns : goal.returns
returns c =
    let events : List Event = c.args.events.now.items in
    c.loop-i.invariant ∙ ap (λ (es : List Event). length (filter is_back es)) (take_all c.loop-i.i events (omega (arith, c.loop-i-test.false, c.len-i-end.ensures.len)))
