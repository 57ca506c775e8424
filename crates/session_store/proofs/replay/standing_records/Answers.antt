use Rattle.session_store.proofs.Prelude.{◌+◌, ◌<◌, ◌≤◌, ℕ, List, length, get_or, ◌∙◌, sym, subst, arith, Event, AreStandingNumbers}
use Rattle.assign.specs.declared.events.Event.TheVariants as variant
use Rattle.session_store.proofs.Recording.{popped_one, an_answer, a_back, answer_counted, back_counted, all_counted}
use Rattle.session_store.proofs.replay.standing_records.Goals.{then-is_back+else-is_none, else-is_back+in_ok-push}
use Rattle.session_store.proofs.replay.standing_records.Goals as goal

pub loop-i-preserved : goal.loop-i-preserved
loop-i-preserved c =
    let events : List Event = c.args.events.now.items in
    let i : ℕ = c.loop-i.i in
    let low : i < length events = omega (arith, c.loop-i-test.true, c.len-i-end.ensures.len) in
    let Counted : List ℕ → Type 0 = λ xs. AreStandingNumbers events (i + 1) xs in
    elim c.if-is_back.branch [
      | then-is_back+else-is_none w ↦
          let popped = popped_one c.loop-i.records.items w.pop.new.self.items w.pop.result w.pop.ensures.items w.if-is_none.ensures in
          rw w.records-is (back_counted events i c.loop-i.records.items w.pop.new.self.items popped.0 variant.Back low (a_back (get_or events i variant.Back) (sym c.is_back.ensures ∙ w.if-is_back.true)) popped.1 c.loop-i.invariant)
      | else-is_back+in_ok-push w ↦
          let is = an_answer (get_or events i variant.Back) (sym c.is_back.ensures ∙ w.if-is_back.false) in
          rw w.records-is (subst Counted (sym w.in_ok-push.ensures.items) (answer_counted events i c.loop-i.records.items is.0 is.1 variant.Back low is.2 c.loop-i.invariant))
    ]

pub returns-clause-records : goal.returns-clause-records
returns-clause-records c =
    let end : length c.args.events.now.items ≤ c.loop-i.i = omega (arith, c.loop-i-test.false, c.len-i-end.ensures.len) in
    (all_counted c.args.events.now.items c.loop-i.i c.loop-i.records.items end c.loop-i.invariant).0

pub returns-clause-found : goal.returns-clause-found
returns-clause-found c =
    let end : length c.args.events.now.items ≤ c.loop-i.i = omega (arith, c.loop-i-test.false, c.len-i-end.ensures.len) in
    (all_counted c.args.events.now.items c.loop-i.i c.loop-i.records.items end c.loop-i.invariant).1
