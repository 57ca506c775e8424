use Rattle.acq_said.proofs.Prelude.{◌∙◌, ap, arith, length, List, ℕ, Event, saying}
use Rattle.acq_loop.specs.declared.ending.Ending.TheVariants as ending
use Rattle.acq_said.proofs.Moved.{of_keeper}
use Rattle.acq_said.proofs.Showing.{shown_as}
use Rattle.acq_said.proofs.shows.shown.Goals as goal

pub returns : goal.returns
returns g c =
    let session = c.session-session in
    let shown = shown_as (of_keeper g.P.Keep c.args.keep.now) session.result.now c.events-events.result.now.items session.ensures.lang session.ensures.plan c.events-events.ensures.is session.ensures.stands in
    record { is = c.new.ensures ∙ ap (λ (text : List ℕ). saying text ending.Done) c.in_ok-text.ensures ∙ shown; so = tt }

pub show_text-requires-clause-few : goal.show_text-requires-clause-few
show_text-requires-clause-few g c = let few = g.met.P.Keep.few c.args.keep.now c.requires.sound in omega (arith, few, ap (λ (es : List Event). length es) c.events-events.ensures.is)
