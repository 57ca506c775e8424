use Rattle.acq_said.proofs.Prelude.{◌≡◌, ◌∙◌, ap, subst, arith, length, IfOk, List, Event, Language, standing_on}
use Rattle.acq_said.proofs.certifying.standing_entries.Goals as goal

pub standing_records-requires : goal.standing_records-requires
standing_records-requires g c = let few = g.met.P.Keep.few c.args.keep.now c.requires in omega (arith, few, ap (λ (es : List Event). length es) c.events-events.ensures.is)

pub entries_of-requires-clause-few : goal.entries_of-requires-clause-few
entries_of-requires-clause-few g c = let few = g.met.P.Keep.few c.args.keep.now c.requires in omega (arith, few, ap (λ (es : List Event). length es) c.events-events.ensures.is)

pub returns : goal.returns
returns g c =
    let P = g.P.Keep in
    let keep = c.args.keep.now in
    let By : Language → List Event → Type 0 = λ l es. IfOk c.entries_of.result (λ entries. entries.items ≡ standing_on l es) in
    subst (By (P.lang keep)) c.events-events.ensures.is (subst (λ (l : Language). By l c.events-events.result.now.items) (c.lang.ensures.is ∙ c.session.ensures.lang) c.entries_of.ensures)
