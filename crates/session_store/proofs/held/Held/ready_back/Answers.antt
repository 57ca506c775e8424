use Rattle.session_store.proofs.Prelude.{◌≡◌, ◌-◌, ◌∙◌, ap, length, take, ℕ, standing_numbers, events_held}
use Rattle.session_store.proofs.Recording.{numbers_back}
use Rattle.session_store.proofs.held.Held.ready_back.Goals as goal

pub returns-in-Ok-clause-records : goal.returns-in-Ok-clause-records
returns-in-Ok-clause-records c =
    let is : c.in-Ok.records.items ≡ standing_numbers (events_held c.args.self.now) = c.in-Ok.ensures.records ∙ ap standing_numbers c.make_room.ensures.events in
    let size : c.in-Ok.records.len ≡ length c.in-Ok.records.items = c.in-Ok.records.ok.0 in
    c.pop.ensures.rest ∙ ap (λ (n : ℕ). take (n - 1) c.in-Ok.records.items) size ∙ numbers_back (events_held c.args.self.now) c.in-Ok.records.items is
