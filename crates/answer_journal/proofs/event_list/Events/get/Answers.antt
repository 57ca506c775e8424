use Rattle.answer_journal.proofs.Prelude.{◌∙◌, ap, get_or, List, Event, Back}
use Rattle.std.proofs.lemmas.List.{get_or_default}
use Rattle.answer_journal.specs.EventList.{event_in}
use Rattle.answer_journal.proofs.EventLists.{event_again}
use Rattle.answer_journal.proofs.event_list.Events.get.Goals as goal

pub returns : goal.returns
returns c =
    let events : List Event = c.args.self.now.items in
    c.event_in.ensures ∙ ap event_in c.entry.ensures.is ∙ event_again (get_or events c.args.i Back) c.entry.ensures.storable ∙ get_or_default events c.args.i Back c.event_in.result c.requires
