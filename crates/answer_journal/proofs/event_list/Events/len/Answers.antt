use Rattle.answer_journal.proofs.Prelude.{◌∙◌, ap, length}
use Rattle.answer_journal.proofs.EventLists.{count_kept, kept_in}
use Rattle.answer_journal.proofs.event_list.Events.len.Goals as goal

pub returns-clause-len : goal.returns-clause-len
returns-clause-len c =
    let kept = kept_in c.self.inside.bytes.items c.self.inside.ends.items _ c.args.self.now c.self.view_is c.self.invariant in
    c.len.ensures ∙ c.self.inside.ends.ok.0 ∙ ap length kept.ends_are ∙ count_kept 0 c.args.self.now.items
