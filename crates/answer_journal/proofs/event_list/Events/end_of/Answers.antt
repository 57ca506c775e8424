use Rattle.answer_journal.proofs.Prelude.{◌∙◌, ap, arith, length}
use Rattle.answer_journal.proofs.EventLists.{count_kept, end_at, kept_in}
use Rattle.answer_journal.proofs.event_list.Events.end_of.Goals as goal

pub index-requires : goal.index-requires
index-requires c =
    let kept = kept_in c.self.inside.bytes.items c.self.inside.ends.items _ c.args.self.now c.self.view_is c.self.invariant in
    omega (arith, c.requires, c.if-count-eq0.false, c.self.inside.ends.ok.0, ap length kept.ends_are, count_kept 0 c.args.self.now.items)

pub returns-else-count-eq0 : goal.returns-else-count-eq0
returns-else-count-eq0 c =
    let kept = kept_in c.self.inside.bytes.items c.self.inside.ends.items _ c.args.self.now c.self.view_is c.self.invariant in
    c.index.ensures ∙ end_at _ _ c.args.self.now.items c.args.count c.index.result.now kept c.if-count-eq0.false c.requires
