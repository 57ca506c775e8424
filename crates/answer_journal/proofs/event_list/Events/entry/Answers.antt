use Rattle.answer_journal.proofs.Prelude.{◌+◌, ◌∙◌, ap, arith, length, List, ℕ, Back}
use Rattle.std.specs.Prelude.{slice_range}
use Rattle.answer_journal.proofs.EventLists.{count_kept, entry_at, kept_in, rises, within}
use Rattle.answer_journal.proofs.event_list.Events.entry.Goals as goal

pub overflow_add-i : goal.overflow_add-i
overflow_add-i c =
    let a = c.self.inside in
    let kept = kept_in a.bytes.items a.ends.items _ c.args.self.now c.self.view_is c.self.invariant in
    omega (arith, c.requires, a.ends.small, a.ends.ok.0, a.ends.ok.1, ap length kept.ends_are, count_kept 0 c.args.self.now.items)

pub slice_bounds-result-count : goal.slice_bounds-result-count
slice_bounds-result-count c = omega (arith, c.end_of.ensures, c.end_of-2.ensures, rises c.args.i c.args.self.now.items)

pub slice_bounds-result-start : goal.slice_bounds-result-start
slice_bounds-result-start c = omega (arith, c.end_of.ensures, c.end_of-2.ensures, rises c.args.i c.args.self.now.items)

pub slice_bounds-result-end : goal.slice_bounds-result-end
slice_bounds-result-end c =
    let a = c.self.inside in
    let kept = kept_in a.bytes.items a.ends.items _ c.args.self.now c.self.view_is c.self.invariant in
    omega (arith, c.end_of-2.ensures, c.deref.ensures.len, a.bytes.ok.0, ap length kept.bytes_are, within (c.args.i + 1) c.args.self.now.items)

pub returns-clause-is : goal.returns-clause-is
returns-clause-is c =
    let a = c.self.inside in
    let kept = kept_in a.bytes.items a.ends.items _ c.args.self.now c.self.view_is c.self.invariant in
    ap (λ (xs : List ℕ). slice_range xs c.end_of.result c.end_of-2.result) c.deref.ensures.value
    ∙ entry_at a.bytes.items a.ends.items c.args.self.now.items c.args.i Back c.end_of.result c.end_of-2.result kept c.requires c.end_of.ensures c.end_of-2.ensures
