use Rattle.answer_journal.proofs.Prelude.{◌≡◌, ◌++◌, ◌∙◌, ap, arith, length, List, ℕ}
use Rattle.std.proofs.lemmas.Bool.{cond-true}
use Rattle.std.specs.Prelude.{vec_len, vec_capacity}
use Rattle.answer_journal.specs.EventList.{entry_bytes}
use Rattle.answer_journal.proofs.EventLists.{entries_size, entry_size, kept_in, kept_more, kept_seen, room_in, seen_kept}
use Rattle.answer_journal.proofs.event_list.Events.add.Goals as goal

pub overflow_cast-end : goal.overflow_cast-end
overflow_cast-end c =
    let a = c.self.inside in
    let kept = kept_in a.bytes.items a.ends.items _ c.args.self.now c.self.view_is c.self.invariant in
    let room = room_in a.bytes.items a.ends.items (vec_len a.ends) (vec_capacity a.ends) (vec_len a.bytes) (vec_capacity a.bytes) c.args.self.now c.self.view_is c.requires.room in
    let entry : c.as_slice.result.now ≡ entry_bytes c.args.event.now = c.as_slice.ensures.value ∙ c.entry_of-entry.ensures.is in
    let short = entry_size c.args.event.now c.requires.storable in
    let size = ap length entry in
    let more = c.extend_from_slice.ensures.len ∙ cond-true _ _ _ (c.extend_from_slice.ensures.succeeds (omega (arith, room.1, size, short))) in
    omega (arith, more, size, short, a.bytes.ok.0, ap length kept.bytes_are, entries_size c.args.self.now.items kept.storable, c.requires.few, c.len-end.ensures)

pub invariant_of-self : goal.invariant_of-self
invariant_of-self c =
    let a = c.self.inside in
    let kept = kept_in a.bytes.items a.ends.items _ c.args.self.now c.self.view_is c.self.invariant in
    let room = room_in a.bytes.items a.ends.items (vec_len a.ends) (vec_capacity a.ends) (vec_len a.bytes) (vec_capacity a.bytes) c.args.self.now c.self.view_is c.requires.room in
    let entry : c.as_slice.result.now ≡ entry_bytes c.args.event.now = c.as_slice.ensures.value ∙ c.entry_of-entry.ensures.is in
    let short = entry_size c.args.event.now c.requires.storable in
    let size = ap length entry in
    let more : c.extend_from_slice.new.self.items ≡ a.bytes.items ++ entry_bytes c.args.event.now =
    c.extend_from_slice.ensures.items ∙ cond-true _ _ _ (c.extend_from_slice.ensures.succeeds (omega (arith, room.1, size, short))) ∙ ap (λ (l : List ℕ). a.bytes.items ++ l) entry in
    let ended = c.push.ensures.items ∙ cond-true _ _ _ (c.push.ensures.succeeds room.0) in
    kept_seen _ _ _ (kept_more a.bytes.items a.ends.items _ _ c.args.self.now.items c.args.event.now _ kept c.requires.storable more (c.len-end.ensures ∙ c.extend_from_slice.new.self.ok.0) ended)

pub returns : goal.returns
returns c =
    let a = c.self.inside in
    let kept = kept_in a.bytes.items a.ends.items _ c.args.self.now c.self.view_is c.self.invariant in
    let room = room_in a.bytes.items a.ends.items (vec_len a.ends) (vec_capacity a.ends) (vec_len a.bytes) (vec_capacity a.bytes) c.args.self.now c.self.view_is c.requires.room in
    let entry : c.as_slice.result.now ≡ entry_bytes c.args.event.now = c.as_slice.ensures.value ∙ c.entry_of-entry.ensures.is in
    let short = entry_size c.args.event.now c.requires.storable in
    let size = ap length entry in
    let more : c.extend_from_slice.new.self.items ≡ a.bytes.items ++ entry_bytes c.args.event.now =
    c.extend_from_slice.ensures.items ∙ cond-true _ _ _ (c.extend_from_slice.ensures.succeeds (omega (arith, room.1, size, short))) ∙ ap (λ (l : List ℕ). a.bytes.items ++ l) entry in
    let ended = c.push.ensures.items ∙ cond-true _ _ _ (c.push.ensures.succeeds room.0) in
    seen_kept _ _ _ (kept_more a.bytes.items a.ends.items _ _ c.args.self.now.items c.args.event.now _ kept c.requires.storable more (c.len-end.ensures ∙ c.extend_from_slice.new.self.ok.0) ended)
