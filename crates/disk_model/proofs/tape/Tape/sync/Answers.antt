use Rattle.disk_model.proofs.Prelude.{◌≡◌, [], ◌∷◌, ◌++◌, List, length, ap, sym, ◌∙◌, arith, length-append, cond-true, Mark, Sync, content_after, are_within, steps_of, bytes_in, Synced, Step, steps_of-sync, bytes_in-sync, content-sync, within-sync}
use Rattle.disk_model.proofs.Replays.{steps_count}
use Rattle.disk_model.proofs.tape.Tape.sync.Goals as goal

pub invariant_of-self : goal.invariant_of-self
invariant_of-self c =
    let t = c.args.self.now in
    let pushed : c.push.new.self.items ≡ t.marks.items ++ Sync ∷ [] = c.push.ensures.items ∙ cond-true _ _ _ (c.push.ensures.succeeds (omega (arith, c.requires.marks_fit, steps_count t.marks.items t.written.items, t.marks_room))) in
    let steps : steps_of c.push.new.self.items t.written.items ≡ steps_of t.marks.items t.written.items ++ Synced ∷ [] = ap (λ (l : List Mark). steps_of l t.written.items) pushed ∙ steps_of-sync t.marks.items t.written.items in
    record {
      kept = t.kept ∙ sym (ap (λ (s : List Step). content_after t.start.items s) steps ∙ content-sync t.start.items (steps_of t.marks.items t.written.items));
      within = ap (λ (s : List Step). are_within t.start.items s) steps ∙ within-sync t.start.items (steps_of t.marks.items t.written.items) t.within;
      counted = ap bytes_in pushed ∙ bytes_in-sync t.marks.items ∙ t.counted;
      content_fits = t.content_fits;
      content_room = t.content_room;
      written_fits = t.written_fits;
      written_room = t.written_room;
      marks_fit = omega (arith, ap length pushed, length-append t.marks.items (Sync ∷ []), c.requires.marks_fit, steps_count t.marks.items t.written.items);
      marks_room = omega (arith, c.push.ensures.capacity, t.marks_room);
    }

pub returns-clause-steps : goal.returns-clause-steps
returns-clause-steps c =
    let t = c.args.self.now in
    let pushed : c.push.new.self.items ≡ t.marks.items ++ Sync ∷ [] = c.push.ensures.items ∙ cond-true _ _ _ (c.push.ensures.succeeds (omega (arith, c.requires.marks_fit, steps_count t.marks.items t.written.items, t.marks_room))) in
    ap (λ (l : List Mark). steps_of l t.written.items) pushed ∙ steps_of-sync t.marks.items t.written.items
