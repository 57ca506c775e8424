use Rattle.disk_model.proofs.Prelude.{◌≡◌, ℕ, [], ◌∷◌, ◌++◌, List, length, ap, ap₂, sym, ◌∙◌, arith, length-append, cond-true, Mark, Write, put, content_after, are_within, steps_of, bytes_in, Wrote, Step, steps_of-write, bytes_in-write, content-write, within-write, torn-put}
use Rattle.disk_model.proofs.Replays.{steps_count}
use Rattle.disk_model.proofs.tape.Tape.write.Goals as goal

pub invariant_of-self : goal.invariant_of-self
invariant_of-self c =
    let t = c.args.self.now in
    let bytes = c.args.bytes.now in
    let extended : c.extend_from_slice.new.self.items ≡ t.written.items ++ bytes =
    c.extend_from_slice.ensures.items ∙ cond-true _ _ _ (c.extend_from_slice.ensures.succeeds (omega (arith, c.requires.written_fits, t.written_room))) in
    let pushed : c.push.new.self.items ≡ t.marks.items ++ Write c.args.at (length bytes) ∷ [] =
    c.push.ensures.items ∙ cond-true _ _ _ (c.push.ensures.succeeds (omega (arith, c.requires.marks_fit, steps_count t.marks.items t.written.items, t.marks_room))) in
    let old = steps_of t.marks.items t.written.items in
    let steps : steps_of c.push.new.self.items c.extend_from_slice.new.self.items ≡ old ++ Wrote c.args.at bytes ∷ [] =
    ap₂ (λ (l : List Mark) (w : List ℕ). steps_of l w) pushed extended ∙ steps_of-write t.marks.items t.written.items c.args.at (length bytes) bytes t.counted (omega arith) in
    record {
      kept = c.overwrite.ensures.items ∙ ap (λ (l : List ℕ). put l c.args.at bytes) t.kept ∙ sym (ap (λ (s : List Step). content_after t.start.items s) steps ∙ content-write t.start.items old c.args.at bytes);
      within = ap (λ (s : List Step). are_within t.start.items s) steps ∙ within-write t.start.items old c.args.at bytes t.within (omega (arith, ap length t.kept, c.requires.within));
      counted = omega (arith, ap bytes_in pushed, bytes_in-write t.marks.items c.args.at (length bytes), t.counted, ap length extended, length-append t.written.items bytes);
      content_fits = omega (arith, ap length c.overwrite.ensures.items, (torn-put t.content.items c.args.at bytes c.requires.within).no_longer, c.requires.fits, t.content_fits);
      content_room = omega (arith, c.overwrite.ensures.capacity, t.content_room);
      written_fits = omega (arith, ap length extended, length-append t.written.items bytes, c.requires.written_fits);
      written_room = omega (arith, c.extend_from_slice.ensures.capacity, t.written_room);
      marks_fit = omega (arith, ap length pushed, length-append t.marks.items (Write c.args.at (length bytes) ∷ []), c.requires.marks_fit, steps_count t.marks.items t.written.items);
      marks_room = omega (arith, c.push.ensures.capacity, t.marks_room);
    }

pub returns-clause-steps : goal.returns-clause-steps
returns-clause-steps c =
    let t = c.args.self.now in
    let bytes = c.args.bytes.now in
    let extended : c.extend_from_slice.new.self.items ≡ t.written.items ++ bytes =
    c.extend_from_slice.ensures.items ∙ cond-true _ _ _ (c.extend_from_slice.ensures.succeeds (omega (arith, c.requires.written_fits, t.written_room))) in
    let pushed : c.push.new.self.items ≡ t.marks.items ++ Write c.args.at (length bytes) ∷ [] =
    c.push.ensures.items ∙ cond-true _ _ _ (c.push.ensures.succeeds (omega (arith, c.requires.marks_fit, steps_count t.marks.items t.written.items, t.marks_room))) in
    ap₂ (λ (l : List Mark) (w : List ℕ). steps_of l w) pushed extended ∙ steps_of-write t.marks.items t.written.items c.args.at (length bytes) bytes t.counted (omega arith)
