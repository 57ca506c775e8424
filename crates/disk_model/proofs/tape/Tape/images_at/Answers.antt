use Rattle.disk_model.proofs.Prelude.{◌≡◌, ◌+◌, ◌∷◌, ◌++◌, ◌∙◌, [], ℕ, List, get_or, take, drop, ap, sym, subst, Write, Step, tape_steps, IsReplay, step_of, mark_bytes}
use Rattle.disk_model.proofs.Replays.{next_fits, next_step, next_rest}
use Rattle.disk_model.proofs.tape.Tape.images_at.Goals as goal

pub split_at-requires : goal.split_at-requires
split_at-requires c =
    let t = c.args.self.now in
    rw c.size.ensures (next_fits t.marks.items t.written.items t.counted c.args.moment c.loop-mark.mark-index (Write 0 0) c.as_slice.result.now c.loop-mark.rest.now c.as_slice.ensures.value c.loop-mark.invariant.left c.loop-mark-test.true)

pub loop-mark-preserved : goal.loop-mark-preserved
loop-mark-preserved c =
    let t = c.args.self.now in
    let i = c.loop-mark.mark-index in
    let mark = get_or (take c.args.moment c.as_slice.result.now) i (Write 0 0) in
    let next = c.in_ok-replay.replay in
    let rest = c.loop-mark.rest.now in
    let front : c.split_at.result.0.now ≡ take (mark_bytes mark) rest = c.split_at.ensures.front ∙ ap (λ n. take n rest) c.size.ensures in
    let step : take i (tape_steps t) ++ step_of mark c.split_at.result.0.now ∷ [] ≡ take (i + 1) (tape_steps t) =
    ap (λ (l : List ℕ). take i (tape_steps t) ++ step_of mark l ∷ []) front ∙ sym (next_step t.marks.items t.written.items t.counted c.args.moment i (Write 0 0) c.as_slice.result.now rest c.as_slice.ensures.value c.loop-mark.invariant.left c.loop-mark-test.true) in
    record {
      replayed = subst (λ (l : List Step). IsReplay t.start.items l next.now.items next.images.items) step (c.in_ok-replay.ensures t.start.items (take i (tape_steps t)) c.loop-mark.invariant.replayed);
      left =
          c.split_at.ensures.back
          ∙ ap (λ n. drop n rest) c.size.ensures
          ∙ next_rest t.marks.items t.written.items t.counted c.args.moment i (Write 0 0) c.as_slice.result.now rest c.as_slice.ensures.value c.loop-mark.invariant.left c.loop-mark-test.true;
    }
