use Rattle.std.proofs.Common.{rules, ◌≡◌, ◌+◌, ◌-◌, ◌++◌, ◌∙◌, ap, length, take, drop, sym, arith}
use Rattle.std.proofs.lemmas.List.{drop-drop, length-drop}
use borrow.Rule.Slice.PartMut.{mid_of}
use Rattle.file_disk.proofs.Reading.{filled_further}
use Rattle.file_disk.proofs.file_disk.read_whole.Goals as goal

pub loop-done-preserved : goal.loop-done-preserved
loop-done-preserved g c = (
  search rules,
  search rules,
  λ bytes told.
      let was = c.loop-done.invariant.2 bytes told in
      let more = c.in_ok-count.ensures.told bytes told in
      let place : c.in-Some.place ≡ c.args.at + c.loop-done.done = search rules in
      let long = length-drop c.args.at bytes in
      let old = mid_of c.loop-done.done (length c.loop-done.buf - c.loop-done.done) c.loop-done.buf in (
        search rules,
        filled_further (drop c.args.at bytes) c.args.buf.now c.loop-done.buf c.loop-done.done was.1 (omega arith) c.read_some.new.buf c.in_ok-count.count (search rules)
            (more.1 ∙ ap (λ l. take c.in_ok-count.count l ++ drop c.in_ok-count.count old) (ap (λ k. drop k bytes) place ∙ sym (drop-drop c.loop-done.done c.args.at bytes))),
      ),
)
