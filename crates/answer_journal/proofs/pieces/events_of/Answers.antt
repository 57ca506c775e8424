use Rattle.answer_journal.proofs.Prelude.{ltb, ◌<◌, ◌∙◌, ℕ, List, drop, take, length, inr, sym, subst, arith, length-drop, length-take-le, ltb-false, err_from_is_err_and, WereRead, BeginsWith, gate_reached, IsReached, IsProgress, IsFar}
use borrow.Author.Tests.{ltb-true}
use Rattle.answer_journal.specs.declared.pieces.Reached.{Reached}
use Rattle.answer_journal.specs.declared.pieces.Reached.TheVariants.{Further}
use Rattle.answer_journal.proofs.Sizes.{read_size}
use Rattle.answer_journal.proofs.RecordLoop.{has_read}
use Rattle.answer_journal.proofs.FewCalls.{few_read, few_further}
use Rattle.answer_journal.proofs.OnlyRead.{read_more}
use Rattle.answer_journal.proofs.PieceLemmas.{piece_more, last_is}
use Rattle.answer_journal.proofs.pieces.events_of.Goals as goal

pub events_in-requires-clause-near : goal.events_in-requires-clause-near
events_in-requires-clause-near g c =
    let h = c.pieces.invariant.read in
    omega (arith, read_size h.records c.args.start c.pieces.at c.pieces.events.items c.pieces.raised h.read, h.read.few, c.requires.near)

pub returns-in_err-place-clause-refused : goal.returns-in_err-place-clause-refused
returns-in_err-place-clause-refused g c x told =
    let h = c.pieces.invariant.read in
    let t = c.in_ok-count.ensures.told x (c.pieces.invariant.only_read.same ∙ told) in
    let p = err_from_is_err_and c.from_residual-in_err-place.result c.from_residual-in_err-place.ensures.1 in
    rw (p.1, p.2) (inr (c.in_err-place.ensures.read (drop c.args.start x) (drop c.in_ok-count.count (drop c.pieces.at x)) c.args.start h.records h.read
    (subst (λ (l : List ℕ). BeginsWith (drop c.args.start x) h.records l) (sym (piece_more x c.pieces.buffer c.read.new.buf c.pieces.at c.in_ok-count.count t.0 t.1)) (h.begins x told))
    (λ short. last_is x c.pieces.buffer c.read.new.buf c.pieces.at c.in_ok-count.count t.0 t.1 (omega (arith, ltb-true _ _ short, c.read.auto.buf)))))

pub returns-in_err-place-clause-some_bytes : goal.returns-in_err-place-clause-some_bytes
returns-in_err-place-clause-some_bytes g c =
    let h = c.pieces.invariant.read in
    let p = err_from_is_err_and c.from_residual-in_err-place.result c.from_residual-in_err-place.ensures.1 in
    rw (p.1, p.2) (inr (c.in_err-place.ensures.some_bytes c.args.start h.records h.read))

pub returns-in-Closed-clause-found : goal.returns-in-Closed-clause-found
returns-in-Closed-clause-found g c x told =
    let h = c.pieces.invariant.read in
    let t = c.in_ok-count.ensures.told x (c.pieces.invariant.only_read.same ∙ told) in
    subst (IsReached c.args.start c.events_in.new.events.items c.events_in.new.raised (drop c.args.start x)) c.in-Closed.is
    (c.in_ok-place.ensures.read (drop c.args.start x) (drop c.in_ok-count.count (drop c.pieces.at x)) c.args.start h.records h.read
    (subst (λ (l : List ℕ). BeginsWith (drop c.args.start x) h.records l) (sym (piece_more x c.pieces.buffer c.read.new.buf c.pieces.at c.in_ok-count.count t.0 t.1)) (h.begins x told))
    (λ short. last_is x c.pieces.buffer c.read.new.buf c.pieces.at c.in_ok-count.count t.0 t.1 (omega (arith, ltb-true _ _ short, c.read.auto.buf))))

pub returns-in-Closed-clause-read : goal.returns-in-Closed-clause-read
returns-in-Closed-clause-read g c =
    let h = c.pieces.invariant.read in
    subst (λ (r : Reached). WereRead c.args.start (gate_reached r) c.events_in.new.events.items c.events_in.new.raised) c.in-Closed.is (c.in_ok-place.ensures.some_bytes c.args.start h.records h.read)

pub pieces-smaller : goal.pieces-smaller
pieces-smaller g c =
    let h = c.pieces.invariant.read in
    let step : IsProgress c.pieces.at c.in_ok-place.field-0 = c.in_ok-place.ensures.progress (λ over. omega (
      arith,
      ltb-false _ _ over,
      c.requires.wide,
      c.pieces.auto.buffer,
      c.read.auto.buf,
      length-take-le c.in_ok-count.count c.read.new.buf (omega (arith, c.in_ok-count.ensures.fits, c.read.auto.buf)),
    )) in
    let further : c.pieces.at < c.in-Further.place = subst (IsProgress c.pieces.at) c.in-Further.is step in
    omega (arith, further, read_size h.records c.args.start c.pieces.at c.pieces.events.items c.pieces.raised h.read, h.read.few)

pub pieces-preserved : goal.pieces-preserved
pieces-preserved g c =
    let D = g.D.Disk in
    let h = c.pieces.invariant.read in
    record {
      read = has_read (D.content c.args.disk.now) c.args.start c.in-Further.place c.events_in.new.events.items c.events_in.new.raised
          (subst (λ (r : Reached). WereRead c.args.start (gate_reached r) c.events_in.new.events.items c.events_in.new.raised) c.in-Further.is (c.in_ok-place.ensures.some_bytes c.args.start h.records h.read))
          (λ x told.
          let t = c.in_ok-count.ensures.told x (c.pieces.invariant.only_read.same ∙ told) in
          subst (IsReached c.args.start c.events_in.new.events.items c.events_in.new.raised (drop c.args.start x)) c.in-Further.is
          (c.in_ok-place.ensures.read (drop c.args.start x) (drop c.in_ok-count.count (drop c.pieces.at x)) c.args.start h.records h.read
          (subst (λ (l : List ℕ). BeginsWith (drop c.args.start x) h.records l) (sym (piece_more x c.pieces.buffer c.read.new.buf c.pieces.at c.in_ok-count.count t.0 t.1)) (h.begins x told))
          (λ short. last_is x c.pieces.buffer c.read.new.buf c.pieces.at c.in_ok-count.count t.0 t.1 (omega (arith, ltb-true _ _ short, c.read.auto.buf)))));
      only_read = read_more D c.args.disk.now c.pieces.disk c.read.new.self c.pieces.invariant.only_read c.read.ensures.same c.read.ensures.crash c.read.ensures.time c.read.ensures.cause.later;
      calls = λ x told pieced.
          let t = c.in_ok-count.ensures.told x (c.pieces.invariant.only_read.same ∙ told) in
          let Far : Reached → Type 0 = IsFar (ltb c.in_ok-count.count (length c.read.new.buf)) c.pieces.at (length (take c.in_ok-count.count c.read.new.buf)) in
          let far : Far (Further c.in-Further.place) = subst Far c.in-Further.is c.in_ok-place.ensures.far in
          few_further c.args.start c.pieces.at x (D.calls c.args.disk.now) (D.calls c.pieces.disk) (D.calls c.read.new.self) (c.pieces.invariant.calls x told pieced) c.read.ensures.one_call.at_most
          (omega (arith, (h.begins x told).some, length-drop c.pieces.at x))
          (length c.args.buffer.now) c.in_ok-count.count c.in-Further.place pieced c.requires.behind (omega (arith, h.read.place)) (omega (arith, t.0, c.pieces.auto.buffer)) (omega (arith, ltb-false _ _ far.0, c.read.auto.buf, c.pieces.auto.buffer))
          (omega (arith, far.1, length-take-le c.in_ok-count.count c.read.new.buf (omega (arith, c.in_ok-count.ensures.fits, c.read.auto.buf))));
    }

pub returns-in_err-count-clause-only_read : goal.returns-in_err-count-clause-only_read
returns-in_err-count-clause-only_read g c =
    read_more g.D.Disk c.args.disk.now c.pieces.disk c.read.new.self c.pieces.invariant.only_read c.read.ensures.same c.read.ensures.crash c.read.ensures.time c.read.ensures.cause.later

pub returns-in_err-place-clause-only_read : goal.returns-in_err-place-clause-only_read
returns-in_err-place-clause-only_read g c =
    read_more g.D.Disk c.args.disk.now c.pieces.disk c.read.new.self c.pieces.invariant.only_read c.read.ensures.same c.read.ensures.crash c.read.ensures.time c.read.ensures.cause.later

pub returns-in-Closed-clause-only_read : goal.returns-in-Closed-clause-only_read
returns-in-Closed-clause-only_read g c =
    read_more g.D.Disk c.args.disk.now c.pieces.disk c.read.new.self c.pieces.invariant.only_read c.read.ensures.same c.read.ensures.crash c.read.ensures.time c.read.ensures.cause.later

pub returns-in_err-count-clause-few_calls : goal.returns-in_err-count-clause-few_calls
returns-in_err-count-clause-few_calls g c x told pieced =
    let h = c.pieces.invariant in
    let D = g.D.Disk in
    few_read c.args.start c.pieces.at x (D.calls c.args.disk.now) (D.calls c.pieces.disk) (D.calls c.read.new.self) (h.calls x told pieced) c.read.ensures.one_call.at_most
    (omega (arith, (h.read.begins x told).some, length-drop c.pieces.at x))

pub returns-in_err-place-clause-few_calls : goal.returns-in_err-place-clause-few_calls
returns-in_err-place-clause-few_calls g c x told pieced =
    let h = c.pieces.invariant in
    let D = g.D.Disk in
    few_read c.args.start c.pieces.at x (D.calls c.args.disk.now) (D.calls c.pieces.disk) (D.calls c.read.new.self) (h.calls x told pieced) c.read.ensures.one_call.at_most
    (omega (arith, (h.read.begins x told).some, length-drop c.pieces.at x))

pub returns-in-Closed-clause-few_calls : goal.returns-in-Closed-clause-few_calls
returns-in-Closed-clause-few_calls g c x told pieced =
    let h = c.pieces.invariant in
    let D = g.D.Disk in
    few_read c.args.start c.pieces.at x (D.calls c.args.disk.now) (D.calls c.pieces.disk) (D.calls c.read.new.self) (h.calls x told pieced) c.read.ensures.one_call.at_most
    (omega (arith, (h.read.begins x told).some, length-drop c.pieces.at x))
