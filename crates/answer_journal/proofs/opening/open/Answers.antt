use Rattle.answer_journal.proofs.Prelude.{◌≡◌, ◌<◌, ◌≤◌, ◌⊎◌, ◌+◌, ◌-◌, ◌++◌, ◌∙◌, ℕ, List, false, All, length, drop, [], inl, inr, ⊎_elim, ap, sym, subst, arith, take_at, err_from_is_err_and, IsStorableEvent, session_tail, IsHead, Spells, ReadsAs, Session, EventsRefused, HasEvents, none_given}
use Rattle.answer_journal.proofs.Sizes.{read_size}
use Rattle.answer_journal.proofs.RecordLists.{all_storable}
use Rattle.answer_journal.proofs.OnlyRead.{read_more, then_read}
use Rattle.answer_journal.proofs.WholeFile.{damaged_first, rest_is, spells, sits, refused}
use Rattle.answer_journal.proofs.FirstPiece.{rest_within, none_first, start_is, spelled_first}
use Rattle.answer_journal.proofs.Exits.{refusal, ended_by}
use Rattle.answer_journal.proofs.Emptied.{head_free}
use Rattle.answer_journal.specs.Found.{Refused}
use Rattle.answer_journal.proofs.SomeBytes.{no_session_somewhere, foreign_somewhere, damaged_somewhere, begins_at, refused_somewhere, session_somewhere}
use Rattle.answer_journal.proofs.opening.open.Goals as goal

pub returns-in_default-clause-refused : goal.returns-in_default-clause-refused
returns-in_default-clause-refused g c x told =
    let o = subst (IsHead x) c.in-Open.is (c.in_ok-head.ensures.head x told) in
    let t = c.in_ok-count.ensures.told x (c.head_of.ensures.only_read.same ∙ told) in
    let old = c.deref_mut.result.now in
    let whole = c.deref.ensures.value ∙ take_at c.read.new.buf _ c.in_ok-buffer.buffer.len (c.read.auto.buf ∙ c.deref_mut.ensures.len) in
    let full : (length old ≡ 4194311) ⊎ (length x ≤ length old) =
    ⊎_elim (λ most. inl (omega (arith, most, c.deref_mut.ensures.len, c.in_ok-buffer.ensures.len)))
    (λ all. inr (omega (arith, all, c.in_ok-head.ensures.size x told, c.deref_mut.ensures.len, c.in_ok-buffer.ensures.len))) c.piece_size.ensures.whole in
    let some : 0 < length old = omega (arith, c.piece_size.ensures.wide, c.deref_mut.ensures.len, c.in_ok-buffer.ensures.len) in
    inr (o.0, damaged_first x o.0 o.1 o.2 (none_first x old c.deref.result.now c.in_ok-count.count t.0 (whole ∙ t.1) full some c.in_default.ensures.none))

pub overflow_sub-start : goal.overflow_sub-start
overflow_sub-start g c =
    rest_within c.in_ok-count.count c.deref.result.now (session_tail c.in-Some.plan c.in-Some.voc.now) c.in-Some.rest.now c.in-Some.ensures.found.1

pub returns-in_err-events-clause-refused : goal.returns-in_err-events-clause-refused
returns-in_err-events-clause-refused g c x told =
    let o = subst (IsHead x) c.in-Open.is (c.in_ok-head.ensures.head x told) in
    let t = c.in_ok-count.ensures.told x (c.head_of.ensures.only_read.same ∙ told) in
    let whole = c.deref.ensures.value ∙ take_at c.read.new.buf _ c.in_ok-buffer.buffer.len (c.read.auto.buf ∙ c.deref_mut.ensures.len) in
    let found = c.in-Some.ensures.found in
    let tail = session_tail c.in-Some.plan c.in-Some.voc.now in
    let rest = c.in-Some.rest.now ++ drop c.in_ok-count.count (drop 9 x) in
    let start = 9 + (c.in_ok-count.count - length c.in-Some.rest.now) in
    let begins : start ≡ 9 + length tail = start_is x c.deref_mut.result.now c.deref.result.now c.in_ok-count.count t.0 (whole ∙ t.1) tail c.in-Some.rest.now found.1 start (λ i. start) in
    let spelled : drop 9 x ≡ tail ++ rest = spelled_first x c.deref_mut.result.now c.deref.result.now c.in_ok-count.count t.0 (whole ∙ t.1) tail c.in-Some.rest.now found.1 in
    let p = err_from_is_err_and c.from_residual-in_err-events.result c.from_residual-in_err-events.ensures.1 in
    rw (p.1, p.2) (⊎_elim (λ failed. inl failed)
    (λ r. inr (refused x o.0 o.1 o.2 c.in-Some.plan c.in-Some.voc.now rest found.0 spelled start c.in_err-events.field-0.0 begins
    (subst (λ (l : List ℕ). EventsRefused start l c.in_err-events.field-0.0) (rest_is x o.0 o.1 o.2 c.in-Some.plan c.in-Some.voc.now rest found.0 spelled start begins) r)))
    (c.in_err-events.ensures.refused x (c.read.ensures.same ∙ c.head_of.ensures.only_read.same ∙ told)))

pub returns-in_err-events-clause-only_read : goal.returns-in_err-events-clause-only_read
returns-in_err-events-clause-only_read g c =
    let D = g.D.Disk in
    let first = read_more D c.args.disk.now c.head_of.new.disk c.read.new.self c.head_of.ensures.only_read c.read.ensures.same c.read.ensures.crash c.read.ensures.time c.read.ensures.cause.later in
    then_read D c.args.disk.now c.read.new.self c.events_of.new.disk first c.events_of.ensures.only_read

pub at-requires-clause-near : goal.at-requires-clause-near
at-requires-clause-near g c =
    omega (
      arith,
      c.in_ok-count.ensures.fits,
      c.deref_mut.ensures.len,
      c.in_ok-buffer.ensures.len,
      c.piece_size.ensures.few,
      c.len.ensures,
      read_size c.in_ok-events.ensures.read.0 _ c.in_ok-events.at c.in_ok-events.events.items c.in_ok-events.raised c.in_ok-events.ensures.read.1,
    )

pub returns-clause-opened : goal.returns-clause-opened
returns-clause-opened g c x told =
    let o = subst (IsHead x) c.in-Open.is (c.in_ok-head.ensures.head x told) in
    let t = c.in_ok-count.ensures.told x (c.head_of.ensures.only_read.same ∙ told) in
    let whole = c.deref.ensures.value ∙ take_at c.read.new.buf _ c.in_ok-buffer.buffer.len (c.read.auto.buf ∙ c.deref_mut.ensures.len) in
    let found = c.in-Some.ensures.found in
    let tail = session_tail c.in-Some.plan c.in-Some.voc.now in
    let rest = c.in-Some.rest.now ++ drop c.in_ok-count.count (drop 9 x) in
    let start = 9 + (c.in_ok-count.count - length c.in-Some.rest.now) in
    let begins : start ≡ 9 + length tail = start_is x c.deref_mut.result.now c.deref.result.now c.in_ok-count.count t.0 (whole ∙ t.1) tail c.in-Some.rest.now found.1 start (λ i. start) in
    let spelled : drop 9 x ≡ tail ++ rest = spelled_first x c.deref_mut.result.now c.deref.result.now c.in_ok-count.count t.0 (whole ∙ t.1) tail c.in-Some.rest.now found.1 in
    let events = c.in_ok-events.events.items in
    let h = c.in_ok-events.ensures.found x (c.read.ensures.same ∙ c.head_of.ensures.only_read.same ∙ told) in
    let voc_is = c.in_ok-voc.ensures.items_if_clones_equal (λ a b same. same) in (
      o.0,
      subst (λ (l : List ℕ). Spells x c.in-Some.plan l events) (sym voc_is)
          (spells x o.0 o.1 o.2 c.in-Some.plan c.in-Some.voc.now rest found.0 spelled start c.in_ok-events.at events c.in_ok-events.raised
          (subst (HasEvents start c.in_ok-events.at events c.in_ok-events.raised) (rest_is x o.0 o.1 o.2 c.in-Some.plan c.in-Some.voc.now rest found.0 spelled start begins) h)),
    )

pub returns-clause-there : goal.returns-clause-there
returns-clause-there g c = record {
  live = c.at.ensures.live;
  sits = λ x now.
      let told = sym c.head_of.ensures.only_read.same ∙ sym c.read.ensures.same ∙ sym c.events_of.ensures.only_read.same ∙ now in
      let o = subst (IsHead x) c.in-Open.is (c.in_ok-head.ensures.head x told) in
      let t = c.in_ok-count.ensures.told x (c.head_of.ensures.only_read.same ∙ told) in
      let whole = c.deref.ensures.value ∙ take_at c.read.new.buf _ c.in_ok-buffer.buffer.len (c.read.auto.buf ∙ c.deref_mut.ensures.len) in
      let found = c.in-Some.ensures.found in
      let tail = session_tail c.in-Some.plan c.in-Some.voc.now in
      let rest = c.in-Some.rest.now ++ drop c.in_ok-count.count (drop 9 x) in
      let start = 9 + (c.in_ok-count.count - length c.in-Some.rest.now) in
      let begins : start ≡ 9 + length tail = start_is x c.deref_mut.result.now c.deref.result.now c.in_ok-count.count t.0 (whole ∙ t.1) tail c.in-Some.rest.now found.1 start (λ i. start) in
      let spelled : drop 9 x ≡ tail ++ rest = spelled_first x c.deref_mut.result.now c.deref.result.now c.in_ok-count.count t.0 (whole ∙ t.1) tail c.in-Some.rest.now found.1 in
      let events = c.in_ok-events.events.items in
      let h = c.in_ok-events.ensures.found x (c.read.ensures.same ∙ c.head_of.ensures.only_read.same ∙ told) in
      sits x o.0 o.1 o.2 c.in-Some.plan c.in-Some.voc.now rest found.0 spelled start c.in_ok-events.at events c.in_ok-events.raised c.at.result begins
      (subst (HasEvents start c.in_ok-events.at events c.in_ok-events.raised) (rest_is x o.0 o.1 o.2 c.in-Some.plan c.in-Some.voc.now rest found.0 spelled start begins) h)
      c.at.ensures.place (omega (arith, c.at.ensures.records, c.len.ensures)) c.at.ensures.raised;
  durable = λ x now f left.
      let told = sym c.head_of.ensures.only_read.same ∙ sym c.read.ensures.same ∙ sym c.events_of.ensures.only_read.same ∙ now in
      c.in_ok-head.ensures.durable x told f (c.read.ensures.crash f (c.events_of.ensures.only_read.nothing_new f left));
}

pub returns-clause-only_read : goal.returns-clause-only_read
returns-clause-only_read g c =
    let D = g.D.Disk in
    let first = read_more D c.args.disk.now c.head_of.new.disk c.read.new.self c.head_of.ensures.only_read c.read.ensures.same c.read.ensures.crash c.read.ensures.time c.read.ensures.cause.later in
    then_read D c.args.disk.now c.read.new.self c.events_of.new.disk first c.events_of.ensures.only_read

pub returns-in-Foreign-clause-some_refusal : goal.returns-in-Foreign-clause-some_refusal
returns-in-Foreign-clause-some_refusal g c = inr foreign_somewhere

pub returns-in_default-clause-some_refusal : goal.returns-in_default-clause-some_refusal
returns-in_default-clause-some_refusal g c = inr damaged_somewhere

pub returns-in_err-events-clause-some_refusal : goal.returns-in_err-events-clause-some_refusal
returns-in_err-events-clause-some_refusal g c =
    let whole = c.deref.ensures.value ∙ take_at c.read.new.buf _ c.in_ok-buffer.buffer.len (c.read.auto.buf ∙ c.deref_mut.ensures.len) in
    let found = c.in-Some.ensures.found in
    let tail = session_tail c.in-Some.plan c.in-Some.voc.now in
    let fits : c.in_ok-count.count ≤ length c.deref.result.now = omega (arith, c.in_ok-count.ensures.fits, ap length whole, c.read.auto.buf) in
    let begins = begins_at c.in_ok-count.count c.deref.result.now tail c.in-Some.rest.now fits found.1 in
    let p = err_from_is_err_and c.from_residual-in_err-events.result c.from_residual-in_err-events.ensures.1 in
    rw (p.1, p.2) (⊎_elim (λ failed. inl failed)
    (λ r. inr (refused_somewhere c.in-Some.plan c.in-Some.voc.now (9 + (c.in_ok-count.count - length c.in-Some.rest.now)) c.in_err-events.field-0.0 found.0 begins r))
    c.in_err-events.ensures.some_bytes)

pub returns-clause-some_session : goal.returns-clause-some_session
returns-clause-some_session g c =
    let events = c.in_ok-events.events.items in
    let voc_is = c.in_ok-voc.ensures.items_if_clones_equal (λ a b same. same) in
    let Spelled : List ℕ → Type 0 = λ l. (bytes : List ℕ) × ReadsAs bytes (Session c.in-Some.plan l events) in
    subst Spelled (sym voc_is) (session_somewhere c.in-Some.plan c.in-Some.voc.now _ c.in_ok-events.at events c.in_ok-events.raised c.in-Some.ensures.found.0 c.in_ok-events.ensures.read)

pub returns-in_err-count-clause-only_read : goal.returns-in_err-count-clause-only_read
returns-in_err-count-clause-only_read g c =
    read_more g.D.Disk c.args.disk.now c.head_of.new.disk c.read.new.self c.head_of.ensures.only_read c.read.ensures.same c.read.ensures.crash c.read.ensures.time c.read.ensures.cause.later

pub returns-in_default-clause-only_read : goal.returns-in_default-clause-only_read
returns-in_default-clause-only_read g c =
    read_more g.D.Disk c.args.disk.now c.head_of.new.disk c.read.new.self c.head_of.ensures.only_read c.read.ensures.same c.read.ensures.crash c.read.ensures.time c.read.ensures.cause.later

pub returns-in_err-voc-clause-only_read : goal.returns-in_err-voc-clause-only_read
returns-in_err-voc-clause-only_read g c =
    read_more g.D.Disk c.args.disk.now c.head_of.new.disk c.read.new.self c.head_of.ensures.only_read c.read.ensures.same c.read.ensures.crash c.read.ensures.time c.read.ensures.cause.later

pub returns-in_err-voc-clause-synced : goal.returns-in_err-voc-clause-synced
returns-in_err-voc-clause-synced g c = λ x told. refusal _ _ c.from_residual-in_err-voc.result c.from_residual-in_err-voc.ensures.1 (λ e is. inl (λ f left. c.in_ok-head.ensures.durable x told f (c.read.ensures.crash f left)))

pub returns-in_err-events-clause-synced : goal.returns-in_err-events-clause-synced
returns-in_err-events-clause-synced g c = λ x told. refusal _ _ c.from_residual-in_err-events.result c.from_residual-in_err-events.ensures.1 (λ e is. inl (λ f left. c.in_ok-head.ensures.durable x told f (c.read.ensures.crash f (c.events_of.ensures.only_read.nothing_new f left))))
