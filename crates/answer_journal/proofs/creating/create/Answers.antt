use Rattle.std.proofs.Common.{rules}
use Rattle.answer_journal.proofs.Prelude.{◌≡◌, ◌+◌, ◌∷◌, ◌++◌, ◌∙◌, [], ℕ, Some, length, take, ap, subst, sym, List, inl, inr, arith, length-append, Only, LeavesBehind, none_done, then_behind, MAGIC, session_tail, IsClosedAfter, HasNoSession, HasRecord, IsWithOrWithout, StartsWith, IsCreating, Sits, none_given}
use Rattle.answer_journal.proofs.Gate.{told_before, told_same}
use Rattle.answer_journal.proofs.Emptied.{head_free, starts, creating, sits}
use Rattle.answer_journal.proofs.OnlyRead.{read_behind, then_written}
use Rattle.answer_journal.proofs.Sizes.{session_size}
use Rattle.answer_journal.proofs.Exits.{refusal, ended_by}
use Rattle.answer_journal.specs.Heads.{IsHead}
use Rattle.answer_journal.specs.Making.{CreateRefused}
use Rattle.answer_journal.proofs.SomeBytes.{session_there_somewhere, not_made_somewhere}
use Rattle.answer_journal.proofs.creating.create.Goals as goal

-- where nothing was written
pub returns-in_err-head-clause-leaves : goal.returns-in_err-head-clause-leaves
returns-in_err-head-clause-leaves g c =
    read_behind g.D.Disk 3 9 c.args.disk.now c.head_of.new.disk _ (λ _. StartsWith c.args.plan c.args.voc.now) (λ _. IsCreating (g.D.Disk.may_leave c.args.disk.now) c.args.plan c.args.voc.now)
    c.head_of.ensures.only_read c.head_of.ensures.few_calls (omega arith) (λ old told. none_done _ _ c.from_residual.result c.from_residual.ensures.1) (λ old f was. inl was)

pub returns-in-Foreign-clause-leaves : goal.returns-in-Foreign-clause-leaves
returns-in-Foreign-clause-leaves g c =
    read_behind g.D.Disk 3 9 c.args.disk.now c.head_of.new.disk _ (λ _. StartsWith c.args.plan c.args.voc.now) (λ _. IsCreating (g.D.Disk.may_leave c.args.disk.now) c.args.plan c.args.voc.now)
    c.head_of.ensures.only_read c.head_of.ensures.few_calls (omega arith) (λ old told. tt) (λ old f was. inl was)

pub returns-in-Open-clause-leaves : goal.returns-in-Open-clause-leaves
returns-in-Open-clause-leaves g c =
    read_behind g.D.Disk 3 9 c.args.disk.now c.head_of.new.disk _ (λ _. StartsWith c.args.plan c.args.voc.now) (λ _. IsCreating (g.D.Disk.may_leave c.args.disk.now) c.args.plan c.args.voc.now)
    c.head_of.ensures.only_read c.head_of.ensures.few_calls (omega arith) (λ old told. tt) (λ old f was. inl was)

pub returns-in_err-rest-clause-leaves : goal.returns-in_err-rest-clause-leaves
returns-in_err-rest-clause-leaves g c =
    read_behind g.D.Disk 3 9 c.args.disk.now c.head_of.new.disk _ (λ _. StartsWith c.args.plan c.args.voc.now) (λ _. IsCreating (g.D.Disk.may_leave c.args.disk.now) c.args.plan c.args.voc.now)
    c.head_of.ensures.only_read c.head_of.ensures.few_calls (omega arith) (λ old told. none_done _ _ c.from_residual-in_err-rest.result c.from_residual-in_err-rest.ensures.1) (λ old f was. inl was)

pub returns-in_err-empty-clause-leaves : goal.returns-in_err-empty-clause-leaves
returns-in_err-empty-clause-leaves g c =
    let P = IsCreating (g.D.Disk.may_leave c.args.disk.now) c.args.plan c.args.voc.now in
    then_written g.D.Disk 3 2 9 c.args.disk.now c.head_of.new.disk c.empty.new.disk c.empty.result _ (λ _. IsClosedAfter MAGIC) (λ _. HasNoSession) (λ _. StartsWith c.args.plan c.args.voc.now) (λ _. P)
    c.head_of.ensures.only_read c.head_of.ensures.few_calls c.empty.ensures.leaves (omega arith) (λ old told. none_done _ _ c.from_residual-in_err-empty.result c.from_residual-in_err-empty.ensures.1) (λ old f was. inl was) (λ old f told none. inr (inl none))

pub returns-in_err-add_record-clause-leaves : goal.returns-in_err-add_record-clause-leaves
returns-in_err-add_record-clause-leaves g c =
    let before = g.D.Disk.may_leave c.args.disk.now in
    let P = IsCreating before c.args.plan c.args.voc.now in
    let rest = c.deref.result.now in
    let rest_is : rest ≡ session_tail c.args.plan c.args.voc.now ++ 0 ∷ [] = c.deref.ensures.value ∙ c.in_ok-rest.ensures in
    let both : LeavesBehind g.D.Disk 6 c.head_of.new.disk c.add_record.new.disk c.add_record.result (λ _. StartsWith c.args.plan c.args.voc.now) (λ _. P) =
    then_behind g.D.Disk 2 4 6 c.head_of.new.disk c.empty.new.disk c.add_record.new.disk c.add_record.result
    (λ _. IsClosedAfter MAGIC) (λ _. HasNoSession) (λ mid. HasRecord (take 8 mid) rest) (λ mid. IsWithOrWithout (take 8 mid) rest) (λ _. StartsWith c.args.plan c.args.voc.now) (λ _. P)
    c.in_ok-empty.ensures.leaves c.add_record.ensures.leaves (omega arith)
    (λ old mid new told closed has. starts mid new c.args.plan c.args.voc.now rest (record { short = c.requires.short }) closed rest_is has)
    (λ old f told none. inr (inl none))
    (λ old mid f told closed w. creating before mid f c.args.plan c.args.voc.now rest (record { short = c.requires.short }) closed rest_is w) in
    then_written g.D.Disk 3 6 9 c.args.disk.now c.head_of.new.disk c.add_record.new.disk c.add_record.result _ (λ _. StartsWith c.args.plan c.args.voc.now) (λ _. P) (λ _. StartsWith c.args.plan c.args.voc.now) (λ _. P)
    c.head_of.ensures.only_read c.head_of.ensures.few_calls both (omega arith) (λ old told. none_done _ _ c.from_residual-in_err-add_record.result c.from_residual-in_err-add_record.ensures.1) (λ old f was. inl was) (λ old f told p. p)

pub returns-clause-leaves : goal.returns-clause-leaves
returns-clause-leaves g c =
    let before = g.D.Disk.may_leave c.args.disk.now in
    let P = IsCreating before c.args.plan c.args.voc.now in
    let rest = c.deref.result.now in
    let rest_is : rest ≡ session_tail c.args.plan c.args.voc.now ++ 0 ∷ [] = c.deref.ensures.value ∙ c.in_ok-rest.ensures in
    let both : LeavesBehind g.D.Disk 6 c.head_of.new.disk c.add_record.new.disk c.add_record.result (λ _. StartsWith c.args.plan c.args.voc.now) (λ _. P) =
    then_behind g.D.Disk 2 4 6 c.head_of.new.disk c.empty.new.disk c.add_record.new.disk c.add_record.result
    (λ _. IsClosedAfter MAGIC) (λ _. HasNoSession) (λ mid. HasRecord (take 8 mid) rest) (λ mid. IsWithOrWithout (take 8 mid) rest) (λ _. StartsWith c.args.plan c.args.voc.now) (λ _. P)
    c.in_ok-empty.ensures.leaves c.add_record.ensures.leaves (omega arith)
    (λ old mid new told closed has. starts mid new c.args.plan c.args.voc.now rest (record { short = c.requires.short }) closed rest_is has)
    (λ old f told none. inr (inl none))
    (λ old mid f told closed w. creating before mid f c.args.plan c.args.voc.now rest (record { short = c.requires.short }) closed rest_is w) in
    then_written g.D.Disk 3 6 9 c.args.disk.now c.head_of.new.disk c.add_record.new.disk c.add_record.result _ (λ _. StartsWith c.args.plan c.args.voc.now) (λ _. P) (λ _. StartsWith c.args.plan c.args.voc.now) (λ _. P)
    c.head_of.ensures.only_read c.head_of.ensures.few_calls both (omega arith)
    (λ old told.
    let told_mid : g.D.Disk.content c.head_of.new.disk ≡ Some old = c.head_of.ensures.only_read.same ∙ told in
    let s = c.in_ok-empty.ensures.leaves.now old told_mid in
    let t = c.in_ok-add_record.ensures.leaves.now s.now s.tells in
    record { now = t.now; tells = t.tells; durable = t.durable; holds = starts s.now t.now c.args.plan c.args.voc.now rest (record { short = c.requires.short }) s.holds rest_is t.holds })
    (λ old f was. inl was) (λ old f told p. p)

pub at-requires-clause-near : goal.at-requires-clause-near
at-requires-clause-near g c = omega (arith, ap length c.in_ok-rest.ensures, c.requires.short, session_size c.args.plan c.args.voc.now, length-append (session_tail c.args.plan c.args.voc.now) (0 ∷ []))

pub returns-clause-there : goal.returns-clause-there
returns-clause-there g c = record {
  live = c.at.ensures.live;
  sits = λ x told_new.
      let was_mid = told_before _ _ c.add_record.ensures.leaves.goes_on.silent x told_new in
      let was = told_before _ _ c.empty.ensures.leaves.goes_on.silent was_mid.0 was_mid.1 in
      let s = c.in_ok-empty.ensures.leaves.now was.0 was.1 in
      let t = c.in_ok-add_record.ensures.leaves.now s.now s.tells in
      let rest_is : c.deref.result.now ≡ session_tail c.args.plan c.args.voc.now ++ 0 ∷ [] = c.deref.ensures.value ∙ c.in_ok-rest.ensures in
      let long : c.len.result ≡ length (session_tail c.args.plan c.args.voc.now ++ 0 ∷ []) = omega (arith, ap length c.in_ok-rest.ensures) in
      subst (Sits c.at.result) (told_same _ t.now x t.tells told_new)
      (sits s.now t.now c.args.plan c.args.voc.now c.deref.result.now c.at.result (record { short = c.requires.short }) s.holds rest_is t.holds (c.at.ensures.place ∙ ap (λ (n : ℕ). 8 + n) long) c.at.ensures.records c.at.ensures.raised);
  durable = λ x told_new.
      let was_mid = told_before _ _ c.add_record.ensures.leaves.goes_on.silent x told_new in
      let s = c.in_ok-add_record.ensures.leaves.now was_mid.0 was_mid.1 in
      subst (λ (f : List ℕ). Only f (g.D.Disk.may_leave c.add_record.new.disk)) (told_same _ s.now x s.tells told_new) s.durable;
}

pub returns-clause-free : goal.returns-clause-free
returns-clause-free g c old told = head_free old c.in_ok-head.head (c.in_ok-head.ensures.head old told) c.in-Short.is

pub returns-in-Foreign-clause-some_refusal : goal.returns-in-Foreign-clause-some_refusal
returns-in-Foreign-clause-some_refusal g c = not_made_somewhere

pub returns-in-Open-clause-some_refusal : goal.returns-in-Open-clause-some_refusal
returns-in-Open-clause-some_refusal g c = session_there_somewhere

pub returns-in_err-add_record-clause-spared : goal.returns-in_err-add_record-clause-spared
returns-in_err-add_record-clause-spared g c old told = inl (head_free old c.in_ok-head.head (c.in_ok-head.ensures.head old told) c.in-Short.is)

pub returns-clause-spared : goal.returns-clause-spared
returns-clause-spared g c old told = inl (head_free old c.in_ok-head.head (c.in_ok-head.ensures.head old told) c.in-Short.is)

pub returns-in_err-empty-clause-spared : goal.returns-in_err-empty-clause-spared
returns-in_err-empty-clause-spared g c = λ x told. inl (head_free x c.in_ok-head.head (c.in_ok-head.ensures.head x told) c.in-Short.is)
