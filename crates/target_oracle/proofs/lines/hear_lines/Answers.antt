use Rattle.target_oracle.proofs.Prelude.{◌≡◌, suc, ◌-◌, ◌∙◌, [], Some, ap, sym, arith, none-some, Told, ReadFault, takes_none, takes_some_on, adds_none, adds_on}
use Rattle.acq_io.proofs.CallLemmas.{called_none, called_on, called_as}
use Rattle.target_oracle.proofs.Hearings.{passed_none, passed_more, passed_tells}
use Rattle.target_oracle.proofs.lines.hear_lines.Goals as goal

pub loop-passed-init : goal.loop-passed-init
loop-passed-init g c = record {
  passed = passed_none c.args.k 999 (g.S.Source.left c.args.source.now) (g.K.Sink.written c.args.sink.now);
  takes = ([], takes_none (g.S.Source.left c.args.source.now));
  adds = ([], adds_none (g.K.Sink.written c.args.sink.now));
  called = called_none _ _;
  later_sink = omega arith;
}

pub loop-passed-preserved : goal.loop-passed-preserved
loop-passed-preserved g c = record {
  passed = passed_more c.args.k 999 c.loop-passed._passed (g.S.Source.left c.args.source.now) (g.K.Sink.written c.args.sink.now)
      (g.S.Source.left c.loop-passed.source) (g.K.Sink.written c.loop-passed.sink) (g.S.Source.left c.hear_or_pass.new.source) (g.K.Sink.written c.hear_or_pass.new.sink)
      c.loop-passed.invariant.passed (c.hear_or_pass.ensures.passes c.in_default.is);
  takes = takes_some_on _ _ _ c.loop-passed.invariant.takes c.hear_or_pass.ensures.takes;
  adds = adds_on _ _ _ [] c.loop-passed.invariant.adds c.hear_or_pass.ensures.adds;
  called = called_on _ _ _ _ _ _ _ c.loop-passed.invariant.called (called_as _ _ _ _ _ _ (λ is. none-some ReadFault (sym c.in_default.is ∙ is)) (λ never. absurd never) c.hear_or_pass.ensures.called);
  later_sink = omega (arith, c.hear_or_pass.ensures.later_sink, c.loop-passed.invariant.later_sink);
}

pub returns-in-Some-clause-tells : goal.returns-in-Some-clause-tells
returns-in-Some-clause-tells g c =
    passed_tells c.args.k 999 c.loop-passed._passed (suc (998 - c.loop-passed._passed)) (g.S.Source.left c.args.source.now) (g.K.Sink.written c.args.sink.now)
    (g.S.Source.left c.loop-passed.source) (g.K.Sink.written c.loop-passed.sink) (g.S.Source.left c.hear_or_pass.new.source) (g.K.Sink.written c.hear_or_pass.new.sink)
    c.in-Some.told (omega (arith, c.loop-passed-test.true)) c.loop-passed.invariant.passed (c.in-Some.ensures.tells (998 - c.loop-passed._passed))

pub returns-clause-tells : goal.returns-clause-tells
returns-clause-tells g c =
    passed_tells c.args.k 999 c.loop-passed._passed 0 (g.S.Source.left c.args.source.now) (g.K.Sink.written c.args.sink.now)
    (g.S.Source.left c.loop-passed.source) (g.K.Sink.written c.loop-passed.sink) (g.S.Source.left c.hear_last.new.source) (g.K.Sink.written c.loop-passed.sink)
    c.hear_last.result (omega (arith, c.loop-passed-test.false, c.loop-passed.auto._passed-end)) c.loop-passed.invariant.passed (c.hear_last.ensures.tells (g.K.Sink.written c.loop-passed.sink))

pub returns-in-Some-clause-takes : goal.returns-in-Some-clause-takes
returns-in-Some-clause-takes g c = takes_some_on _ _ _ c.loop-passed.invariant.takes c.in-Some.ensures.takes

pub returns-in-Some-clause-adds : goal.returns-in-Some-clause-adds
returns-in-Some-clause-adds g c = adds_on _ _ _ [] c.loop-passed.invariant.adds c.in-Some.ensures.adds

pub returns-clause-takes : goal.returns-clause-takes
returns-clause-takes g c = takes_some_on _ _ _ c.loop-passed.invariant.takes c.hear_last.ensures.takes

pub returns-clause-adds : goal.returns-clause-adds
returns-clause-adds g c = c.loop-passed.invariant.adds

some_told : (a b : Told) → Some a ≡ Some b → a ≡ b
some_told a b e = cc

pub returns-in-Some-clause-called : goal.returns-in-Some-clause-called
returns-in-Some-clause-called g c = called_on _ _ _ _ _ _ _ c.loop-passed.invariant.called (called_as _ _ _ _ _ _ (some_told c.in-Some.told ReadFault) (λ is. ap (λ (t : Told). Some t) is) c.in-Some.ensures.called)

pub returns-clause-called : goal.returns-clause-called
returns-clause-called g c = called_on _ _ _ _ _ _ _ c.loop-passed.invariant.called c.hear_last.ensures.called
