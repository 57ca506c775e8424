use Rattle.propagators.proofs.Prelude.{length, arith, conditions}
use Rattle.propagators.proofs.Parting.{none_with, noted_few}
use Rattle.propagators.proofs.Indexed.{taken_none}
use Rattle.propagators.proofs.arranging.arrange_all.Goals as goal

pub take_in-requires-clause-front : goal.take_in-requires-clause-front
take_in-requires-clause-front c =
    taken_none c.args.cons.now.lang.now (conditions c.args.cons.now) _ _ _ _
    (none_with c.fill-2.new.self (length c.args.aparts.now) (c.fill-2.ensures.after (λ y e. e)))

pub note_rest-requires-clause-first : goal.note_rest-requires-clause-first
note_rest-requires-clause-first c = λ k v a b low h.
    noted_few c.take_in.new.briefs c.take_in.new.sets k v b (let end = c.min-end.ensures in omega arith)
    (c.take_in.ensures.noted k v a b (let end = c.min-end.ensures in let count = c.count-2.ensures in omega arith) h)

pub returns-clause-briefs : goal.returns-clause-briefs
returns-clause-briefs c = λ k a b low below. c.take_in.ensures.briefs k a b (omega arith)

pub returns-clause-limits : goal.returns-clause-limits
returns-clause-limits c = λ k j a b low below l. c.take_in.ensures.limits k j a b (omega arith) l

pub returns-clause-parted : goal.returns-clause-parted
returns-clause-parted c = λ k b low below. c.take_in.ensures.parted k b (omega arith)

pub returns-clause-apart : goal.returns-clause-apart
returns-clause-apart c = c.take_in.ensures.apart
