use Rattle.par_screen.proofs.Prelude.{sym, ◌∙◌, ap, is_ask}
use Rattle.par_screen.proofs.forked.next_query_forked.Goals as goal

pub search_parts-requires-clause-marks : goal.search_parts-requires-clause-marks
search_parts-requires-clause-marks g c κs within = c.follow.ensures.holds c.args.net.now.list c.args.budget c.requires.marks

pub take_searched-requires-clause-marks : goal.take_searched-requires-clause-marks
take_searched-requires-clause-marks g c = c.follow.ensures.holds c.args.net.now.list c.args.budget c.requires.marks

pub take_parts-requires-clause-marks : goal.take_parts-requires-clause-marks
take_parts-requires-clause-marks g c = c.follow.ensures.holds c.args.net.now.list c.args.budget c.requires.marks

pub returns-clause-open : goal.returns-clause-open
returns-clause-open g c undecided = c.take_parts.ensures.open (ap is_ask (sym c.answer_of-answer.ensures ∙ undecided))
