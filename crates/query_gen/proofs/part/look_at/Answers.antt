use Rattle.query_gen.proofs.Prelude.{◌∙◌, arith, number_below}
use Rattle.query_gen.proofs.Among.{among_is}
use Rattle.query_gen.proofs.Parts.{next_other, next_kept, under_implied, under_spent}
use Rattle.query_gen.proofs.part.look_at.Goals as goal

pub returns-then-not-is_kept-clause-is : goal.returns-then-not-is_kept-clause-is
returns-then-not-is_kept-clause-is c =
    next_other c.args.lang.now c.args.net.now.list c.args.kept.now.members c.args.budget c.args.first c.args.number c.args.c c.args.marks.now c.args.answer.now
    c.requires.candidate.0 c.requires.candidate.1 c.requires.number (among_is c.args.kept.now.members c.args.c c.is_kept.result c.is_kept.ensures ∙ c.if-not-is_kept.true) c.requires.before

pub mark_under-mark-requires : goal.mark_under-mark-requires
mark_under-mark-requires c =
    let low = number_below c.args.lang.now c.args.c c.requires.candidate.0 in let at = c.requires.candidate.1 in let size = c.requires.screen.marks in omega arith

pub byte_of-byte-requires-clause-implied : goal.byte_of-byte-requires-clause-implied
byte_of-byte-requires-clause-implied c =
    under_implied c.args.lang.now c.args.net.now.list c.args.budget c.args.screen.now c.len.result c.args.number c.args.c c.mark_under-mark.result
    c.requires.screen c.requires.marks c.len.ensures.is c.requires.candidate.0 c.requires.candidate.1 c.mark_under-mark.ensures

pub byte_of-byte-requires-clause-spent : goal.byte_of-byte-requires-clause-spent
byte_of-byte-requires-clause-spent c =
    under_spent c.args.lang.now c.args.net.now.list c.args.budget c.args.screen.now c.len.result c.args.number c.args.c c.mark_under-mark.result
    c.requires.screen c.requires.marks c.len.ensures.is c.requires.candidate.0 c.requires.candidate.1 c.mark_under-mark.ensures

pub returns-clause-is : goal.returns-clause-is
returns-clause-is c =
    next_kept c.args.lang.now c.args.net.now.list c.args.kept.now.members c.args.budget c.args.first c.args.number c.args.c c.args.marks.now c.args.answer.now c.byte_of-byte.new.answer c.byte_of-byte.result
    c.requires.candidate.0 c.requires.candidate.1 c.requires.number (let room = c.requires.room in omega arith) (among_is c.args.kept.now.members c.args.c c.is_kept.result c.is_kept.ensures ∙ c.if-not-is_kept.false)
    c.requires.none c.byte_of-byte.ensures.byte c.byte_of-byte.ensures.answer c.requires.before
