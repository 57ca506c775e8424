use Rattle.acq_loop.proofs.Prelude.{sym, refl, Knowledge}
use Rattle.acq_loop.proofs.Nexts.{searched_new, searched_done, searched_open}
use Rattle.acq_loop.proofs.next.searched_next.Goals as goal

pub returns-in-Ask-clause-next : goal.returns-in-Ask-clause-next
returns-in-Ask-clause-next g c t stands =
    let k : Knowledge = c.args.idle.now.knowledge.value in
    let says = sym (rw (c.lang.ensures.is, c.network.ensures.is, c.kept.ensures.is) at c.in-Ask.ensures.is) in
    let new = searched_new k t c.args.budget stands.after.end stands.after.idle stands.knows (rw c.lang.ensures.is at c.lang.ensures.lawful) c.requires.plan c.in-Ask.question says in
    (new.0, refl, new.1)

pub returns-in-AllImplied-clause-next : goal.returns-in-AllImplied-clause-next
returns-in-AllImplied-clause-next g c t stands =
    let k : Knowledge = c.args.idle.now.knowledge.value in
    let says = sym (rw (c.lang.ensures.is, c.network.ensures.is, c.kept.ensures.is) at c.in-AllImplied.ensures.is) in
    searched_done k t c.args.budget stands.after.end stands.after.idle stands.knows (rw c.lang.ensures.is at c.lang.ensures.lawful) c.requires.plan says

pub returns-in-Undecided-clause-next : goal.returns-in-Undecided-clause-next
returns-in-Undecided-clause-next g c t stands =
    let k : Knowledge = c.args.idle.now.knowledge.value in
    let says = sym (rw (c.lang.ensures.is, c.network.ensures.is, c.kept.ensures.is) at c.in-Undecided.ensures.is) in
    searched_open k t c.args.budget stands.after.end stands.after.idle stands.knows (rw c.lang.ensures.is at c.lang.ensures.lawful) c.requires.plan says
