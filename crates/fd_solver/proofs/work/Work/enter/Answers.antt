use Rattle.fd_solver.proofs.Prelude.{◌≡◌, ◌++◌, ◌+◌, ◌∙◌, [], ◌∷◌, ap, sym, subst, length, arith, slice_index_or, get_or_read, has, Family, conditions, is_arc_consistent, AreEntailed, Entailed, IsArranged, Room}
use Rattle.propagators.specs.Plans.{IsPlanOf}
use Rattle.propagators.specs.Propagated.{AreSome}
use Rattle.fd_solver.proofs.Narrowing.{entered, entered_ready}
use Rattle.fd_solver.proofs.Rows.{handed, arranged_written, arranged_deeper, written}
use Rattle.fd_solver.proofs.work.Work.enter.Goals as goal

pub index_mut-requires : goal.index_mut-requires
index_mut-requires c =
    let is_handed = handed c.args.cons.now.lang.now c.args.cons.now.list.now c.args.cons.now.against c.args.order.now c.requires.order c.requires.lawful c.requires.constraints c.args.prefix.now c.requires.short c.len-at.result c.args.x c.hand_down-row.result c.args.self.now c.hand_down-row.new.self c.len-at.ensures c.requires.ready c.requires.there c.hand_down-row.ensures.shared c.hand_down-row.ensures.copied in
    let low = is_handed.low in
    let deep = is_handed.arranged.deep in
    let short = c.requires.short in
    let seen = ap (λ (w : Room). length w.depths) c.self.view_is in
    let size = c.self.inside.depths.ok.0 in
    omega arith

pub index_mut-requires-2 : goal.index_mut-requires-2
index_mut-requires-2 c =
    let is_handed = handed c.args.cons.now.lang.now c.args.cons.now.list.now c.args.cons.now.against c.args.order.now c.requires.order c.requires.lawful c.requires.constraints c.args.prefix.now c.requires.short c.len-at.result c.args.x c.hand_down-row.result c.args.self.now c.hand_down-row.new.self c.len-at.ensures c.requires.ready c.requires.there c.hand_down-row.ensures.shared c.hand_down-row.ensures.copied in
    let low = is_handed.low in
    let deep = is_handed.arranged.deep in
    let short = c.requires.short in
    let seen = ap (λ (w : Room). length w.depths) c.self.view_is in
    let both = is_handed.arranged.same in
    let lists = ap (λ (w : Room). length w.entailed) c.self.view_is in
    let size = c.self.inside.entailed.ok.0 in
    omega arith

pub narrow-requires-clause-plan : goal.narrow-requires-clause-plan
narrow-requires-clause-plan c =
    let is_handed = handed c.args.cons.now.lang.now c.args.cons.now.list.now c.args.cons.now.against c.args.order.now c.requires.order c.requires.lawful c.requires.constraints c.args.prefix.now c.requires.short c.len-at.result c.args.x c.hand_down-row.result c.args.self.now c.hand_down-row.new.self c.len-at.ensures c.requires.ready c.requires.there c.hand_down-row.ensures.shared c.hand_down-row.ensures.copied in
    subst (λ (w : Room). IsPlanOf c.args.cons.now.lang.now (conditions c.args.cons.now) w.plan) (sym c.self.view_is) is_handed.arranged.plan

pub narrow-requires-clause-doms : goal.narrow-requires-clause-doms
narrow-requires-clause-doms c =
    let is_handed = handed c.args.cons.now.lang.now c.args.cons.now.list.now c.args.cons.now.against c.args.order.now c.requires.order c.requires.lawful c.requires.constraints c.args.prefix.now c.requires.short c.len-at.result c.args.x c.hand_down-row.result c.args.self.now c.hand_down-row.new.self c.len-at.ensures c.requires.ready c.requires.there c.hand_down-row.ensures.shared c.hand_down-row.ensures.copied in
    let low = is_handed.low in
    let deep = is_handed.arranged.deep in
    let short = c.requires.short in
    let seen = ap (λ (w : Room). length w.depths) c.self.view_is in
    let same : c.index_mut.result.now ≡ slice_index_or c.hand_down-row.new.self.depths c.hand_down-row.result [] = get_or_read c.self.inside.depths.items c.hand_down-row.result c.index_mut.result.now (omega arith) c.index_mut.ensures.value []
    ∙ ap (λ (w : Room). slice_index_or w.depths c.hand_down-row.result []) c.self.view_is in
    subst (AreSome c.args.cons.now.lang.now) (sym same) (record { family = is_handed.ready.family; full = is_handed.ready.full })

pub narrow-requires-clause-consistent : goal.narrow-requires-clause-consistent
narrow-requires-clause-consistent c =
    let is_handed = handed c.args.cons.now.lang.now c.args.cons.now.list.now c.args.cons.now.against c.args.order.now c.requires.order c.requires.lawful c.requires.constraints c.args.prefix.now c.requires.short c.len-at.result c.args.x c.hand_down-row.result c.args.self.now c.hand_down-row.new.self c.len-at.ensures c.requires.ready c.requires.there c.hand_down-row.ensures.shared c.hand_down-row.ensures.copied in
    let low = is_handed.low in
    let deep = is_handed.arranged.deep in
    let short = c.requires.short in
    let seen = ap (λ (w : Room). length w.depths) c.self.view_is in
    let same : c.index_mut.result.now ≡ slice_index_or c.hand_down-row.new.self.depths c.hand_down-row.result [] = get_or_read c.self.inside.depths.items c.hand_down-row.result c.index_mut.result.now (omega arith) c.index_mut.ensures.value []
    ∙ ap (λ (w : Room). slice_index_or w.depths c.hand_down-row.result []) c.self.view_is in
    ap (is_arc_consistent (conditions c.args.cons.now)) same ∙ is_handed.ready.largest.consistent

pub narrow-requires-clause-entailed : goal.narrow-requires-clause-entailed
narrow-requires-clause-entailed c =
    let is_handed = handed c.args.cons.now.lang.now c.args.cons.now.list.now c.args.cons.now.against c.args.order.now c.requires.order c.requires.lawful c.requires.constraints c.args.prefix.now c.requires.short c.len-at.result c.args.x c.hand_down-row.result c.args.self.now c.hand_down-row.new.self c.len-at.ensures c.requires.ready c.requires.there c.hand_down-row.ensures.shared c.hand_down-row.ensures.copied in
    let low = is_handed.low in
    let deep = is_handed.arranged.deep in
    let short = c.requires.short in
    let seen = ap (λ (w : Room). length w.depths) c.self.view_is in
    let same : c.index_mut.result.now ≡ slice_index_or c.hand_down-row.new.self.depths c.hand_down-row.result [] = get_or_read c.self.inside.depths.items c.hand_down-row.result c.index_mut.result.now (omega arith) c.index_mut.ensures.value []
    ∙ ap (λ (w : Room). slice_index_or w.depths c.hand_down-row.result []) c.self.view_is in
    let both = is_handed.arranged.same in
    let lists = ap (λ (w : Room). length w.entailed) c.self.view_is in
    let known : c.index_mut-2.result.now ≡ slice_index_or c.hand_down-row.new.self.entailed c.hand_down-row.result c.index_mut-2.result.now = c.index_mut-2.ensures.value ∙ ap (λ (w : Room). slice_index_or w.entailed c.hand_down-row.result c.index_mut-2.result.now) c.self.view_is in
    subst (λ (f : Family). AreEntailed (conditions c.args.cons.now) c.self.inside.plan c.index_mut-2.result.now f) (sym same)
    (subst (λ (e : Entailed). AreEntailed (conditions c.args.cons.now) c.self.inside.plan e (slice_index_or c.hand_down-row.new.self.depths c.hand_down-row.result [])) (sym known)
    (subst (λ (w : Room). AreEntailed (conditions c.args.cons.now) w.plan (slice_index_or c.hand_down-row.new.self.entailed c.hand_down-row.result c.index_mut-2.result.now) (slice_index_or c.hand_down-row.new.self.depths c.hand_down-row.result [])) (sym c.self.view_is)
    (is_handed.entailed c.index_mut-2.result.now)))

pub narrow-requires-clause-there : goal.narrow-requires-clause-there
narrow-requires-clause-there c =
    let is_handed = handed c.args.cons.now.lang.now c.args.cons.now.list.now c.args.cons.now.against c.args.order.now c.requires.order c.requires.lawful c.requires.constraints c.args.prefix.now c.requires.short c.len-at.result c.args.x c.hand_down-row.result c.args.self.now c.hand_down-row.new.self c.len-at.ensures c.requires.ready c.requires.there c.hand_down-row.ensures.shared c.hand_down-row.ensures.copied in
    let low = is_handed.low in
    let deep = is_handed.arranged.deep in
    let short = c.requires.short in
    let seen = ap (λ (w : Room). length w.depths) c.self.view_is in
    let same : c.index_mut.result.now ≡ slice_index_or c.hand_down-row.new.self.depths c.hand_down-row.result [] = get_or_read c.self.inside.depths.items c.hand_down-row.result c.index_mut.result.now (omega arith) c.index_mut.ensures.value []
    ∙ ap (λ (w : Room). slice_index_or w.depths c.hand_down-row.result []) c.self.view_is in
    (λ i. has (slice_index_or (same i) (slice_index_or c.args.order.now (c.len-at.ensures i) 0) []) c.args.x) ∙ is_handed.there

pub returns-clause-is : goal.returns-clause-is
returns-clause-is c =
    let is_handed = handed c.args.cons.now.lang.now c.args.cons.now.list.now c.args.cons.now.against c.args.order.now c.requires.order c.requires.lawful c.requires.constraints c.args.prefix.now c.requires.short c.len-at.result c.args.x c.hand_down-row.result c.args.self.now c.hand_down-row.new.self c.len-at.ensures c.requires.ready c.requires.there c.hand_down-row.ensures.shared c.hand_down-row.ensures.copied in
    let low = is_handed.low in
    let deep = is_handed.arranged.deep in
    let short = c.requires.short in
    let seen = ap (λ (w : Room). length w.depths) c.self.view_is in
    let same : c.index_mut.result.now ≡ slice_index_or c.hand_down-row.new.self.depths c.hand_down-row.result [] = get_or_read c.self.inside.depths.items c.hand_down-row.result c.index_mut.result.now (omega arith) c.index_mut.ensures.value []
    ∙ ap (λ (w : Room). slice_index_or w.depths c.hand_down-row.result []) c.self.view_is in
    entered c.args.cons.now.lang.now c.args.cons.now.list.now c.args.cons.now.against c.args.order.now c.requires.order c.requires.lawful c.requires.constraints c.args.prefix.now c.args.x (slice_index_or c.hand_down-row.new.self.depths c.hand_down-row.result []) c.requires.short is_handed.ready c.len-at.result c.index_mut.result.now c.narrow.new.doms c.narrow.result c.len-at.ensures same c.narrow.ensures.alive c.narrow.ensures.dead

pub returns-clause-ready : goal.returns-clause-ready
returns-clause-ready c =
    let is_handed = handed c.args.cons.now.lang.now c.args.cons.now.list.now c.args.cons.now.against c.args.order.now c.requires.order c.requires.lawful c.requires.constraints c.args.prefix.now c.requires.short c.len-at.result c.args.x c.hand_down-row.result c.args.self.now c.hand_down-row.new.self c.len-at.ensures c.requires.ready c.requires.there c.hand_down-row.ensures.shared c.hand_down-row.ensures.copied in
    subst (λ (w : Room). IsArranged c.args.cons.now.lang.now c.args.cons.now.list.now c.args.cons.now.against c.args.order.now c.args.prefix.now (c.args.x + 1) (written w c.hand_down-row.result c.narrow.new.doms c.narrow.new.entailed)) (sym c.self.view_is)
    (arranged_written c.args.cons.now.lang.now c.args.cons.now.list.now c.args.cons.now.against c.args.order.now c.args.prefix.now c.args.x c.hand_down-row.new.self c.hand_down-row.result c.narrow.new.doms c.narrow.new.entailed is_handed)

pub returns-clause-deeper : goal.returns-clause-deeper
returns-clause-deeper c = λ alive.
    let is_handed = handed c.args.cons.now.lang.now c.args.cons.now.list.now c.args.cons.now.against c.args.order.now c.requires.order c.requires.lawful c.requires.constraints c.args.prefix.now c.requires.short c.len-at.result c.args.x c.hand_down-row.result c.args.self.now c.hand_down-row.new.self c.len-at.ensures c.requires.ready c.requires.there c.hand_down-row.ensures.shared c.hand_down-row.ensures.copied in
    let low = is_handed.low in
    let deep = is_handed.arranged.deep in
    let short = c.requires.short in
    let seen = ap (λ (w : Room). length w.depths) c.self.view_is in
    let same : c.index_mut.result.now ≡ slice_index_or c.hand_down-row.new.self.depths c.hand_down-row.result [] = get_or_read c.self.inside.depths.items c.hand_down-row.result c.index_mut.result.now (omega arith) c.index_mut.ensures.value []
    ∙ ap (λ (w : Room). slice_index_or w.depths c.hand_down-row.result []) c.self.view_is in
    subst (λ (w : Room). IsArranged c.args.cons.now.lang.now c.args.cons.now.list.now c.args.cons.now.against c.args.order.now (c.args.prefix.now ++ c.args.x ∷ []) 0 (written w c.hand_down-row.result c.narrow.new.doms c.narrow.new.entailed)) (sym c.self.view_is)
    (arranged_deeper c.args.cons.now.lang.now c.args.cons.now.list.now c.args.cons.now.against c.args.order.now c.args.prefix.now c.args.x c.hand_down-row.new.self c.hand_down-row.result c.narrow.new.doms c.narrow.new.entailed c.requires.short is_handed
    (entered_ready c.args.cons.now.lang.now c.args.cons.now.list.now c.args.cons.now.against c.args.order.now c.requires.order c.requires.lawful c.requires.constraints c.args.prefix.now c.args.x (slice_index_or c.hand_down-row.new.self.depths c.hand_down-row.result []) c.requires.short is_handed.ready c.len-at.result c.index_mut.result.now c.narrow.new.doms c.len-at.ensures same (c.narrow.ensures.alive alive))
    (subst (λ (w : Room). AreEntailed (conditions c.args.cons.now) w.plan c.narrow.new.entailed c.narrow.new.doms) c.self.view_is (c.narrow.ensures.entailed alive)))
