use Rattle.fd_solver.proofs.Prelude.{◌≡◌, ◌∙◌, ℕ, [], ap, sym, refl, subst, length, arith, slice_index_or, get_or_read, has, Family, IsInRow, Room, family_of, depth_row}
use Rattle.fd_solver.proofs.Rows.{lacking}
use Rattle.fd_solver.proofs.work.Work.next_value.Goals as goal

pub returns-then-row-at-clause-dead : goal.returns-then-row-at-clause-dead
returns-then-row-at-clause-dead c = λ y above low.
    let past = c.if-row-at.true in
    let row = c.from-row.ensures ∙ ap (λ (w : Room). depth_row w c.len-at.result) c.self.view_is in
    lacking c.args.cons.now.lang.now c.args.cons.now.list.now c.args.cons.now.against c.args.order.now c.requires.order c.requires.lawful c.requires.constraints c.args.prefix.now c.requires.short c.len-at.result c.args.x y c.args.self.now c.len-at.ensures c.requires.ready above (λ there. absurd (omega arith))

pub returns-clause-within : goal.returns-clause-within
returns-clause-within c =
    let low = c.if-row-at.false in
    let short = c.requires.short in
    let deep = c.requires.ready.deep in
    let seen = ap (λ (w : Room). length w.depths) c.self.view_is in
    let at = c.len-at.ensures in
    let row : c.from-row.result ≡ depth_row c.args.self.now c.len-at.result = c.from-row.ensures ∙ ap (λ (w : Room). depth_row w c.len-at.result) c.self.view_is in
    let read : c.index.result.now ≡ family_of c.args.self.now c.len-at.result = get_or_read c.self.inside.depths.items c.from-row.result c.index.result.now (omega arith) c.index.ensures []
    ∙ (λ i. slice_index_or (c.self.view_is i).depths (row i) []) in
    let below = (c.requires.ready.here.ready (let same = ap (depth_row c.args.self.now) at in omega arith)).family.values (slice_index_or c.args.order.now (length c.args.prefix.now) 0) c.in-Some.next
    ((λ i. has (slice_index_or (sym (read ∙ ap (family_of c.args.self.now) at) i) (slice_index_or c.args.order.now (sym at i) 0) []) c.in-Some.next) ∙ c.in-Some.ensures.there) in
    omega arith

pub returns-clause-there : goal.returns-clause-there
returns-clause-there c = λ less.
    let low = c.if-row-at.false in
    let short = c.requires.short in
    let deep = c.requires.ready.deep in
    let seen = ap (λ (w : Room). length w.depths) c.self.view_is in
    let at = c.len-at.ensures in
    let row : c.from-row.result ≡ depth_row c.args.self.now c.len-at.result = c.from-row.ensures ∙ ap (λ (w : Room). depth_row w c.len-at.result) c.self.view_is in
    let read : c.index.result.now ≡ family_of c.args.self.now c.len-at.result = get_or_read c.self.inside.depths.items c.from-row.result c.index.result.now (omega arith) c.index.ensures []
    ∙ (λ i. slice_index_or (c.self.view_is i).depths (row i) []) in
    subst (λ (k : ℕ). IsInRow c.args.self.now k (slice_index_or c.args.order.now k 0) c.in-Some.next) at (record {
      row = omega arith;
      value = ap (λ (f : Family). has (slice_index_or f (slice_index_or c.args.order.now c.len-at.result 0) []) c.in-Some.next) (sym read) ∙ c.in-Some.ensures.there;
    })

pub returns-clause-dead : goal.returns-clause-dead
returns-clause-dead c = λ y above less.
    let low = c.if-row-at.false in
    let short = c.requires.short in
    let deep = c.requires.ready.deep in
    let seen = ap (λ (w : Room). length w.depths) c.self.view_is in
    let at = c.len-at.ensures in
    let row : c.from-row.result ≡ depth_row c.args.self.now c.len-at.result = c.from-row.ensures ∙ ap (λ (w : Room). depth_row w c.len-at.result) c.self.view_is in
    let read : c.index.result.now ≡ family_of c.args.self.now c.len-at.result = get_or_read c.self.inside.depths.items c.from-row.result c.index.result.now (omega arith) c.index.ensures []
    ∙ (λ i. slice_index_or (c.self.view_is i).depths (row i) []) in
    lacking c.args.cons.now.lang.now c.args.cons.now.list.now c.args.cons.now.against c.args.order.now c.requires.order c.requires.lawful c.requires.constraints c.args.prefix.now c.requires.short c.len-at.result c.args.x y c.args.self.now at c.requires.ready above
    (λ there. ap (λ (f : Family). has (slice_index_or f (slice_index_or c.args.order.now c.len-at.result 0) []) y) (sym read) ∙ c.in-Some.ensures.least y above less)

pub returns-in_default-clause-dead : goal.returns-in_default-clause-dead
returns-in_default-clause-dead c = λ y above less.
    let low = c.if-row-at.false in
    let short = c.requires.short in
    let deep = c.requires.ready.deep in
    let seen = ap (λ (w : Room). length w.depths) c.self.view_is in
    let at = c.len-at.ensures in
    let row : c.from-row.result ≡ depth_row c.args.self.now c.len-at.result = c.from-row.ensures ∙ ap (λ (w : Room). depth_row w c.len-at.result) c.self.view_is in
    let read : c.index.result.now ≡ family_of c.args.self.now c.len-at.result = get_or_read c.self.inside.depths.items c.from-row.result c.index.result.now (omega arith) c.index.ensures []
    ∙ (λ i. slice_index_or (c.self.view_is i).depths (row i) []) in
    lacking c.args.cons.now.lang.now c.args.cons.now.list.now c.args.cons.now.against c.args.order.now c.requires.order c.requires.lawful c.requires.constraints c.args.prefix.now c.requires.short c.len-at.result c.args.x y c.args.self.now at c.requires.ready above
    (λ there. ap (λ (f : Family). has (slice_index_or f (slice_index_or c.args.order.now c.len-at.result 0) []) y) (sym read) ∙ c.in_default.ensures.none refl y above)
