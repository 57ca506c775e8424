use Rattle.net_reduce.proofs.Prelude.{◌≡◌, ◌<◌, ◌≤◌, ◌+◌, Vec, Global, List, length, sym, ◌∙◌, ap, subst, arith, insert, remove, Candidate, IsNetwork, Spent}
use Rattle.net_reduce.proofs.Sifting.{sifted_is_reduction, sublist_known}
use Rattle.net_reduce.proofs.Searching.{IsUnderway, taken_is, others_are, others_known, outcome_is, underway_absent, underway_found, spent_at, sifted}
use Rattle.net_reduce.proofs.reducing.reduce.Goals as goal
use Rattle.net_reduce.proofs.reducing.reduce.Goals.{in-Found+in_ok-insert-in-Found, in-Absent}

abbrev Items : Type 0
Items = Vec Candidate Global

pub outcome_of-requires-clause-network : goal.outcome_of-requires-clause-network
outcome_of-requires-clause-network c =
    let low : c.loop-number.number < length c.args.net.now.list = (let end = c.len-number-end.ensures.is in let test = c.loop-number-test.true in omega arith) in
    subst (λ (list : List Candidate). IsNetwork c.args.lang.now list)
    (sym (c.deref.ensures.value ∙ c.remove-c.ensures.items ∙ others_are c.args.lang.now c.args.net.now.list c.args.budget c.loop-number.number c.loop-number.kept c.loop-number.part.items c.loop-number.invariant low))
    (others_known c.args.lang.now c.args.net.now.list c.args.budget c.requires.network c.loop-number.number (omega arith))

pub returns-in-Spent-clause-spent : goal.returns-in-Spent-clause-spent
returns-in-Spent-clause-spent c =
    let low : c.loop-number.number < length c.args.net.now.list = (let end = c.len-number-end.ensures.is in let test = c.loop-number-test.true in omega arith) in
    spent_at c.args.lang.now c.args.net.now.list c.args.budget c.outcome_of.ensures.lawful c.requires.network c.loop-number.number low c.loop-number.invariant.decided
    (outcome_is c.args.lang.now c.args.net.now.list c.args.budget c.loop-number.number c.deref.result.now c.remove-c.result Spent
    (c.deref.ensures.value ∙ c.remove-c.ensures.items ∙ others_are c.args.lang.now c.args.net.now.list c.args.budget c.loop-number.number c.loop-number.kept c.loop-number.part.items c.loop-number.invariant low)
    (taken_is c.args.lang.now c.args.net.now.list c.args.budget c.loop-number.number c.loop-number.kept c.loop-number.part.items c.remove-c.result c.loop-number.invariant low c.remove-c.ensures.value)
    c.in-Spent.ensures.is)

pub loop-number-preserved : goal.loop-number-preserved
loop-number-preserved c =
    let low : c.loop-number.number < length c.args.net.now.list = (let end = c.len-number-end.ensures.is in let test = c.loop-number-test.true in omega arith) in
    let others = c.deref.ensures.value ∙ c.remove-c.ensures.items ∙ others_are c.args.lang.now c.args.net.now.list c.args.budget c.loop-number.number c.loop-number.kept c.loop-number.part.items c.loop-number.invariant low in
    let item = taken_is c.args.lang.now c.args.net.now.list c.args.budget c.loop-number.number c.loop-number.kept c.loop-number.part.items c.remove-c.result c.loop-number.invariant low c.remove-c.ensures.value in
    let is = outcome_is c.args.lang.now c.args.net.now.list c.args.budget c.loop-number.number c.deref.result.now c.remove-c.result c.outcome_of.result others item c.outcome_of.ensures.is in
    elim c.match-outcome_of.branch [
      | in-Found+in_ok-insert-in-Found w ↦
          let put : insert (remove c.loop-number.part.items c.loop-number.kept) c.loop-number.kept c.remove-c.result ≡ c.match-outcome_of.part.items =
          ap (λ (list : List Candidate). insert list c.loop-number.kept c.remove-c.result) (sym c.remove-c.ensures.items) ∙ sym (ap (λ (v : Items). v.items) w.part-is ∙ w.in_ok-insert-in-Found.ensures.items) in
          subst (λ n. IsUnderway c.args.lang.now c.args.net.now.list c.args.budget (c.loop-number.number + 1) n c.match-outcome_of.part.items) (sym w.kept-is)
          (subst (λ (list : List Candidate). IsUnderway c.args.lang.now c.args.net.now.list c.args.budget (c.loop-number.number + 1) (c.loop-number.kept + 1) list) put
          (underway_found c.args.lang.now c.args.net.now.list c.args.budget c.outcome_of.ensures.lawful c.requires.network c.loop-number.number c.loop-number.kept c.loop-number.part.items c.remove-c.result w.in-Found.field-0
          c.loop-number.invariant low item (is ∙ w.in-Found.is)))
      | in-Absent w ↦
          subst (λ n. IsUnderway c.args.lang.now c.args.net.now.list c.args.budget (c.loop-number.number + 1) n c.match-outcome_of.part.items) (sym w.kept-is)
          (subst (λ (list : List Candidate). IsUnderway c.args.lang.now c.args.net.now.list c.args.budget (c.loop-number.number + 1) c.loop-number.kept list)
          (sym (ap (λ (v : Items). v.items) w.part-is ∙ c.remove-c.ensures.items))
          (underway_absent c.args.lang.now c.args.net.now.list c.args.budget c.outcome_of.ensures.lawful c.requires.network c.loop-number.number c.loop-number.kept c.loop-number.part.items
          c.loop-number.invariant low (is ∙ w.in-Absent.is)))
    ]

pub returns-clause-reduction : goal.returns-clause-reduction
returns-clause-reduction c =
    let end : length c.args.net.now.list ≤ c.loop-number.number = (let end = c.len-number-end.ensures.is in let test = c.loop-number-test.false in omega arith) in
    sifted_is_reduction c.args.lang.now c.args.net.now.list c.loop-number.part.items
    (sifted c.args.lang.now c.args.net.now.list c.args.budget c.loop-number.number c.loop-number.kept c.loop-number.part.items c.loop-number.invariant end)

pub returns-clause-known : goal.returns-clause-known
returns-clause-known c =
    let end : length c.args.net.now.list ≤ c.loop-number.number = (let end = c.len-number-end.ensures.is in let test = c.loop-number-test.false in omega arith) in
    sublist_known c.args.lang.now c.loop-number.part.items c.args.net.now.list
    ((sifted_is_reduction c.args.lang.now c.args.net.now.list c.loop-number.part.items
    (sifted c.args.lang.now c.args.net.now.list c.args.budget c.loop-number.number c.loop-number.kept c.loop-number.part.items c.loop-number.invariant end)).sublist)
    c.requires.network
