use Rattle.multi_tree.proofs.Prelude.{◌≡◌, ◌&&◌, Bool, true, take, sym, ◌∙◌, ap, arith, slice_index_or, list_any, get_or_default, take_all, and_from, is_within, Candidate, scope_of, violates, find_nothing}
use Rattle.multi_tree.proofs.Turning.{find_first}
use Rattle.multi_tree.proofs.listing.learned_within.Goals as goal

pub returns-then-within : goal.returns-then-within
returns-then-within c =
    let passes : Candidate → Bool = λ x. violates c.args.lang.now x c.args.example.now && is_within (scope_of c.args.lang.now x) c.args.set in
    let zero : Candidate = record { scope = 0; rel = 0 } in
    let x : Candidate = slice_index_or c.args.list.now c.loop-c.c-index zero in
    let on : passes x ≡ true = and_from _ _ (sym c.candidate_violated.ensures ∙ c.if-candidate_violated.true)
    (ap (λ set. is_within set c.args.set) (sym c.scope_set.ensures) ∙ sym c.within.ensures ∙ c.if-within.true) in
    sym (find_first passes c.args.list.now c.loop-c.c-index x (omega arith) c.loop-c.invariant (get_or_default c.args.list.now c.loop-c.c-index x zero (omega arith)) on)

pub returns : goal.returns
returns c =
    let passes : Candidate → Bool = λ x. violates c.args.lang.now x c.args.example.now && is_within (scope_of c.args.lang.now x) c.args.set in
    let all : take c.loop-c.c-index c.args.list.now ≡ c.args.list.now = take_all c.loop-c.c-index c.args.list.now (omega arith) in
    sym (find_nothing passes c.args.list.now (ap (list_any passes) (sym all) ∙ c.loop-c.invariant))
