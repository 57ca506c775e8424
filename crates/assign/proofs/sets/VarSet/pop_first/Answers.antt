use Rattle.assign.proofs.Prelude.{◌∙◌, ◌≡◌, [], ap, sym, ◌<◌, arith, drop, least_of, members_of, bit_at-trailing_zeros, w128}
use Rattle.assign.proofs.Masks.{members_of-rest, members_of-zero, least_of-members_of}
use Rattle.assign.proofs.sets.VarSet.pop_first.Goals as goal

pub returns-then-self-eq0-clause-first : goal.returns-then-self-eq0-clause-first
returns-then-self-eq0-clause-first c = sym (ap (λ m. least_of (members_of m)) c.if-self-eq0.true ∙ ap least_of members_of-zero) ∙ ap least_of c.self.view_is

pub returns-then-self-eq0-clause-rest : goal.returns-then-self-eq0-clause-rest
returns-then-self-eq0-clause-rest c =
    let empty : [] ≡ c.args.self.now = sym (ap members_of c.if-self-eq0.true ∙ members_of-zero) ∙ c.self.view_is in
    sym empty ∙ ap (drop 1) empty

pub returns-clause-first : goal.returns-clause-first
returns-clause-first c =
    let differs = c.if-self-eq0.false in
    let positive : 0 < c.self.inside.mask = omega arith in
    let low = bit_at-trailing_zeros w128 c.self.inside.mask positive c.self.invariant in
    sym (least_of-members_of c.self.inside.mask _ low.0 low.1 low.2) ∙ ap least_of c.self.view_is

pub returns-clause-rest : goal.returns-clause-rest
returns-clause-rest c =
    let differs = c.if-self-eq0.false in
    let positive : 0 < c.self.inside.mask = omega arith in
    let low = bit_at-trailing_zeros w128 c.self.inside.mask positive c.self.invariant in
    members_of-rest c.self.inside.mask _ low.0 low.1 low.2 ∙ ap (drop 1) c.self.view_is
