use Rattle.network.proofs.Prelude.{length, sym, ◌≤◌, ◌≡◌, List, ℕ, Bor, arith, length-map, texts_of}
use Rattle.network.proofs.Joined.{IsJoined, joined}
use Rattle.network.proofs.reading.relation_by.Goals as goal
use Rattle.network.proofs.reading.relation_by.Goals.{In_ok-relations}

found : (c : In_ok-relations) → IsJoined c.args.lang.now c.args.s (texts_of c.args.names.now) c.in_ok-relations.relations
found c =
    let long : length (texts_of c.args.names.now) ≡ length c.args.names.now = length-map c.args.names.now (λ (name : Bor (List ℕ)). name.now) in
    let some : 1 ≤ length (texts_of c.args.names.now) = (let h = c.requires.some in omega (arith, h, long)) in
    joined c.args.lang.now c.requires.lawful c.args.s c.requires.scope (texts_of c.args.names.now) some c.in_ok-relations.relations c.in_ok-relations.ensures.small c.in_ok-relations.ensures.tells

pub returns-clause-is : goal.returns-clause-is
returns-clause-is c = sym (found (goal.at.returns-clause-is c).In_ok-relations).is

pub returns-clause-known : goal.returns-clause-known
returns-clause-known c = (found (goal.at.returns-clause-known c).In_ok-relations).low
