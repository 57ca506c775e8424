use Rattle.std.proofs.Common.{rules}
use Rattle.network.proofs.Prelude.{◌≡◌, List, ℕ, Bor, length, ap, arith, ◌==◌, length-map, texts_of}
use Rattle.std.proofs.lemmas.List.Splits.{length-slice_split}
use Rattle.network.proofs.reading.candidate_of.Goals as goal

pub relation_by-requires-clause-some : goal.relation_by-requires-clause-some
relation_by-requires-clause-some c =
    let count = length-slice_split (λ (b : ℕ). b == 38) c.args.relation.now in
    let long : length (texts_of c.in_ok-names.names.items) ≡ length c.in_ok-names.names.items = length-map c.in_ok-names.names.items (λ (name : Bor (List ℕ)). name.now) in
    let same = ap length c.in_ok-names.ensures in
    let here = ap length c.deref.ensures.value in
    omega (arith, count, long, same, here)

pub returns-in-Some-clause-is : goal.returns-in-Some-clause-is
returns-in-Some-clause-is c = search rules

pub returns-in-Some-clause-fresh : goal.returns-in-Some-clause-fresh
returns-in-Some-clause-fresh c = search rules
