use Rattle.language.proofs.Prelude.{arith, ap, map, ℕ, List, slice_index_or, given_by}
use Rattle.language.proofs.Pascal.{few_of}
use Rattle.language.proofs.Adding.{count_of, sum_is, at_most}
use Rattle.language.proofs.choosing.count_all.Goals as goal

pub overflow_add-result : goal.overflow_add-result
overflow_add-result c =
    let few = few_of c.args.n c.choices.result c.requires c.choices.ensures.is in
    let first = at_most _ _ c.where_used.result _ few.ones c.where_used.ensures in
    let second = at_most _ _ c.where_used-2.result _ few.pairs c.where_used-2.ensures in
    omega (arith, first, second)

pub overflow_add-result-2 : goal.overflow_add-result-2
overflow_add-result-2 c =
    let few = few_of c.args.n c.choices.result c.requires c.choices.ensures.is in
    let first = at_most _ _ c.where_used.result _ few.ones c.where_used.ensures in
    let second = at_most _ _ c.where_used-2.result _ few.pairs c.where_used-2.ensures in
    let third = at_most _ _ c.where_used-3.result _ few.triples c.where_used-3.ensures in
    omega (arith, first, second, third)

pub overflow_add-result-3 : goal.overflow_add-result-3
overflow_add-result-3 c =
    let few = few_of c.args.n c.choices.result c.requires c.choices.ensures.is in
    let first = at_most _ _ c.where_used.result _ few.ones c.where_used.ensures in
    let second = at_most _ _ c.where_used-2.result _ few.pairs c.where_used-2.ensures in
    let third = at_most _ _ c.where_used-3.result _ few.triples c.where_used-3.ensures in
    let fourth = at_most _ _ c.where_used-4.result _ few.fours c.where_used-4.ensures in
    omega (arith, first, second, third, fourth)

pub returns : goal.returns
returns c =
    let given = map given_by c.args.rels.now in
    sum_is c.args.n c.where_used.result c.where_used-2.result c.where_used-3.result c.where_used-4.result given
    (count_of c.args.n 1 _ _ given (ap (λ (l : List ℕ). slice_index_or l 0 0) c.choices.ensures.is) c.where_used.ensures)
    (count_of c.args.n 2 _ _ given (ap (λ (l : List ℕ). slice_index_or l 1 0) c.choices.ensures.is) c.where_used-2.ensures)
    (count_of c.args.n 3 _ _ given (ap (λ (l : List ℕ). slice_index_or l 2 0) c.choices.ensures.is) c.where_used-3.ensures)
    (count_of c.args.n 4 _ _ given (ap (λ (l : List ℕ). slice_index_or l 3 0) c.choices.ensures.is) c.where_used-4.ensures)
