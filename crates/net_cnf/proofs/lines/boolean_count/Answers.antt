use Rattle.net_cnf.proofs.Prelude.{◌*◌, ◌≤◌, length, ap, ◌∙◌, arith, flat_map, mul-le-mul, numbers, booleans_of}
use Rattle.net_cnf.proofs.lines.boolean_count.Goals as goal

pub returns-clause-count : goal.returns-clause-count
returns-clause-count c = c.booleans_before.ensures.is ∙ ap (λ n. length (flat_map (booleans_of c.args.lang.now) (numbers n))) c.n.ensures.is

pub returns-clause-few : goal.returns-clause-few
returns-clause-few c =
    let lawful = c.n.ensures.lawful in
    let is = c.n.ensures.is in
    let most : c.n.result * c.args.lang.now.value_count ≤ 128 * 64 = mul-le-mul (let e : c.n.result ≤ 128 = (let few = lawful.few_variables in omega (arith, few, is)) in e) lawful.few_values in
    let few = c.booleans_before.ensures.few in
    omega (arith, most, few)
