use Rattle.net_cnf.proofs.Prelude.{◌≡◌, List, Some, None, length, sym, ◌∙◌, ap, subst, arith, option_map, err_from_is_err_and, Assignment, AreNamed, AreOnes, positive_signs, boolean_count, both_named, literals_of, not_one, bad_token, tokens, BadToken, NotOne, Signs}
use Rattle.net_cnf.proofs.Modelled.{bad_model, long_model, named_long, named_marked, not_one_model, read_model, reads_models, twice_model, violating_model}
use Rattle.net_cnf.proofs.reading.read_model.Goals as goal
use Rattle.net_cnf.proofs.reading.read_model.Goals.{After-deref, In_default, After-deref-2, After-branch-e}

pub returns-then-bytes-clause-is : goal.returns-then-bytes-clause-is
returns-then-bytes-clause-is c = λ known. long_model c.args.lang.now c.args.net.now.list c.args.bytes.now c.if-bytes.true

pub returns-in_err-signs-clause-is : goal.returns-in_err-signs-clause-is
returns-in_err-signs-clause-is c =
    let p = err_from_is_err_and c.from_residual.result c.from_residual.ensures.1 in
    let count : c.boolean_count.result ≡ boolean_count c.args.lang.now = c.boolean_count.ensures.count in
    rw (p.1, p.2) (λ known. bad_model c.args.lang.now c.args.net.now.list c.args.bytes.now c.in_err-signs.field-0.0 c.if-bytes.false
    (subst (λ n. option_map BadToken (bad_token n (tokens c.args.bytes.now)) ≡ Some c.in_err-signs.field-0.0) count (c.in_err-signs.ensures known)))

-- the signs are those of the literals
named_so : (c : After-deref) → AreNamed (boolean_count c.args.lang.now) (tokens c.args.bytes.now) c.deref.result.now
named_so c =
    subst (AreNamed (boolean_count c.args.lang.now) (tokens c.args.bytes.now)) (sym c.deref.ensures.value)
    (subst (λ n. AreNamed n (tokens c.args.bytes.now) c.in_ok-signs.signs.items) c.boolean_count.ensures.count c.in_ok-signs.ensures)

pub twice-requires : goal.twice-requires
twice-requires c =
    let n = named_so (goal.at.twice-requires c).After-deref in
    let long = named_long c.args.lang.now c.args.net.now.list c.args.bytes.now c.deref.result.now c.if-bytes.false n in
    let few = c.boolean_count.ensures.few in
    let count = c.boolean_count.ensures.count in
    omega (arith, long, few, count)

pub returns-in-Some-clause-is : goal.returns-in-Some-clause-is
returns-in-Some-clause-is c =
    let n = named_so (goal.at.returns-in-Some-clause-is c).After-deref in
    let l = c.args.lang.now in
    let network = c.args.net.now.list in
    let bytes = c.args.bytes.now in
    let short = c.if-bytes.false in
    let marked = named_marked l network bytes c.deref.result.now short n in
    λ known. twice_model l network bytes c.deref.result.now short n c.in-Some.number (sym (c.in-Some.ensures (literals_of l bytes) marked))

none_twice : (c : In_default) → AreNamed (boolean_count c.args.lang.now) (tokens c.args.bytes.now) c.deref.result.now → both_named (length c.deref.result.now) (literals_of c.args.lang.now c.args.bytes.now) ≡ None
none_twice c n =
    let l = c.args.lang.now in
    let marked = named_marked l c.args.net.now.list c.args.bytes.now c.deref.result.now c.if-bytes.false n in
    sym (c.twice.ensures (literals_of l c.args.bytes.now) marked) ∙ c.in_default.is

-- the same signs are read twice
same : (c : After-deref-2) → c.deref-2.result.now ≡ c.deref.result.now
same c = c.deref-2.ensures.value ∙ sym c.deref.ensures.value

pub assignment_of-requires : goal.assignment_of-requires
assignment_of-requires c =
    let at = goal.at.assignment_of-requires c in
    ap length (same at.After-deref-2) ∙ named_long c.args.lang.now c.args.net.now.list c.args.bytes.now c.deref.result.now c.if-bytes.false (named_so at.After-deref)

pub returns-in_err-e-clause-is : goal.returns-in_err-e-clause-is
returns-in_err-e-clause-is c =
    let at = goal.at.returns-in_err-e-clause-is c in
    let n = named_so at.After-deref in
    let l = c.args.lang.now in
    let p = err_from_is_err_and c.from_residual-in_err-e.result c.from_residual-in_err-e.ensures.1 in
    let missing : option_map NotOne (not_one l (positive_signs c.deref.result.now)) ≡ Some c.in_err-e.field-0.0 =
    ap (λ (signs : List Signs). option_map NotOne (not_one l (positive_signs signs))) (sym (same at.After-deref-2)) ∙ c.in_err-e.ensures.is in
    rw (p.1, p.2) (λ known. not_one_model l c.args.net.now.list c.args.bytes.now c.deref.result.now c.if-bytes.false n (none_twice at.In_default n) c.in_err-e.field-0.0 missing)

ones : (c : After-branch-e) (e : Assignment) → c.deref-2.result.now ≡ c.deref.result.now → AreOnes c.args.lang.now (positive_signs c.deref-2.result.now) e → AreOnes c.args.lang.now (positive_signs c.deref.result.now) e
ones c e again h = subst (λ (signs : List Signs). AreOnes c.args.lang.now (positive_signs signs) e) again h

pub returns-in-None-clause-is : goal.returns-in-None-clause-is
returns-in-None-clause-is c =
    let at = goal.at.returns-in-None-clause-is c in
    let n = named_so at.After-deref in
    read_model c.args.lang.now c.args.net.now.list c.args.bytes.now c.deref.result.now c.if-bytes.false n c.in_ok-e.e (none_twice at.In_default n)
    (ones at.After-branch-e c.in_ok-e.e (same at.After-deref-2) c.in_ok-e.ensures.is) (sym c.violated.ensures ∙ c.in-None.is)

pub returns-in-None-clause-model : goal.returns-in-None-clause-model
returns-in-None-clause-model c =
    let at = goal.at.returns-in-None-clause-model c in
    let n = named_so at.After-deref in
    let read = read_model c.args.lang.now c.args.net.now.list c.args.bytes.now c.deref.result.now c.if-bytes.false n c.in_ok-e.e (none_twice at.In_default n)
    (ones at.After-branch-e c.in_ok-e.e (same at.After-deref-2) c.in_ok-e.ensures.is) (sym c.violated.ensures ∙ c.in-None.is) in
    (reads_models c.args.lang.now c.args.net.now.list c.args.bytes.now c.in_ok-e.e).1 read

pub returns-clause-is : goal.returns-clause-is
returns-clause-is c =
    let at = goal.at.returns-clause-is c in
    let n = named_so at.After-deref in
    λ known. violating_model c.args.lang.now c.args.net.now.list c.args.bytes.now c.deref.result.now c.if-bytes.false n c.in_ok-e.e c.in-Some-violated.i (none_twice at.In_default n)
    (ones at.After-branch-e c.in_ok-e.e (same at.After-deref-2) c.in_ok-e.ensures.is) (sym c.violated.ensures ∙ c.in-Some-violated.is)
