use Rattle.rel_table.proofs.Prelude.{◌≡◌, ◌≤◌, ◌∷◌, ◌∙◌, ap, subst, sym, take, drop, length, arith, All, Contains, length-insert, All-append, All-cons, All-drop, All-take, TruthTable, relations_in, IsOfKind}
use Rattle.rel_table.proofs.Inserting.{meet_itself, stays, put_in, one_too_many}
use Rattle.rel_table.proofs.closing.with_relation.Goals as goal

pub returns-in_default-clause-order : goal.returns-in_default-clause-order
returns-in_default-clause-order c = λ relations order.
    stays relations (relations_in c.args.ordered.items) c.args.table.now.truth order
    (subst (λ xs. Contains (relations_in xs) c.args.table.now.truth) c.deref.ensures.value (c.place_among.ensures.there c.in_default.is))

pub returns-then-len-eq-MOST_RELATIONS-clause-many : goal.returns-then-len-eq-MOST_RELATIONS-clause-many
returns-then-len-eq-MOST_RELATIONS-clause-many c = λ told relations order.
    let ok = c.args.ordered.ok in
    let full : length c.args.ordered.items ≡ 64 = omega (arith, ok, c.len.ensures, c.if-len-eq-MOST_RELATIONS.true) in
    one_too_many relations c.deref.result.now c.args.ordered.items c.args.table.now.truth c.in-Some.at c.deref.ensures.value order full
    c.in-Some.ensures.within c.in-Some.ensures.before c.in-Some.ensures.after

pub returns-clause-order : goal.returns-clause-order
returns-clause-order c = λ relations order.
    put_in relations c.deref.result.now c.args.ordered.items c.insert.new.self.items c.args.table.now.truth c.in-Some.at c.in_ok-copy.copy c.deref.ensures.value order
    c.in_ok-insert.ensures.items c.in_ok-copy.ensures.truth c.in-Some.ensures.within c.in-Some.ensures.before c.in-Some.ensures.after

pub returns-clause-kinds : goal.returns-clause-kinds
returns-clause-kinds c =
    let K : TruthTable → Type 0 = IsOfKind c.args.table.now.arity c.args.table.now.value_count in
    let ordered = c.args.ordered.items in
    let at = c.in-Some.at in
    let copy : TruthTable = c.in_ok-copy.copy in
    let kind : K copy = record {
      long = c.in_ok-copy.ensures.arity;
      values = c.in_ok-copy.ensures.values;
      size = ap length (c.in_ok-copy.ensures.truth ∙ meet_itself c.args.table.now.truth) ∙ c.place_among.ensures.lawful.each;
    } in
    subst (All K) (sym c.in_ok-insert.ensures.items)
    (All-append K (take at ordered) (copy ∷ drop at ordered) (All-take K at ordered c.requires.kinds) (All-cons K copy (drop at ordered) kind (All-drop K at ordered c.requires.kinds)))

pub returns-clause-few : goal.returns-clause-few
returns-clause-few c =
    let ordered = c.args.ordered.items in
    let within : c.in-Some.at ≤ length ordered = subst (λ xs. c.in-Some.at ≤ length xs) c.deref.ensures.value c.in-Some.ensures.within in
    omega (arith, length-insert ordered c.in-Some.at c.in_ok-copy.copy within, ap length c.in_ok-insert.ensures.items)
