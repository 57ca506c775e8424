use Rattle.bias_store.proofs.Prelude.{sym, subst, arith}
use Rattle.bias_store.specs.Made.{HasTables, HasMasksAt}
use Rattle.bias_store.specs.declared.tables.Class.{Class}
use Rattle.bias_store.proofs.Likeness.{class_table}
use Rattle.bias_store.proofs.tables.begin_among.Goals as goal

pub returns-then-has_tables : goal.returns-then-has_tables
returns-then-has_tables c = λ masks are some.
    let l = c.args.lang.now in
    let class : Class = c.class-item.result in
    let has : HasTables l c.args.s class.tables.items = subst (HasTables l c.args.s) c.deref.ensures.value (c.has_tables.ensures c.if-has_tables.true) in
    let low = c.loop-class-test.true in
    class_table l c.requires.lawful c.args.s class.begin masks c.requires.scope c.requires.two class.tables.items has
    (subst (λ (k : Class). HasMasksAt l k.tables.items masks k.begin) (sym c.class-item.is) (are c.loop-class.class-index class (omega arith)))
