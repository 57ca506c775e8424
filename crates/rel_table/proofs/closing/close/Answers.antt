use Rattle.rel_table.proofs.Prelude.{length, ap, arith, err_from_is_err_and, relations_of}
use Rattle.rel_table.proofs.Growing.{few_of, refused, lists_more, length_more, not_too_many}
use Rattle.rel_table.proofs.closing.close.Goals as goal

pub returns-in_err-list-clause-refused : goal.returns-in_err-list-clause-refused
returns-in_err-list-clause-refused g c =
    let p = err_from_is_err_and c.from_residual.result c.from_residual.ensures.1 in
    rw (p.1, p.2) (refused c.args.file.now c.loop-arity.arity _ (omega arith) (omega arith) c.in_err-list.ensures.refused c.in_err-list.ensures.many
    (λ less some low. few_of less g.d c.args.file.now _ (c.loop-arity.invariant.closed less some low)))

pub loop-arity-preserved : goal.loop-arity-preserved
loop-arity-preserved g c =
    let is = c.in_ok-lists.ensures in
    record {
      count = omega (arith, ap length is, length_more c.loop-arity.lists.items c.in_ok-list.list, c.loop-arity.invariant.count);
      closed = λ a some low. lists_more g.d c.args.file.now c.loop-arity.lists.items c.in_ok-lists.lists.items c.in_ok-list.list c.loop-arity.arity c.loop-arity.invariant.count is c.loop-arity.invariant.closed
          c.in_ok-list.ensures.closed a some low;
    }

pub returns-clause-exact : goal.returns-clause-exact
returns-clause-exact g c = λ arity some short many.
    not_too_many (relations_of arity c.args.file.now) many (few_of arity g.d c.args.file.now _ (c.loop-arity.invariant.closed arity some (omega (arith, short, c.loop-arity-test.false))))
