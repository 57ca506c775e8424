use Rattle.find_c.proofs.Prelude.{ℕ, sym, ◌∙◌, ap, get_or-tuples, take}
use Rattle.rel_table.specs.Relation.{tuple_at}
use Rattle.find_c.proofs.tuples.Tuple.at.Goals as goal

pub returns-then-size-eq2 : goal.returns-then-size-eq2
returns-then-size-eq2 c =
    ap (λ (k : ℕ). take k c.pair_at.result) c.if-size-eq2.true ∙ c.pair_at.ensures ∙ ap (λ (k : ℕ). tuple_at c.args.value_count k c.args.place) (sym c.if-size-eq2.true)
    ∙ sym (get_or-tuples c.args.value_count c.args.size c.args.place c.requires.place)

pub returns : goal.returns
returns c = c.tuple_of.ensures.values ∙ sym (get_or-tuples c.args.value_count c.args.size c.args.place c.requires.place)
