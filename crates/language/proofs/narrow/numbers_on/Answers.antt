use Rattle.language.proofs.Prelude.{sym, subst, ◌∙◌, map, given_by, AreChosen}
use Rattle.language.proofs.Within.{wholes_from}
use Rattle.language.proofs.Chosen.{chosen_whole}
use Rattle.language.proofs.PairOrders.{chosen_pairs}
use Rattle.language.proofs.narrow.numbers_on.Goals as goal

pub returns-then-are_whole : goal.returns-then-are_whole
returns-then-are_whole c =
    subst (AreChosen c.args.ranges.now c.args.d (map given_by c.args.rels.now) c.args.tables.now c.args.scope.now) (sym c.in_ok-all_numbers.ensures)
    (chosen_whole c.args.ranges.now c.args.d (map given_by c.args.rels.now) c.args.tables.now c.args.scope.now
    (wholes_from c.args.ranges.now c.args.d c.args.scope.now c.requires.ranges.some_value (sym c.are_whole.ensures ∙ c.if-are_whole.true)) c.requires.closed)

pub returns-then-scope-eq2 : goal.returns-then-scope-eq2
returns-then-scope-eq2 c =
    chosen_pairs c.args.ranges.now c.args.d c.args.scope.now (map given_by c.args.rels.now) c.args.tables.now c.in_ok-pair_numbers.field-0.items c.requires.closed
    c.in_ok-pair_numbers.ensures.known c.in_ok-pair_numbers.ensures.few c.in_ok-pair_numbers.ensures.order
