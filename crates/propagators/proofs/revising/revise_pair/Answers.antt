use Rattle.propagators.proofs.Prelude.{◌∙◌, [], ◌∷◌, refl, sym, arith, not-true, ones_of, by_pair, arc_by, not-false}
use Rattle.propagators.proofs.ByMasks.{on_two, two_below, two_within, pair_revised, pair_dead}
use Rattle.propagators.proofs.revising.revise_pair.Goals as goal

pub returns-then-is_empty-clause-dead : goal.returns-then-is_empty-clause-dead
returns-then-is_empty-clause-dead c = λ e pairs are bounded below.
    (let two = two_below c.args.lang.now.value_count c.on-sets.result c.args.doms.now c.args.pair.first c.args.pair.second c.on-sets.ensures below in
    pair_dead (arc_by c.args.lang.now pairs c.args.pair) c.args.pair c.args.doms.now c.in_pair-found.result.0 c.in_pair-found.result.1 refl c.requires.apart c.requires.first c.requires.second
    (on_two c.on-sets.result c.args.doms.now c.args.pair.first c.args.pair.second (by_pair c.args.lang.now pairs c.args.pair) (ones_of c.in_pair-found.result.0 ∷ ones_of c.in_pair-found.result.1 ∷ []) c.on-sets.ensures
    (c.in_pair-found.ensures.supported pairs are bounded (two 0 (omega arith)) (two 1 (omega arith))))
    (not-true _ (sym c.is_empty.ensures ∙ c.if-is_empty.true)))

pub cut_all-requires-clause-within : goal.cut_all-requires-clause-within
cut_all-requires-clause-within c = two_within c.on-sets.result c.args.doms.now c.args.pair.first c.args.pair.second c.in_pair-found.result.0 c.in_pair-found.result.1 c.on-sets.ensures c.in_pair-found.ensures.first c.in_pair-found.ensures.last

pub returns-clause-revised : goal.returns-clause-revised
returns-clause-revised c = λ pairs are bounded below.
    (let two = two_below c.args.lang.now.value_count c.on-sets.result c.args.doms.now c.args.pair.first c.args.pair.second c.on-sets.ensures below in
    pair_revised (arc_by c.args.lang.now pairs c.args.pair) c.args.pair c.args.doms.now c.in_pair-found.result.0 c.in_pair-found.result.1 refl c.requires.apart c.requires.first c.requires.second
    (on_two c.on-sets.result c.args.doms.now c.args.pair.first c.args.pair.second (by_pair c.args.lang.now pairs c.args.pair) (ones_of c.in_pair-found.result.0 ∷ ones_of c.in_pair-found.result.1 ∷ []) c.on-sets.ensures
    (c.in_pair-found.ensures.supported pairs are bounded (two 0 (omega arith)) (two 1 (omega arith))))
    (not-false _ (sym c.is_empty.ensures ∙ c.if-is_empty.false)) c.cut_all.new.doms c.cut_all.ensures.is)
