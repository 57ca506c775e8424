use Rattle.language.proofs.Prelude.{◌≡◌, ℕ, ◌<◌, List, [], get_or, length, sym, ◌∙◌, ap, subst, All, Contains, slice_index_or, get_or-map, take_all, All-push, Relation, TruthTable, truths}
use Rattle.language.proofs.Filled.{filled_more}
use Rattle.language.proofs.narrow.numbers_among.Goals as goal

pub number_among-requires-clause-there : goal.number_among-requires-clause-there
number_among-requires-clause-there c =
    subst (Contains c.args.tables.now) (sym c.table-item.is) (c.requires.there c.loop-table.table-index c.table-item.result c.loop-table-test.true)

pub loop-table-preserved : goal.loop-table-preserved
loop-table-preserved c =
    let tables : List TruthTable = c.args.tables.now in
    let k : ℕ = c.number_among.result in
    let Known : ℕ → Type 0 = λ n. n < length tables in
    let relation : ℕ → Relation = λ n. slice_index_or (truths tables) n [] in
    let truth : TruthTable → Relation = λ t. t.truth in
    let here : relation k ≡ truth (get_or c.args.chosen.now c.loop-table.table-index c.table-item.result) =
    get_or-map truth tables k c.table-item.result [] c.number_among.ensures.below ∙ ap truth (c.number_among.ensures.is ∙ c.table-item.is) in
    record {
      below = subst (All Known) (sym {A = List ℕ} c.in_ok-push.ensures.items) (All-push Known c.loop-table.numbers.items k c.loop-table.invariant.below c.number_among.ensures.below);
      are = filled_more relation truth c.loop-table.numbers.items _ k c.args.chosen.now c.loop-table.table-index c.table-item.result c.in_ok-push.ensures.items c.loop-table-test.true c.loop-table.invariant.are here;
    }

pub returns-clause-are : goal.returns-clause-are
returns-clause-are c = c.loop-table.invariant.are ∙ ap truths (take_all c.loop-table.table-index c.args.chosen.now c.loop-table-test.false)
