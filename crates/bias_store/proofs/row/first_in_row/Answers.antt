use Rattle.bias_store.proofs.Prelude.{◌≡◌, ◌+◌, arith, IsLeftFrom, subst, ap, ℕ}
use Rattle.bias_store.proofs.InRow.{word_passes, word_within, word_asked}
use Rattle.bias_store.proofs.row.first_in_row.Goals as goal

told : (c : goal.After-word_from) → IsLeftFrom c.args.left.now (c.args.first + c.loop-from.from) c.min-count.result c.word.result
told c = subst (λ (s : ℕ). IsLeftFrom c.args.left.now (s + c.loop-from.from) c.min-count.result c.word.result) c.from.ensures c.word.ensures

pub first_in_word-requires-clause-word : goal.first_in_word-requires-clause-word
first_in_word-requires-clause-word c = λ j on. word_within c.args.left.now (c.args.first + c.loop-from.from) c.min-count.result c.word.result c.word_from.result j (told c) on

pub first_in_word-requires-clause-asked : goal.first_in_word-requires-clause-asked
first_in_word-requires-clause-asked c = λ j on.
    let low = word_within c.args.left.now (c.args.first + c.loop-from.from) c.min-count.result c.word.result c.word_from.result j (told c) on in
    word_asked c.args.q.now c.args.shown c.args.second c.loop-from.from c.word.result c.word_from.result j c.requires.shown (omega arith) (let fits = c.requires.variables in omega arith) c.word_from.ensures on

pub first_in_word-requires-clause-none : goal.first_in_word-requires-clause-none
first_in_word-requires-clause-none c =
    word_passes c.args.q.now c.args.relations.now c.args.accepting.now c.args.left.now c.args.shown c.args.first c.args.second c.loop-from.from c.min-count.result c.word.result c.word_from.result c.requires.shown c.requires.row (omega arith)
    c.requires.variables (omega arith) (told c) c.word_from.ensures c.loop-from.invariant.none
