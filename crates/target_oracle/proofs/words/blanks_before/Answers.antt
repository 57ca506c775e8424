use Rattle.target_oracle.proofs.Prelude.{◌≡◌, List, ℕ, ◌∙◌, arith, rules, tests, prefix_len-le-length, prefix_len, is_blank}
use Rattle.std.proofs.lemmas.Iterator.{YieldsList-from_slice}
use Rattle.std.proofs.lemmas.Iterator.Consumers.{count_from_yields_List}
use Rattle.std.proofs.lemmas.Iterator.Search.{YieldsList-from_take_while}
use Rattle.std.proofs.lemmas.List.Folds.{length-prefix_len}
use Rattle.target_oracle.proofs.words.blanks_before.Goals as goal

pub returns : goal.returns
returns c =
    let s : List ℕ = c.args.line.now in
    let count : c.count.result ≡ prefix_len is_blank s =
    count_from_yields_List c.take_while.result _ c.count.ensures.ran (YieldsList-from_take_while _ is_blank (YieldsList-from_slice s cc) c.take_while.ensures.closure c.take_while.ensures.done (λ x b q k. search (rules, tests))) ∙ length-prefix_len is_blank s in
    record { count = count; fits = omega (arith, count, prefix_len-le-length is_blank s) }
