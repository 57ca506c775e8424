use Rattle.language.proofs.Prelude.{◌≡◌, ℕ, ◌+◌, ◌*◌, ◌<◌, ◌≤◌, Bool, false, get_or, ◌∙◌, ap, arith, length-set, go_together}
use Rattle.language.proofs.PairMasking.{masks_more, outside_more}
use Rattle.language.proofs.masks.write_masks.Goals as goal

pub loop-x-preserved : goal.loop-x-preserved
loop-x-preserved c =
    let d : ℕ = c.args.table.now.value_count in
    let together : ℕ → ℕ → Bool = go_together d c.args.table.now.truth in
    let at : ℕ = c.args.at in
    let x : ℕ = c.loop-x.x in
    let small : d ≤ 64 = c.value_count-d.ensures.lawful.small in
    let low : x < 64 = omega (arith, small, c.value_count-d.ensures.is) in
    let row_place : at + c.from-in-loop-x-2.result ≡ at + x = ap (λ n. at + n) c.from-in-loop-x-2.ensures in
    let column_place : at + c.from-in-loop-x-3.result ≡ at + x = ap (λ n. at + n) c.from-in-loop-x-3.ensures in
    let place : c.from.result * c.from-in-loop-x.result ≡ x * d = λ i. c.from.ensures i * (c.from-in-loop-x.ensures ∙ c.value_count-d.ensures.is) i in
    record {
      rows_long = length-set c.loop-x.rows (at + c.from-in-loop-x-2.result) c.row.result ∙ c.loop-x.invariant.rows_long;
      columns_long = length-set c.loop-x.columns (at + c.from-in-loop-x-3.result) c.column.result ∙ c.loop-x.invariant.columns_long;
      rows = masks_more d together c.loop-x.rows at x c.row.result _ row_place (omega arith)
          (λ y few. c.row.ensures y few ∙ ap (λ p. get_or c.args.table.now.truth (p + y) false) place) c.loop-x.invariant.rows;
      columns = masks_more d (λ b a. together a b) c.loop-x.columns at x c.column.result _ column_place (omega arith) c.column.ensures c.loop-x.invariant.columns;
      other_rows = outside_more c.args.rows.now c.loop-x.rows at x c.row.result _ row_place low c.loop-x.invariant.other_rows;
      other_columns = outside_more c.args.columns.now c.loop-x.columns at x c.column.result _ column_place low c.loop-x.invariant.other_columns;
    }
