use Rattle.language.proofs.Prelude.{◌≡◌, ℕ, ◌+◌, ◌*◌, ◌++◌, ◌∷◌, List, [], length, ap, ◌∙◌, sym, subst, arith, slice_index_or, get_or-map, length-map, Relation, TruthTable, truths, ArePairMasksAt}
use Rattle.language.proofs.PairMasking.{AreFirstMasks, table_more, masks_as, written}
use Rattle.language.proofs.masks.PairMasks.of.Goals as goal

pub loop-t-preserved : goal.loop-t-preserved
loop-t-preserved c =
    let t : ℕ = c.loop-t.t in
    let d : ℕ = c.args.d in
    let tables : List TruthTable = c.args.tables.now in
    let low = c.loop-t-test.true in
    let table : TruthTable = c.index-tables-t.result in
    let values : table.value_count ≡ d = ap (λ (t : TruthTable). t.value_count) c.index-tables-t.is ∙ (c.requires.kinds t table low).values in
    let truth : table.truth ≡ slice_index_or (truths tables) t [] = ap (λ (t : TruthTable). t.truth) c.index-tables-t.is ∙ sym (get_or-map (λ (t : TruthTable). t.truth) tables t table [] low) in
    let rows = written c.write_table-bound.new.rows c.loop-t.rows.items c.loop-t.rows.len (c.write_table-bound.auto.rows ∙ c.deref_mut.ensures.len) in
    let columns = written c.write_table-bound.new.columns c.loop-t.columns.items c.loop-t.columns.len (c.write_table-bound.auto.columns ∙ c.deref_mut-in-loop-t.ensures.len) in
    let here : ArePairMasksAt d (slice_index_or (truths tables) t []) c.write_table-bound.new.rows c.write_table-bound.new.columns (64 * t) c.write_table-bound.result =
    subst (λ (n : ℕ). ArePairMasksAt n (slice_index_or (truths tables) t []) c.write_table-bound.new.rows c.write_table-bound.new.columns (64 * t) c.write_table-bound.result) values
    (subst (λ (r : Relation). ArePairMasksAt table.value_count r c.write_table-bound.new.rows c.write_table-bound.new.columns (64 * t) c.write_table-bound.result) truth c.write_table-bound.ensures.masks) in
    let first : AreFirstMasks d (truths tables) t c.deref_mut.result.now c.deref_mut-in-loop-t.result.now c.loop-t.bounds.items =
    subst (λ (xs : List ℕ). AreFirstMasks d (truths tables) t xs c.deref_mut-in-loop-t.result.now c.loop-t.bounds.items) (sym c.deref_mut.ensures.value)
    (subst (λ (ys : List ℕ). AreFirstMasks d (truths tables) t c.loop-t.rows.items ys c.loop-t.bounds.items) (sym c.deref_mut-in-loop-t.ensures.value) c.loop-t.invariant) in
    let small = c.write_table-bound.ensures.small in
    let long : length (truths tables) ≡ length tables = length-map tables (λ (t : TruthTable). t.truth) in
    let more : AreFirstMasks d (truths tables) (t + 1) c.write_table-bound.new.rows c.write_table-bound.new.columns (c.loop-t.bounds.items ++ c.write_table-bound.result ∷ []) =
    table_more d (truths tables) t c.deref_mut.result.now c.write_table-bound.new.rows c.deref_mut-in-loop-t.result.now c.write_table-bound.new.columns c.loop-t.bounds.items c.write_table-bound.result
    (omega arith) (omega arith) c.write_table-bound.auto.rows c.write_table-bound.auto.columns c.write_table-bound.ensures.other_rows c.write_table-bound.ensures.other_columns here first in
    masks_as d (truths tables) (t + 1) _ c.write_table-bound.new.rows _ c.write_table-bound.new.columns _ (c.loop-t.bounds.items ++ c.write_table-bound.result ∷ []) rows columns c.in_ok-push.ensures.items more

pub overflow_mul-tables : goal.overflow_mul-tables
overflow_mul-tables c = omega (arith, c.requires.few)

pub overflow_mul-tables-2 : goal.overflow_mul-tables-2
overflow_mul-tables-2 c = omega (arith, c.requires.few)

pub loop-t-init : goal.loop-t-init
loop-t-init c =
    let long : length (truths c.args.tables.now) ≡ length c.args.tables.now = length-map c.args.tables.now (λ (t : TruthTable). t.truth) in
    let rows : length c.in_ok-rows.rows.items ≡ 64 * length c.args.tables.now = (let is = c.in_ok-rows.ensures.len in omega arith) in
    let columns : length c.in_ok-columns.columns.items ≡ 64 * length c.args.tables.now = (let is = c.in_ok-columns.ensures.len in omega arith) in
    record {
      rows_long = rows ∙ ap (λ n. 64 * n) (sym long);
      columns_long = columns ∙ ap (λ n. 64 * n) (sym long);
      bounds_long = ap length c.in_ok-bounds.ensures.items;
      at = λ k b low. absurd (omega arith);
    }

pub write_table-bound-requires-clause-two : goal.write_table-bound-requires-clause-two
write_table-bound-requires-clause-two c = ap (λ (t : TruthTable). t.arity) c.index-tables-t.is ∙ (c.requires.kinds c.loop-t.t c.index-tables-t.result c.loop-t-test.true).long

pub write_table-bound-requires-clause-few : goal.write_table-bound-requires-clause-few
write_table-bound-requires-clause-few c = omega (arith, c.loop-t-test.true, c.requires.few)

pub write_table-bound-requires-clause-rows_fit : goal.write_table-bound-requires-clause-rows_fit
write_table-bound-requires-clause-rows_fit c =
    let long : length (truths c.args.tables.now) ≡ length c.args.tables.now = length-map c.args.tables.now (λ (t : TruthTable). t.truth) in
    let rows : length c.deref_mut.result.now ≡ 64 * length c.args.tables.now = ap length c.deref_mut.ensures.value ∙ c.loop-t.invariant.rows_long ∙ ap (λ n. 64 * n) long in
    omega (arith, rows, c.loop-t-test.true)

pub write_table-bound-requires-clause-columns_fit : goal.write_table-bound-requires-clause-columns_fit
write_table-bound-requires-clause-columns_fit c =
    let long : length (truths c.args.tables.now) ≡ length c.args.tables.now = length-map c.args.tables.now (λ (t : TruthTable). t.truth) in
    let columns : length c.deref_mut-in-loop-t.result.now ≡ 64 * length c.args.tables.now = ap length c.deref_mut-in-loop-t.ensures.value ∙ c.loop-t.invariant.columns_long ∙ ap (λ n. 64 * n) long in
    omega (arith, columns, c.loop-t-test.true)

pub returns : goal.returns
returns c =
    let long : length (truths c.args.tables.now) ≡ length c.args.tables.now = length-map c.args.tables.now (λ (t : TruthTable). t.truth) in
    let all : c.loop-t.t ≡ length c.args.tables.now = omega (arith, c.loop-t-test.false, c.loop-t.auto.t-end) in
    record {
      rows_long = c.loop-t.invariant.rows_long;
      columns_long = c.loop-t.invariant.columns_long;
      bounds_long = c.loop-t.invariant.bounds_long ∙ all ∙ sym long;
      at = λ t b low. c.loop-t.invariant.at t b (omega (arith, all, long, low));
    }
