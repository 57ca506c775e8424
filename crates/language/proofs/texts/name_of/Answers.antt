use Rattle.language.proofs.Prelude.{length, sym, ◌∙◌, ap, List, ℕ, String, string_bytes, Global, widened}
use Rattle.language.proofs.Wording.{joined_from, names_of, joined-from_none, some_names, name_written, name_left_out}
use Rattle.language.proofs.texts.name_of.Goals as goal
use Rattle.language.proofs.texts.name_of.Goals.{then-contains+in_ok-add_name, else-contains}

pub loop-part-init : goal.loop-part-init
loop-part-init c =
    let names = names_of (widened c.args.ranges.now c.args.table.now.value_count c.args.scope.now) (length c.args.scope.now) (widened c.args.ranges.now c.args.table.now.value_count c.args.scope.now c.args.table.now.truth) c.args.given.now in
    joined-from_none names (some_names (widened c.args.ranges.now c.args.table.now.value_count c.args.scope.now) (length c.args.scope.now) (widened c.args.ranges.now c.args.table.now.value_count c.args.scope.now c.args.table.now.truth) c.args.given.now c.requires.names)
    ∙ ap (λ (text : List ℕ). joined_from text names) (sym c.new-text.ensures.bytes)

pub loop-part-preserved : goal.loop-part-preserved
loop-part-preserved c =
    elim c.if-contains.branch [
      | then-contains+in_ok-add_name w ↦
          name_written (widened c.args.ranges.now c.args.table.now.value_count c.args.scope.now) (length c.args.scope.now) (widened c.args.ranges.now c.args.table.now.value_count c.args.scope.now c.args.table.now.truth) c.args.given.now c.loop-part.part-index c.part-item.result _ (string_bytes c.loop-part.text) (string_bytes c.if-contains.text)
          w.as_str.result.now c.contains.result c.loop-part-test.true c.part-item.is c.contains.ensures w.if-contains.true w.as_str.ensures.value
          (ap (λ (s : String Global). string_bytes s) w.text-is ∙ w.in_ok-add_name.ensures) c.loop-part.invariant
      | else-contains w ↦
          name_left_out (widened c.args.ranges.now c.args.table.now.value_count c.args.scope.now) (length c.args.scope.now) (widened c.args.ranges.now c.args.table.now.value_count c.args.scope.now c.args.table.now.truth) c.args.given.now c.loop-part.part-index c.part-item.result _ (string_bytes c.loop-part.text) (string_bytes c.if-contains.text)
          c.contains.result c.loop-part-test.true c.part-item.is c.contains.ensures w.if-contains.false (ap (λ (s : String Global). string_bytes s) w.text-is) c.loop-part.invariant
    ]
