use Rattle.language.proofs.Prelude.{length, ◌≡◌, drop, string_bytes, widened, joined}
use Rattle.language.proofs.Wording.{joined_from, names_of}
use Rattle.language.proofs.texts.name_of.Given as goal

abbrev pub invariant-loop-part : goal.invariant-loop-part
invariant-loop-part l =
    joined 38 (names_of (widened l.ranges l.table.value_count l.scope) (length l.scope) (widened l.ranges l.table.value_count l.scope l.table.truth) l.given) ≡ joined_from (string_bytes l.text) (names_of (widened l.ranges l.table.value_count l.scope) (length l.scope) (widened l.ranges l.table.value_count l.scope l.table.truth) (drop l.part-index l.given))
