use Rattle.voc_read.proofs.Prelude.{◌≡◌, ℤ, pos, to_z, of_z, w64, SFits, rules, subst, ◌∙◌, to_z-of_z, IsMade, lists}
use Rattle.voc_read.proofs.TablesRead.{table-made}
use Rattle.voc_read.proofs.rules.table_of_tuples.Goals as goal

pub returns-in-Ok-clause-is : goal.returns-in-Ok-clause-is
returns-in-Ok-clause-is c =
    let P : ℤ → ℤ → Type 0 = λ arity lo. IsMade arity lo c.args.domain.value_count (lists c.args.tuples.now) c.in-Ok.table in
    let low_fits : SFits w64 c.args.domain.least_value = search rules in
    let long_fits : SFits w64 c.from.result = search rules in
    let long : to_z w64 (of_z w64 c.from.result) ≡ pos c.args.arity = to_z-of_z w64 c.from.result long_fits ∙ c.from.ensures in
    let made_long = subst (λ arity. P arity (to_z w64 (of_z w64 c.args.domain.least_value))) long c.in-Ok.ensures.made in
    let made = subst (P (pos c.args.arity)) (to_z-of_z w64 c.args.domain.least_value low_fits) made_long in
    (table-made c.args.i c.args.arity _ _ _ _ c.requires.some c.requires.short c.requires.fits made c.size-size.ensures.lawful).2
