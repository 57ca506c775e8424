use Rattle.rel_formula.proofs.Prelude.{◌≡◌, ◌+◌, ◌+ℤ◌, ℤ, pos, List, length, get_or, w64, SFits, rules, ap, ◌∙◌, to_z-of_z}
use Rattle.rel_formula.proofs.Rows.{batch_of}
use Rattle.rel_formula.proofs.tables.batch_from.Goals as goal

pub returns : goal.returns
returns c = λ k h.
    let shown : List ℤ = c.args.shown.now in
    let len : length shown ≡ 4 = search rules in
    let first : SFits w64 (get_or shown 0 (pos 0)) = search rules in
    let second : SFits w64 (get_or shown 1 (pos 0)) = search rules in
    let third : SFits w64 (get_or shown 2 (pos 0)) = search rules in
    let fourth : SFits w64 (get_or shown 3 (pos 0)) = search rules in
    batch_of shown c.args.last k c.repeated.result c.repeated-2.result c.repeated-3.result c.repeated-4.result c.counted.result (c.args.lo +ℤ pos (c.args.first + k)) len
    (c.repeated.ensures k h ∙ to_z-of_z w64 _ first) (c.repeated-2.ensures k h ∙ to_z-of_z w64 _ second) (c.repeated-3.ensures k h ∙ to_z-of_z w64 _ third) (c.repeated-4.ensures k h ∙ to_z-of_z w64 _ fourth)
    (c.counted.ensures k h ∙ ap (λ y. y +ℤ pos (c.args.first + k)) (to_z-of_z w64 c.args.lo c.ranges.lo))
