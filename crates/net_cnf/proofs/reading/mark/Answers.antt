use Rattle.net_cnf.proofs.Prelude.{ℕ, ◌-◌, ◌<◌, ◌≤◌, true, false, length, get_or, refl, arith, get_or_default}
use Rattle.net_cnf.proofs.Marking.{marked_more}
use Rattle.net_cnf.proofs.reading.mark.Goals as goal

inside : (number long : ℕ) → 0 < number → number ≤ long → number - 1 < long
inside number long some known = omega arith

pub returns-then-literal : goal.returns-then-literal
returns-then-literal c = λ literals marked. marked_more literals c.args.literal true c.args.signs.now (c.args.literal.number - 1) (get_or c.args.signs.now (c.args.literal.number - 1) (record { positive = false; negative = false })) _ c.if-literal.true
    (let some = c.requires.some in omega (arith, some)) (inside c.args.literal.number (length c.args.signs.now) c.requires.some c.requires.known)
    (get_or_default c.args.signs.now (c.args.literal.number - 1) _ (record { positive = false; negative = false }) (inside c.args.literal.number (length c.args.signs.now) c.requires.some c.requires.known)) refl marked

pub returns-else-literal : goal.returns-else-literal
returns-else-literal c = λ literals marked. marked_more literals c.args.literal false c.args.signs.now (c.args.literal.number - 1) (get_or c.args.signs.now (c.args.literal.number - 1) (record { positive = false; negative = false })) _ c.if-literal.false
    (let some = c.requires.some in omega (arith, some)) (inside c.args.literal.number (length c.args.signs.now) c.requires.some c.requires.known)
    (get_or_default c.args.signs.now (c.args.literal.number - 1) _ (record { positive = false; negative = false }) (inside c.args.literal.number (length c.args.signs.now) c.requires.some c.requires.known)) refl marked
