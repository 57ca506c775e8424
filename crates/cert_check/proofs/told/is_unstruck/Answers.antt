use Rattle.cert_check.proofs.Prelude.{◌≡◌, ◌==◌, ◌∙◌, ap, arith, slice_index_or, rules, shr_and_one}
use Rattle.cert_check.proofs.ByScope.{left_tells}
use Rattle.cert_check.proofs.told.is_unstruck.Goals as goal

pub returns-then-c-lt64 : goal.returns-then-c-lt64
returns-then-c-lt64 c = λ l t are is.
    let there : slice_index_or c.args.left.now c.args.c.scope 0 ≡ c.in-Some.relations.now = search rules in
    ap (λ x. x == 1) (shr_and_one c.in-Some.relations.now c.args.c.rel) ∙ left_tells l t c.args.left.now c.args.c c.in-Some.relations.now are is there

-- no scope has so many relations
pub returns-else-c-lt64 : goal.returns-else-c-lt64
returns-else-c-lt64 c = λ l t are is.
    let few = are.few c.args.c.scope is.scope in
    let low = is.rel in
    let far = c.if-c-lt64.false in
    absurd (omega (arith, few, low, far))
