use Rattle.propagators.proofs.Prelude.{◌≡◌, ◌<◌, ◌*◌, ◌^◌, ◌∙◌, ℕ, ap, sym, length, arith, get_or-take, length-take, has, ones_of}
use Rattle.propagators.proofs.Sweeping.{power_one, power_three, power_four}
use Rattle.propagators.proofs.supports.supported.Goals as goal

pub in_one-requires-clause-fits : goal.in_one-requires-clause-fits
in_one-requires-clause-fits c =
    let d : ℕ = c.args.table.now.value_count in
    let long : length c.args.table.now.truth ≡ d = c.arity.ensures.lawful.each ∙ ap (λ a. d ^ a) (sym c.arity.ensures.is ∙ c.in-1.is) ∙ power_one d in
    omega arith

pub in_three-found-requires-clause-fits : goal.in_three-found-requires-clause-fits
in_three-found-requires-clause-fits c =
    let d : ℕ = c.args.table.now.value_count in
    let long : length c.args.table.now.truth ≡ d * (d * d) = c.arity.ensures.lawful.each ∙ ap (λ a. d ^ a) (sym c.arity.ensures.is ∙ c.in-3.is) ∙ power_three d in
    omega arith

pub in_three-found-requires-clause-second : goal.in_three-found-requires-clause-second
in_three-found-requires-clause-second c = λ x h. (
    let is = c.arity.ensures.is in
    let three = c.in-3.is in
    let low : 1 < c.args.table.now.arity = omega arith in
    let four = c.told-sets in
    c.requires.sets 1 0 (omega (arith, length-take {A = ℕ} c.args.table.now.arity c.args.sets.now)) x (ap (λ m. has (ones_of m) x) (get_or-take c.args.table.now.arity c.args.sets.now 1 0 low) ∙ h))

pub in_four-found-requires-clause-fits : goal.in_four-found-requires-clause-fits
in_four-found-requires-clause-fits c =
    let d : ℕ = c.args.table.now.value_count in
    let some = c.arity.ensures.lawful.some in
    let few = c.arity.ensures.lawful.few in
    let is = c.arity.ensures.is in
    let four : c.args.table.now.arity ≡ 4 = omega arith in
    let long : length c.args.table.now.truth ≡ d * (d * (d * d)) = c.arity.ensures.lawful.each ∙ ap (λ a. d ^ a) four ∙ power_four d in
    omega arith
