use Rattle.find_c.proofs.Prelude.{◌≡◌, ℕ, ◌*◌, ◌^◌, ◌%◌, ◌∷◌, [], sym, ◌∙◌, ap, arith, pow-suc}
use Rattle.std.proofs.Common.{◌/◌}
use Rattle.std.proofs.Math.Nat.{div-one, pow-zero}
use Rattle.find_c.proofs.tuples.pair_at.Goals as goal

pub returns : goal.returns
returns c =
    let power : c.args.value_count ^ 1 ≡ c.args.value_count = pow-suc c.args.value_count 0 ∙ ap (λ (k : ℕ). k * c.args.value_count) (pow-zero c.args.value_count) ∙ omega arith in
    let one : c.from-d.result ≡ c.args.value_count ^ 1 = c.from-d.ensures ∙ sym power in
    (λ i. c.args.place / one i ∷ c.args.place % one i ∷ [])
    ∙ ap (λ (y : ℕ). c.args.place / c.args.value_count ^ 1 ∷ y ∷ []) (sym (ap (λ (k : ℕ). c.args.place % c.args.value_count ^ 1 / k) (pow-zero c.args.value_count) ∙ div-one (c.args.place % c.args.value_count ^ 1)))
