use Rattle.propagators.proofs.Prelude.{refl, subst, Option, ℕ, IfSome, IsValueOf}
use Rattle.propagators.proofs.Replacing.{all_full}
use Rattle.propagators.proofs.looks.beside.Goals as goal

pub returns-in-Some-beside_value-clause-beside : goal.returns-in-Some-beside_value-clause-beside
returns-in-Some-beside_value-clause-beside c = λ pairs are below.
    let is : IsValueOf c.args.doms.now c.args.v c.in-Some.x = subst (λ (o : Option ℕ). IfSome o (IsValueOf c.args.doms.now c.args.v)) c.in-Some.is c.requires.value in
    c.in-Some-beside_value.ensures.beside c.args.doms.now pairs are is.only (below c.args.v c.in-Some.x is.only.there)

pub returns-clause-two : goal.returns-clause-two
returns-clause-two c = λ e. (
  c.in_default-only.ensures.two refl (all_full c.args.doms.now c.requires.full c.args.pair.first c.requires.first),
  c.in_default-only-2.ensures.two refl (all_full c.args.doms.now c.requires.full c.args.pair.second c.requires.second),
)
