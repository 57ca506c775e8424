use Rattle.assign.proofs.Prelude.{ap, sym, ◌∙◌, ◌<◌, length, length-seen, arith, refl, set, Option, None, ℕ, List, false}
use Rattle.assign.proofs.CellLemmas.{is_without, changed_cells, changed_seen}
use Rattle.assign.proofs.assignment.Partial.clear.Goals as goal

pub without-self-inside-requires : goal.without-self-inside-requires
without-self-inside-requires c = let lt : c.args.v < length c.args.self.now = c.requires in let f = c.self.invariant.fits in omega (arith, ap length (sym c.self.view_is), length-seen c.self.inside)

pub bounds-self-inside-v : goal.bounds-self-inside-v
bounds-self-inside-v c = let lt : c.args.v < length c.args.self.now = c.requires in let f = c.self.invariant.fits in omega (arith, ap length (sym c.self.view_is), length-seen c.self.inside)

pub invariant_of-self : goal.invariant_of-self
invariant_of-self c =
    let lt : c.args.v < length c.args.self.now = c.requires in
    let within : c.args.v < c.self.inside.n = omega (arith, ap length (sym c.self.view_is), length-seen c.self.inside) in
    changed_cells c.self.inside c.args.v 0 false _ c.self.invariant (is_without c.self.inside c.args.v _ c.self.invariant within c.without-self-inside.ensures) (λ no. refl)

pub returns : goal.returns
returns c =
    let lt : c.args.v < length c.args.self.now = c.requires in
    let within : c.args.v < c.self.inside.n = omega (arith, ap length (sym c.self.view_is), length-seen c.self.inside) in
    changed_seen c.self.inside c.args.v 0 false _ c.self.invariant (is_without c.self.inside c.args.v _ c.self.invariant within c.without-self-inside.ensures)
    ∙ ap (λ (xs : List (Option ℕ)). set xs c.args.v (None)) c.self.view_is
