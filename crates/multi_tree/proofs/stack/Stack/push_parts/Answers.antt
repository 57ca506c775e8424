use Rattle.multi_tree.proofs.Prelude.{ℕ, ◌-◌, ◌≤◌, List, length, drop, get_or, sym, subst, arith, length-drop, length-map, without, parts_without, FitsOn}
use Rattle.multi_tree.proofs.Rooms.{part_fits}
use Rattle.multi_tree.proofs.stack.Stack.push_parts.Goals as goal

pub push-requires : goal.push-requires
push-requires c =
    let scope : List ℕ = c.args.scope.now in
    let at : ℕ = length scope - 1 - c.loop-i.i in
    let rest : List ℕ = drop (length scope - c.loop-i.i) scope in
    let v : ℕ = get_or scope at 0 in
    let short : length (parts_without c.args.set rest) ≤ 3 = omega (arith, length-map rest (λ u. without c.args.set u), length-drop (length scope - c.loop-i.i) scope, c.requires.short) in
    subst (λ s. FitsOn s c.loop-i.self) (sym c.without.ensures)
    (subst (FitsOn (without c.args.set v)) (sym c.loop-i.invariant)
    (part_fits c.args.set v c.args.self.now (parts_without c.args.set rest) c.requires.set (c.requires.known at 0 (omega arith)) (c.requires.within at 0 (omega arith)) short c.requires.room))
