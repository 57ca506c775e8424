use Rattle.bias_store.proofs.Prelude.{[], arith}
use Rattle.bias_store.proofs.tables.Made.new_begin.Goals as goal

pub returns-clause-room : goal.returns-clause-room
returns-clause-room c =
    let small = c.requires.lawful.small c.args.s [] c.requires.scope in
    omega (arith, c.in_ok-add_masks.ensures.long, c.requires.room, small)
