use Rattle.voc_read.proofs.Prelude.{arith, ◌≡◌, ◌++◌, ◌∷◌, [], true, false, get_or, sym, ◌∙◌, list_any, bytes_eq}
use Rattle.voc_read.proofs.Repeats.{repeats, goes_on, all_are_new}
use Rattle.voc_read.proofs.names.first_repeat.Goals as goal

pub returns-then-not-is_new : goal.returns-then-not-is_new
returns-then-not-is_new c =
    let name = get_or c.args.names.now c.loop-j.j record { ref_ptr = (0, 0); now = [] } in
    let added = c.in_ok-i.ensures.added in
    let found : list_any (λ key. bytes_eq name.now key.now) c.loop-j.numbers.keys ≡ true = grind (arith, added, c.if-not-is_new.true) in
    sym (c.loop-j.invariant.rest ∙ repeats c.loop-j.numbers.keys c.args.names.now c.in_ok-i.i c.loop-j.j _ c.loop-j-test.true c.loop-j.invariant.seen found c.in_ok-i.ensures.index)

pub loop-j-preserved : goal.loop-j-preserved
loop-j-preserved c =
    let name = get_or c.args.names.now c.loop-j.j record { ref_ptr = (0, 0); now = [] } in
    let added = c.in_ok-i.ensures.added in
    let keys = c.in_ok-i.ensures.keys in
    let new : list_any (λ key. bytes_eq name.now key.now) c.loop-j.numbers.keys ≡ false = grind (arith, added, c.if-not-is_new.false) in
    let keys_are : c.insert_full.new.self.keys ≡ c.loop-j.numbers.keys ++ name ∷ [] = grind (arith, keys, new) in
    let step = goes_on c.loop-j.numbers.keys c.args.names.now c.loop-j.j record { ref_ptr = (0, 0); now = [] } c.loop-j-test.true c.loop-j.invariant.seen new in
    rw keys_are (record { seen = step.0; rest = c.loop-j.invariant.rest ∙ step.1 })

pub returns : goal.returns
returns c = sym (c.loop-j.invariant.rest ∙ all_are_new c.loop-j.numbers.keys c.args.names.now c.loop-j.j c.loop-j-test.false)
