use Rattle.voc_read.proofs.Prelude.{arith, ◌≡◌, ◌++◌, ◌∷◌, [], None, drop, get_or, sym, ◌∙◌, repeat_after, texts_of}
use Rattle.voc_read.proofs.Repeats.{goes_on, is_no_repeat}
use Rattle.voc_read.proofs.names.index_names.Goals as goal

pub loop-name-preserved : goal.loop-name-preserved
loop-name-preserved c =
    let names = c.args.names.now in
    let j = c.loop-name.name-index in
    let name = get_or names j record { ref_ptr = (0, 0); now = [] } in
    let none : repeat_after (texts_of c.loop-name.numbers.keys) (drop j (texts_of names)) ≡ None = sym c.loop-name.invariant.rest ∙ c.requires.apart in
    let new = is_no_repeat c.loop-name.numbers.keys names j record { ref_ptr = (0, 0); now = [] } c.loop-name-test.true c.loop-name.invariant.seen none in
    let keys = c.in_ok-insert.ensures.keys in
    let keys_are : c.insert.new.self.keys ≡ c.loop-name.numbers.keys ++ name ∷ [] = grind (arith, keys, new) in
    let step = goes_on c.loop-name.numbers.keys names j record { ref_ptr = (0, 0); now = [] } c.loop-name-test.true c.loop-name.invariant.seen new in
    rw keys_are (record { seen = step.0; rest = c.loop-name.invariant.rest ∙ step.1 })
