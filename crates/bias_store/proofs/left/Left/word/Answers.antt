use Rattle.bias_store.proofs.Prelude.{◌≡◌, ℕ, List, ◌<◌, subst, bit_and, bit_not, w64, IsLeftFrom}
use Rattle.bias_store.proofs.Leaving.{left_from}
use Rattle.bias_store.proofs.left.Left.word.Goals as goal

pub returns : goal.returns
returns c =
    subst (λ (masks : List ℕ). IsLeftFrom masks c.args.from c.args.count (bit_and c.first_relations.result (bit_not w64 c.row.result))) c.self.view_is
    (left_from c.self.inside.masks.items c.self.inside.bare c.args.from c.args.count c.row.result c.first_relations.result c.requires.few c.row.type_inv c.first_relations.type_inv c.self.invariant c.first_relations.ensures c.row.ensures)
