-- A formula's truths, place by place.
use Rattle.std.specs.Prelude.{◌≡◌, ℕ, ◌<◌, Bool, false, List, take, ℤ}
use Rattle.rel_table.specs.Relation.{tuple_at}
use Rattle.rel_formula.specs.Formula.{Truth, is_too_big, shown_tuple, relation_from_formula}

-- these are the truths before a place, and no part leaves 64 bits there
pub record AreTruthsTo (f : Truth) (arity : ℕ) (lo : ℤ) (d place : ℕ) (truths : List Bool) :
    Type 0 where
  pub truth : truths ≡ take place (relation_from_formula f arity lo d)
  pub fits : (k : ℕ) → k < place → is_too_big (shown_tuple lo (tuple_at d arity k)) f ≡ false
