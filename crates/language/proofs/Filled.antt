-- A list that is filled from another one, one item after another.
use Rattle.language.proofs.Prelude.{◌≡◌, ℕ, ◌+◌, ◌<◌, List, [], ◌∷◌, ◌++◌, length, get_or, map, take, sym, ◌∙◌, ap, map_more, map_push}

-- one more item says the same as the next one of the other list
pub filled_more : {X Y Z : Type 0} (f : X → Z) (g : Y → Z) (xs zs : List X) (x : X) (ys : List Y) (i : ℕ) (y : Y) → zs ≡ xs ++ x ∷ [] → i < length ys →
    map f xs ≡ map g (take i ys) → f x ≡ g (get_or ys i y) → map f zs ≡ map g (take (i + 1) ys)
filled_more f g xs zs x ys i y is low before same = ap (map f) is ∙ map_push f xs x ∙ (λ j. before j ++ same j ∷ []) ∙ sym (map_more g ys i y low)
