use Rattle.rel_table.proofs.Prelude.{◌≡◌, suc, List, [], ◌∷◌, Bool, length, arith, ap, refl, meet}

pub length-meet : (xs ys : List Bool) → length xs ≡ length ys → length (meet xs ys) ≡ length xs
length-meet [] ys e = refl
length-meet (x ∷ xs) [] e = absurd (omega arith)
length-meet (x ∷ xs) (y ∷ ys) e = ap suc (length-meet xs ys (omega arith))
