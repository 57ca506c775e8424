-- Listed relations.
use Rattle.language.proofs.Prelude.{◌≡◌, Bool, true, false, ◌&&◌, List, [], ◌∷◌, refl, sym, subst, Contains, slice_index_or, beq, list_any_at, Any-from_list_any, Relation, is_same_relation, is_listed}

same_head : (x y b : Bool) → (beq x y && b) ≡ true → (x ≡ y) × (b ≡ true)
same_head true true b h = (refl, h)
same_head false false b h = (refl, h)
same_head true false b h = absurd (let e : false ≡ true = h in cc)
same_head false true b h = absurd (let e : false ≡ true = h in cc)

pub same_is : (r q : Relation) → is_same_relation r q ≡ true → r ≡ q
same_is [] [] h = refl
same_is [] (y ∷ q) h = absurd (let e : false ≡ true = h in cc)
same_is (x ∷ r) [] h = absurd (let e : false ≡ true = h in cc)
same_is (x ∷ r) (y ∷ q) h = let parts = same_head x y (is_same_relation r q) h in λ i. parts.0 i ∷ same_is r q parts.1 i

pub same_itself : (r : Relation) → is_same_relation r r ≡ true
same_itself [] = refl
same_itself (true ∷ r) = same_itself r
same_itself (false ∷ r) = same_itself r

pub contains_listed : (relations : List Relation) (r : Relation) → is_listed relations r ≡ true → Contains relations r
contains_listed relations r h =
    let found = Any-from_list_any (is_same_relation r) relations h in
    (found.0, found.2, subst (λ (q : Relation). slice_index_or relations found.0 q ≡ q) (sym (same_is r found.1 found.4)) found.3)

pub listed_contains : (relations : List Relation) (r : Relation) → Contains relations r → is_listed relations r ≡ true
listed_contains relations r has =
    list_any_at (is_same_relation r) relations has.0 r has.1 (subst (λ q. is_same_relation r q ≡ true) (sym has.2) (same_itself r))
