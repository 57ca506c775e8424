-- One candidate a scope: there are no more of them than scopes.
use Rattle.network.proofs.Prelude.{◌≡◌, ℕ, ◌<◌, ◌≤◌, true, false, ◌||◌, List, [], ◌∷◌, ◌++◌, length, map, refl, sym, ◌∙◌, subst, arith, nat_eq, All, list_any, eqb-true, length-map, map-append, length_push, All-nil, All-map, All-push, Any-from_list_any, Candidate, has_scope}
use Rattle.std.specs.List.{IsDistinct}
use Rattle.std.specs.Cmp.{nat_eq_equiv}
use Rattle.std.proofs.lemmas.Map.Keys.{IsDistinct-push}
use Rattle.std.proofs.lemmas.Map.Steps.{length-le_from_distinct_below}
use Rattle.language.proofs.Members.{any-map}

abbrev pub scopes_of : List Candidate → List ℕ
scopes_of list = map (λ (c : Candidate). c.scope) list

below_of : (scopes : ℕ) (xs : List ℕ) → All (λ s. s < scopes) xs → (q : ℕ) → list_any (nat_eq q) xs ≡ true → q < scopes
below_of scopes xs known q found =
    let at = Any-from_list_any (nat_eq q) xs found in
    let low : at.1 < scopes = subst (λ (x : ℕ). x < scopes) at.3 (known at.0 at.1 at.2) in
    let same = eqb-true q at.1 at.4 in
    omega arith

-- no more than scopes
pub few : (scopes : ℕ) (list : List Candidate) → IsDistinct nat_eq (scopes_of list) → All (λ (c : Candidate). c.scope < scopes) list → length list ≤ scopes
few scopes list apart known =
    let most = length-le_from_distinct_below (scopes_of list) scopes apart (below_of scopes (scopes_of list) (All-map (λ s. s < scopes) (λ (c : Candidate). c.scope) list known)) in
    let long = length-map list (λ (c : Candidate). c.scope) in
    omega arith

turned : (s : ℕ) (list : List Candidate) → list_any (λ (c : Candidate). nat_eq s c.scope) list ≡ has_scope list s
turned s [] = refl
turned s (c ∷ list) = λ i. nat_eq_equiv.symm s c.scope i || turned s list i

-- one more, on a scope that has none
pub apart_more : (list : List Candidate) (c : Candidate) → IsDistinct nat_eq (scopes_of list) → has_scope list c.scope ≡ false → IsDistinct nat_eq (scopes_of (list ++ c ∷ []))
apart_more list c apart fresh = subst (IsDistinct nat_eq) (sym (map-append (λ (d : Candidate). d.scope) list (c ∷ [])))
    (IsDistinct-push nat_eq_equiv (scopes_of list) c.scope apart (any-map (nat_eq c.scope) (λ (d : Candidate). d.scope) list ∙ turned c.scope list ∙ fresh))

pub room_for : (scopes : ℕ) (list : List Candidate) (c : Candidate) → IsDistinct nat_eq (scopes_of list) → All (λ (d : Candidate). d.scope < scopes) list → has_scope list c.scope ≡ false → c.scope < scopes → length list < scopes
room_for scopes list c apart known fresh low =
    let most = few scopes (list ++ c ∷ []) (apart_more list c apart fresh) (All-push (λ (d : Candidate). d.scope < scopes) list c known low) in
    let long = length_push list c in
    omega arith

-- none
pub none_apart : IsDistinct nat_eq (scopes_of [])
unfolding IsDistinct
none_apart = tt

pub none_known : (scopes : ℕ) → All (λ (c : Candidate). c.scope < scopes) []
none_known scopes = All-nil (λ (c : Candidate). c.scope < scopes)
