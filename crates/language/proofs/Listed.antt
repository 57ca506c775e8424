-- Listed scopes, as lists.
use Rattle.language.proofs.Prelude.{◌≡◌, ℕ, ◌<◌, List, length, map, Some, None, ◌∙◌, arith, position, not, Global, SmallVec, Given, ScopeOrder, TooManyScopes, is_ordered, scopes_refusal}
use Rattle.language.proofs.Lawful.{position-map, length-same, refused_order, refused_many}

abbrev pub lists_in : List (SmallVec ℕ 4 Global) → List (List ℕ)
lists_in listed = map (λ (scope : SmallVec ℕ 4 Global). scope.items) listed

pub first_is : (listed : List (SmallVec ℕ 4 Global)) → position (λ scope. not (is_ordered scope)) (lists_in listed) ≡ position (λ (scope : SmallVec ℕ 4 Global). not (is_ordered scope.items)) listed
first_is listed = position-map (λ scope. not (is_ordered scope)) (λ (scope : SmallVec ℕ 4 Global). scope.items) listed

pub unordered : (given : List Given) (listed : List (SmallVec ℕ 4 Global)) (i : ℕ) → position (λ (scope : SmallVec ℕ 4 Global). not (is_ordered scope.items)) listed ≡ Some i →
    scopes_refusal given (lists_in listed) ≡ Some (ScopeOrder i)
unordered given listed i h = refused_order given (lists_in listed) i (first_is listed ∙ h)

pub many : (given : List Given) (listed : List (SmallVec ℕ 4 Global)) → position (λ (scope : SmallVec ℕ 4 Global). not (is_ordered scope.items)) listed ≡ None → 8192 < length listed →
    scopes_refusal given (lists_in listed) ≡ Some TooManyScopes
many given listed h few = refused_many given (lists_in listed) (first_is listed ∙ h) (let same = length-same (λ (scope : SmallVec ℕ 4 Global). scope.items) listed in omega (arith, same, few))
