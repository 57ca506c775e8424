-- Scopes that are read are lists of numbers of variables.
use Rattle.voc_read.proofs.Prelude.{◌≡◌, ℕ, ◌+◌, ◌<◌, Bool, true, false, cond, nat_lt, List, [], ◌∷◌, length, Option, Some, None, option_and_then, Result, Ok, Err, refl, sym, subst, All, position_or_len, ok_or, bytes_eq, All-nil, All-cons, same_Some, ltb-true, Data, Items, no_items, item, VocFault, then_on, variable_number, numbers_of, scope_stated, scopes_from}
use Rattle.std.proofs.Common.{option_map}

abbrev AreBelow : ℕ → List ℕ → Type 0
AreBelow n vs = All (λ v. v < n) vs

found_below : (at n v : ℕ) (inside : Bool) → inside ≡ nat_lt at n → ◌≡◌ {A = Option ℕ} (cond inside (Some at) None) (Some v) → v < n
found_below at n v true e h = subst (λ x. x < n) (same_Some at v h) (ltb-true at n (sym e))
found_below at n v false e h = absurd (cc)

-- what holds where something is found
abbrev OfSome : {A : Type 0} → (A → Type 0) → Option A → Type 0
OfSome P None = Unit {0}
OfSome P (Some x) = P x

abbrev OfOk : {A : Type 0} → (A → Type 0) → Result A VocFault → Type 0
OfOk P (Err fault) = Unit {0}
OfOk P (Ok x) = P x

of_some : {A : Type 0} (P : A → Type 0) (o : Option A) → ((x : A) → o ≡ Some x → P x) → OfSome P o
of_some P None h = tt
of_some P (Some x) h = h x refl

one_more : (n : ℕ) (number : Option ℕ) (rest : Option (List ℕ)) → OfSome (λ v. v < n) number → OfSome (AreBelow n) rest
    → OfSome (AreBelow n) (option_and_then (λ v. option_map (λ vs. v ∷ vs) rest) number)
one_more n None rest x y = tt
one_more n (Some v) None x y = tt
one_more n (Some v) (Some vs) x y = All-cons (λ v. v < n) v vs x y

below : (names listed : List (List ℕ)) → OfSome (AreBelow (length names)) (numbers_of names listed)
below names [] = All-nil (λ v. v < length names)
below names (name ∷ listed) =
    one_more (length names) (variable_number names name) (numbers_of names listed)
    (of_some (λ v. v < length names) (variable_number names name) (λ v is. found_below (position_or_len (bytes_eq name) names) (length names) v _ refl is)) (below names listed)

as_read : (n : ℕ) (numbers : Option (List ℕ)) (fault : VocFault) → OfSome (AreBelow n) numbers → OfOk (AreBelow n) (ok_or numbers fault)
as_read n None fault x = tt
as_read n (Some vs) fault x = x

when_listed : (n : ℕ) (listed : Result (List (List ℕ)) VocFault) (next : List (List ℕ) → Result (List ℕ) VocFault) → ((texts : List (List ℕ)) → OfOk (AreBelow n) (next texts))
    → OfOk (AreBelow n) (then_on listed next)
when_listed n (Err fault) next h = tt
when_listed n (Ok texts) next h = h texts

one_scope : (i : ℕ) (names : List (List ℕ)) (value : Data) → OfOk (AreBelow (length names)) (scope_stated i names value)
one_scope i names value = when_listed (length names) _ _ (λ texts. as_read (length names) (numbers_of names texts) _ (below names texts))

one_scope_more : (n : ℕ) (scope : Result (List ℕ) VocFault) (rest : Result (List (List ℕ)) VocFault) → OfOk (AreBelow n) scope → OfOk (All (AreBelow n)) rest
    → OfOk (All (AreBelow n)) (then_on scope (λ s. then_on rest (λ more. Ok (s ∷ more))))
one_scope_more n (Err fault) rest x y = tt
one_scope_more n (Ok scope) (Err fault) x y = tt
one_scope_more n (Ok scope) (Ok more) x y = All-cons (AreBelow n) scope more x y

all_below : (i : ℕ) (names : List (List ℕ)) (items : Items) → OfOk (All (AreBelow (length names))) (scopes_from i names items)
all_below i names no_items = All-nil (AreBelow (length names))
all_below i names (item value values) = one_scope_more (length names) (scope_stated i names value) (scopes_from (i + 1) names values) (one_scope i names value) (all_below (i + 1) names values)

pub known : (names : List (List ℕ)) (items : Items) (scopes : List (List ℕ)) → scopes_from 0 names items ≡ Ok scopes → All (All (λ v. v < length names)) scopes
known names items scopes is = subst (OfOk (All (AreBelow (length names)))) is (all_below 0 names items)
